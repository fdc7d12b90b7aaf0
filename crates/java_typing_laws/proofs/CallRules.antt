-- The rules of calls and instance creations give them their types (JLS 15.9, 15.12).
use Rattle.std.proofs.Common.{◌≡◌, ◌∙◌, ℕ, Bool, true, false, cond, Option, Some, None, List, refl, sym, subst, ap}
use Rattle.std.specs.Option.{IsSomeAnd}
use Rattle.rlc_base.specs.declared.place.Pos.{Pos}
use Rattle.rlc_base.specs.declared.code.Code.{Code}
use Rattle.rlc_base.specs.declared.code.Code.TheVariants as codes_of
use Rattle.program_model.specs.declared.kinds.ClassId.{ClassId}
use Rattle.program_model.specs.declared.kinds.MethodId.{MethodId}
use Rattle.program_model.specs.declared.kinds.MethodKind.TheVariants as methods
use Rattle.program_model.specs.declared.kinds.VType.{VType}
use Rattle.program_model.specs.declared.kinds.VType.TheVariants as types
use Rattle.program_model.specs.declared.program.Program.{Program}
use Rattle.program_model.specs.declared.program.Class.{Class}
use Rattle.program_model.specs.declared.program.Method.{Method}
use Rattle.program_model.specs.declared.program.ParamSig.{ParamSig}
use Rattle.program_model.specs.declared.tree.Var.{Var}
use Rattle.program_model.specs.Hierarchy.{IsDirectSuper, IsUnder, above}
use Rattle.program_model.specs.Lookups.{class_at, method_at}
use Rattle.program_model.specs.SuperTests.{is_class}
use Rattle.program_model.specs.Typing.{IsConcrete, IsTypeBelow, IsTypeUnder, class_of, is_array}
use Rattle.program_model.specs.Validity.{IsResult}
use Rattle.java_conversions.specs.Types.{type_of_class}
use Rattle.java_syntax.specs.declared.names.Name.{Name}
use Rattle.class_members.proofs.Elements.{contains-none}
use Rattle.class_members.specs.Members.{constructors_of}
use Rattle.java_typed_trees.specs.declared.facts.Answer.{Answer}
use Rattle.java_typed_trees.specs.declared.facts.Answer.TheVariants as answers
use Rattle.java_typed_trees.specs.declared.facts.Facts.{Facts}
use Rattle.java_typed_trees.specs.declared.shapes.CallShape.{CallShape}
use Rattle.java_typed_trees.specs.declared.shapes.CallShape.TheVariants as calls
use Rattle.java_typed_trees.specs.declared.shapes.Shape.TheVariants as shapes
use Rattle.java_typed_trees.specs.Answers.{mismatch, of_one, type_in, type_of, value_at}
use Rattle.java_typed_trees.specs.ExpressionTrees.{ExprTree, ExprTrees, and_expression, expressions}
use Rattle.java_call_rules.specs.JavaMemberRulesCalls.{call_as, class_call_by, is_abstract_class, is_static_method, new_object_by, object_call_by, object_call_of, result_type, super_call_by, super_call_of, target_form, unqualified_call_by}
use Rattle.java_variable_rules.specs.JavaMemberRulesNames.{result_in}
use Rattle.java_call_rules.specs.Arguments.{in_contexts}
use Rattle.java_call_rules.specs.CallParts.{argument_trees, parameters_in, trees_for}
use Rattle.java_call_rules.specs.Calls.{call_by, class_call, is_bodied, members_named, new_by, new_of, object_call, of_method, super_by, super_class}
use Rattle.java_call_rules.specs.WrittenTypes.{class_of_name}
use Rattle.java_call_rules.specs.Surroundings.{Surroundings}
use Rattle.java_call_rules.specs.TypedParts.{Typing, trees_in}
use Rattle.java_typing_laws.specs.TypingContexts.{IsInBody, TypingContext, context_with}
use Rattle.java_typing_laws.specs.TypedTrees.{AreArguments, AreTypedTrees, IsCallTarget, IsTypedNode, Part, arguments_in, is_this_shape, part_of, parts_in}
use Rattle.java_typing_laws.proofs.ConditionalRules.{type_of_class_is_plain}
use Rattle.java_typing_laws.proofs.Conversions.{is_class_law, same_in}
use Rattle.java_typing_laws.proofs.Members.{super_is_direct}
use Rattle.java_typing_laws.proofs.Methods.{IsMeantMethod, IsMethodAbove, constructor_law, instance_method_law, method_rule, named_method, static_method_law, taken_law}
use Rattle.java_typing_laws.proofs.NameRules.{IsTypedBeside, choose}
use Rattle.java_typing_laws.proofs.OperatorRules.{IfPlain, IsTypedAnswer, declarable_is_plain, has}
use Rattle.java_typing_laws.proofs.Typings.{ArePassed, AreTyped, arguments_passed, trees_typed}

module _ (s : Surroundings) (variables : List Var) (owner : Option ClassId) (is : IsInBody s variables owner) where
  abbrev c : TypingContext
  c = context_with s variables owner

  abbrev p : Program
  p = s.context.program

  -- ---- results

  result_typed : (form : CallShape) (m : MethodId) (x : Method) (parts : List Part) → method_at p m ≡ Some x → IsCallTarget p form parts x → AreArguments p (arguments_in form parts) x.sig.params.items → (r : Option VType) → x.sig.result ≡ r → IsTypedNode c (shapes.Call form m) (type_in (result_type r)) parts × IfPlain p (type_in (result_type r))
  result_typed form m x parts at target arguments None e = (has (method_at p m) x (λ y. IsCallTarget p form parts y × AreArguments p (arguments_in form parts) y.sig.params.items × (y.sig.result ≡ None)) at (target, arguments, e), tt)
  result_typed form m x parts at target arguments (Some t) e = (has (method_at p m) x (λ y. IsCallTarget p form parts y × AreArguments p (arguments_in form parts) y.sig.params.items × (y.sig.result ≡ Some t)) at (target, arguments, e), declarable_is_plain p t (subst (IsResult p) e (is.members.results m x at)))

  call_typed : (place : Pos) (form : CallShape) (m : MethodId) (x : Method) (parts : List Part) → method_at p m ≡ Some x → IsCallTarget p form parts x → AreArguments p (arguments_in form parts) x.sig.params.items → IsTypedAnswer c (call_as p place form m) parts
  call_typed place form m x parts at target arguments =
      subst (λ (r : Option VType). IsTypedNode c (shapes.Call form m) (type_in (result_type r)) parts × IfPlain p (type_in (result_type r))) (sym (ap result_in at)) (result_typed form m x parts at target arguments x.sig.result refl)

  -- ---- arguments

  passed : (candidates : List MethodId) (arguments : List Typing) (m : MethodId) (x : Method) → AreTyped c arguments → IsMeantMethod p candidates arguments m → method_at p m ≡ Some x → ArePassed c x.sig.params.items (trees_for p (Some m) arguments)
  passed candidates arguments m x typed meant at =
      let taken = taken_law p arguments (method_at p m) x at meant.taken in
      subst (λ (ws : List VType). ArePassed c x.sig.params.items (expressions (in_contexts ws (trees_in arguments)))) (sym (ap parameters_in at)) (arguments_passed c is.members.hierarchy x.sig.params.items arguments typed meant.typed taken.long taken.fit)

  refused_beside : (place at : Pos) (k : Code) (arguments : List Typing) → AreTyped c arguments → IsTypedBeside s c place (argument_trees p (answers.Wrong k at) arguments) (answers.Wrong k at)
  refused_beside place at k arguments typed = record { typed = tt; parts = trees_typed c arguments typed }

  silent_beside : (place at : Pos) (arguments : List Typing) → AreTyped c arguments → IsTypedBeside s c place (argument_trees p (answers.Silent at) arguments) (answers.Silent at)
  silent_beside place at arguments typed = record { typed = tt; parts = trees_typed c arguments typed }

  -- ---- calls without a written target

  abbrev IsCallHere : Pos → List Typing → Answer → Type 0
  IsCallHere place arguments a = IsTypedBeside s c place (argument_trees p a arguments) a

  unqualified_rule : (place : Pos) (candidates : List MethodId) (arguments : List Typing) (m : MethodId) → AreTyped c arguments → IsMeantMethod p candidates arguments m → IsMethodAbove p s.context.class' m → IsCallHere place arguments (unqualified_call_by p s.context.has_this place m)
  unqualified_rule place candidates arguments m typed meant x =
      let args = passed candidates arguments m x.method typed meant x.is in
      choose (IsCallHere place arguments) (is_static_method (method_at p m)) (call_as p place calls.Static m) (cond s.context.has_this (call_as p place calls.This m) (mismatch place))
      (λ yes. record { typed = call_typed place calls.Static m x.method _ x.is (static_method_law p m x.method x.is yes) args.passed; parts = args.typed })
      (λ no. choose (IsCallHere place arguments) s.context.has_this (call_as p place calls.This m) (mismatch place)
      (λ yes. record { typed = call_typed place calls.This m x.method _ x.is (instance_method_law p m x.method x.is x.kind no, refl, x.under) args.passed; parts = ((is.has_owner yes, tt), args.typed) })
      (λ none. refused_beside place place codes_of.Mismatch arguments typed))

  pub call_rule : (place : Pos) (name : List ℕ) (arguments : List Typing) → AreTyped c arguments → IsCallHere place arguments (call_by s place name arguments)
  call_rule place name arguments typed =
      method_rule (IsCallHere place arguments) p place (members_named s name (Some s.context.class')) arguments (unqualified_call_by p s.context.has_this place) (silent_beside place place arguments typed) (λ k. refused_beside place place k arguments typed)
      (λ m meant. unqualified_rule place (members_named s name (Some s.context.class')) arguments m typed meant (named_method p is.members s.context.class' s.context.class' name m meant.candidate))

  -- what is declared above the class, and not in it
  below_law : (d e : ClassId) → IsDirectSuper p s.context.class' d → IsUnder p d e → IsTypeBelow p e (types.Obj s.context.class')
  below_law d e direct under = (
    above s.context.class' d e direct under,
    (λ same. (is.members.hierarchy.supers s.context.class' direct.0 direct.1).acyclic d direct (subst (IsUnder p d) (sym (same_in s.context.class' e same)) under)),
  )

  super_rule_of : (place : Pos) (candidates : List MethodId) (arguments : List Typing) (m : MethodId) (d : ClassId) (has_body : Bool) → AreTyped c arguments → IsMeantMethod p candidates arguments m → IsMethodAbove p d m → IsDirectSuper p s.context.class' d → IsCallHere place arguments (super_call_by p s.context.has_this has_body place m)
  super_rule_of place candidates arguments m d has_body typed meant x direct =
      let args = passed candidates arguments m x.method typed meant x.is in
      choose (IsCallHere place arguments) (is_static_method (method_at p m)) (mismatch place) (super_call_of p s.context.has_this has_body place m)
      (λ yes. refused_beside place place codes_of.Mismatch arguments typed)
      (λ no. choose (IsCallHere place arguments) s.context.has_this (cond has_body (call_as p place calls.Super m) (answers.Wrong codes_of.NotAbstract place)) (mismatch place)
      (λ yes. choose (IsCallHere place arguments) has_body (call_as p place calls.Super m) (answers.Wrong codes_of.NotAbstract place)
      (λ body. record { typed = call_typed place calls.Super m x.method _ x.is (instance_method_law p m x.method x.is x.kind no, refl, below_law d x.method.class direct x.under) args.passed; parts = ((is.has_owner yes, tt), args.typed) })
      (λ none. refused_beside place place codes_of.NotAbstract arguments typed))
      (λ none. refused_beside place place codes_of.Mismatch arguments typed))

  super_rule_from : (place : Pos) (name : List ℕ) (arguments : List Typing) → AreTyped c arguments → (o : Option ClassId) → super_class s ≡ o → (m : MethodId) → IsMeantMethod p (members_named s name o) arguments m → IsCallHere place arguments (super_call_by p s.context.has_this (is_bodied p (method_at p m)) place m)
  super_rule_from place name arguments typed None e m meant = absurd (contains-none m meant.candidate)
  super_rule_from place name arguments typed (Some d) e m meant = super_rule_of place (members_named s name (Some d)) arguments m d (is_bodied p (method_at p m)) typed meant (named_method p is.members s.context.class' d name m meant.candidate) (super_is_direct p s.context.class' d (class_at p s.context.class') refl e)

  pub super_rule : (place : Pos) (name : List ℕ) (arguments : List Typing) → AreTyped c arguments → IsCallHere place arguments (super_by s place name arguments)
  super_rule place name arguments typed =
      method_rule (IsCallHere place arguments) p place (members_named s name (super_class s)) arguments (λ m. super_call_by p s.context.has_this (is_bodied p (method_at p m)) place m) (silent_beside place place arguments typed) (λ k. refused_beside place place k arguments typed)
      (λ m meant. super_rule_from place name arguments typed (super_class s) refl m meant)

  -- ---- calls on a class and on a value

  -- the answer and its arguments
  pub record IsTypedWith (arguments : List Typing) (front : ExprTrees → ExprTrees) (a : Answer) : Type 0 where
    pub typed : IsTypedAnswer c a (parts_in (front (argument_trees p a arguments)))
    pub parts : AreTypedTrees c (argument_trees p a arguments)

  refused_with : (place : Pos) (k : Code) (arguments : List Typing) (front : ExprTrees → ExprTrees) → AreTyped c arguments → IsTypedWith arguments front (answers.Wrong k place)
  refused_with place k arguments front typed = record { typed = tt; parts = trees_typed c arguments typed }

  silent_with : (place : Pos) (arguments : List Typing) (front : ExprTrees → ExprTrees) → AreTyped c arguments → IsTypedWith arguments front (answers.Silent place)
  silent_with place arguments front typed = record { typed = tt; parts = trees_typed c arguments typed }

  pub class_call_rule : (place : Pos) (name : List ℕ) (d : ClassId) (arguments : List Typing) → AreTyped c arguments → IsTypedWith arguments (λ ts. ts) (class_call s place name d arguments)
  class_call_rule place name d arguments typed =
      method_rule (IsTypedWith arguments (λ ts. ts)) p place (members_named s name (Some d)) arguments (class_call_by p place) (silent_with place arguments (λ ts. ts) typed) (λ k. refused_with place k arguments (λ ts. ts) typed)
      (λ m meant.
      let x = named_method p is.members s.context.class' d name m meant.candidate in
      let args = passed (members_named s name (Some d)) arguments m x.method typed meant x.is in
      choose (IsTypedWith arguments (λ ts. ts)) (is_static_method (method_at p m)) (call_as p place calls.Static m) (mismatch place)
      (λ yes. record { typed = call_typed place calls.Static m x.method _ x.is (static_method_law p m x.method x.is yes) args.passed; parts = args.typed })
      (λ no. refused_with place codes_of.Mismatch arguments (λ ts. ts) typed))

  -- the target of a call on a value: `this`, or any other
  target_law : (is_this : Bool) (t : ExprTree) (ts : ExprTrees) (x : Method) → is_this_shape (part_of t).shape ≡ is_this → x.kind ≡ methods.Instance → IsSomeAnd (part_of t).vtype (IsTypeUnder p x.class) → IsCallTarget p (target_form is_this) (parts_in (and_expression t ts)) x
  target_law true t ts x e kind under = (kind, e, under)
  target_law false t ts x e kind under = (kind, e, under)

  behind_target : (is_this : Bool) (t : ExprTree) (ts : ExprTrees) (params : List ParamSig) → AreArguments p (parts_in ts) params → AreArguments p (arguments_in (target_form is_this) (parts_in (and_expression t ts))) params
  behind_target true t ts params h = h
  behind_target false t ts params h = h

  object_rule_from : (is_this : Bool) (place : Pos) (name : List ℕ) (e : Facts) (t : ExprTree) (v : VType) (arguments : List Typing) → AreTyped c arguments → is_this_shape (part_of t).shape ≡ is_this → (part_of t).vtype ≡ Some v → type_of e ≡ Some v → (o : Option ClassId) → class_of p v ≡ o → (m : MethodId) → IsMeantMethod p (members_named s name o) arguments m → IsTypedWith arguments (and_expression t) (object_call_by p is_this place m e)
  object_rule_from is_this place name e t v arguments typed shape vtype known None of m meant = absurd (contains-none m meant.candidate)
  object_rule_from is_this place name e t v arguments typed shape vtype known (Some d) of m meant =
      let x = named_method p is.members s.context.class' d name m meant.candidate in
      let args = passed (members_named s name (Some d)) arguments m x.method typed meant x.is in
      let under : IsTypeUnder p x.method.class v = has (class_of p v) d (λ k. IsUnder p k x.method.class) of x.under in
      let ts : ExprTrees = trees_for p (Some m) arguments in
      let whole = choose (IsTypedWith arguments (and_expression t)) (is_static_method (method_at p m)) (mismatch place) (call_as p place (target_form is_this) m)
      (λ yes. refused_with place codes_of.Mismatch arguments (and_expression t) typed)
      (λ no. record { typed = call_typed place (target_form is_this) m x.method _ x.is (target_law is_this t ts x.method shape (instance_method_law p m x.method x.is x.kind no) (has (part_of t).vtype v (IsTypeUnder p x.method.class) vtype under)) (behind_target is_this t ts x.method.sig.params.items args.passed); parts = args.typed }) in
      subst (λ (o : Option VType). IsTypedWith arguments (and_expression t) (of_one_of o)) (sym known) whole
    where
      of_one_of : Option VType → Answer
      of_one_of o = of_one place o (λ u. object_call_of p is_this place m)

  pub object_rule : (is_this : Bool) (place : Pos) (name : List ℕ) (e : Facts) (t : ExprTree) (arguments : List Typing) → AreTyped c arguments → ((v : VType) → type_of e ≡ Some v → is_this_shape (part_of t).shape ≡ is_this) → (part_of t).vtype ≡ type_of e → IsTypedWith arguments (and_expression t) (object_call s is_this place name e arguments)
  object_rule is_this place name e t arguments typed shape vtype = by (type_of e) refl
    where
      by : (o : Option VType) → type_of e ≡ o → IsTypedWith arguments (and_expression t) (of_one place o (λ v. of_method p place (members_named s name (class_of p v)) arguments (λ m. object_call_by p is_this place m e)))
      by None known = silent_with place arguments (and_expression t) typed
      by (Some v) known =
          method_rule (IsTypedWith arguments (and_expression t)) p place (members_named s name (class_of p v)) arguments (λ m. object_call_by p is_this place m e) (silent_with place arguments (and_expression t) typed) (λ k. refused_with place k arguments (and_expression t) typed)
          (λ m meant. object_rule_from is_this place name e t v arguments typed (shape v known) (vtype ∙ known) known (class_of p v) refl m meant)

  -- ---- instance creations

  concrete_law : (d : ClassId) (k : Class) → class_at p d ≡ Some k → is_abstract_class (class_at p d) ≡ false → IsConcrete p d
  concrete_law d k at h = has (class_at p d) k (λ y. y.is_abstract ≡ false) at (sym (ap is_abstract_class at) ∙ h)

  class_of_type : (d : ClassId) (b : Bool) → is_class d p.core.string ≡ b → (class_of p (cond b types.Str (types.Obj d)) ≡ Some d) × (is_array (cond b types.Str (types.Obj d)) ≡ false)
  class_of_type d true e = (ap (λ (x : ClassId). let y : Option ClassId = Some x in y) (sym (is_class_law d p.core.string e)), refl)
  class_of_type d false e = (refl, refl)

  new_rule_of : (place : Pos) (d : ClassId) (arguments : List Typing) → AreTyped c arguments → IsTypedWith arguments (λ ts. ts) (new_of s place (Some d) arguments)
  new_rule_of place d arguments typed =
      choose (IsTypedWith arguments (λ ts. ts)) (is_abstract_class (class_at p d)) (answers.Wrong codes_of.NotAbstract place) (of_method p place (constructors_of p s.context.class' d) arguments (new_object_by p place d))
      (λ yes. refused_with place codes_of.NotAbstract arguments (λ ts. ts) typed)
      (λ no. method_rule (IsTypedWith arguments (λ ts. ts)) p place (constructors_of p s.context.class' d) arguments (new_object_by p place d) (silent_with place arguments (λ ts. ts) typed) (λ k. refused_with place k arguments (λ ts. ts) typed)
      (λ m meant.
      let x = constructor_law p is.members s.context.class' d m meant.candidate in
      let args = passed (constructors_of p s.context.class' d) arguments m x.method typed meant x.is in
      let of_type = class_of_type d (is_class d p.core.string) refl in
      choose (IsTypedWith arguments (λ ts. ts)) (is_abstract_class (class_at p d)) (answers.Wrong codes_of.NotAbstract place) (answers.Is (shapes.NewObject d m) (value_at place (type_of_class p d)))
      (λ yes. refused_with place codes_of.NotAbstract arguments (λ ts. ts) typed)
      (λ none. record {
        typed = ((has (method_at p m) x.method (λ y. (y.kind ≡ methods.Ctor) × (y.class ≡ d) × AreArguments p (parts_in (trees_for p (Some m) arguments)) y.sig.params.items) x.is (x.kind, x.own, args.passed), concrete_law d x.class' x.known none, of_type.0, of_type.1), type_of_class_is_plain p d);
        parts = args.typed;
      })))

  pub new_rule : (place : Pos) (name : Name) (arguments : List Typing) → AreTyped c arguments → IsTypedWith arguments (λ ts. ts) (new_by s place name arguments)
  new_rule place name arguments typed = by (class_of_name s name.text)
    where
      by : (o : Option ClassId) → IsTypedWith arguments (λ ts. ts) (new_of s place o arguments)
      by None = silent_with place arguments (λ ts. ts) typed
      by (Some d) = new_rule_of place d arguments typed

-- The rules of names, `this` and field accesses give an expression its type.
use Rattle.std.proofs.Common.{◌≡◌, ◌∙◌, ℕ, Bool, true, false, cond, Option, Some, None, ℤ, List, [], ◌∷◌, All, refl, sym, subst, find, codes}
use Rattle.std.specs.Option.{IsSomeAnd}
use Rattle.std.specs.Str.{bytes_eq}
use Rattle.std.proofs.lemmas.Bool.{and_parts}
use Rattle.std.proofs.lemmas.List.Elements.{All-head, All-tail}
use Rattle.rlc_base.specs.declared.place.Pos.{Pos}
use Rattle.program_model.specs.declared.kinds.ClassId.{ClassId}
use Rattle.program_model.specs.declared.kinds.FieldId.{FieldId}
use Rattle.program_model.specs.declared.kinds.MethodId.{MethodId}
use Rattle.program_model.specs.declared.kinds.MethodKind.TheVariants as methods
use Rattle.program_model.specs.declared.kinds.VType.{VType}
use Rattle.program_model.specs.declared.kinds.VType.TheVariants as types
use Rattle.program_model.specs.declared.program.Program.{Program}
use Rattle.program_model.specs.declared.program.Field.{Field}
use Rattle.program_model.specs.declared.program.Method.{Method}
use Rattle.program_model.specs.declared.tree.Var.{Var}
use Rattle.program_model.specs.Hierarchy.{IsUnder}
use Rattle.program_model.specs.Lookups.{field_at, method_at}
use Rattle.program_model.specs.Typing.{IsTypeUnder, class_of, is_array}
use Rattle.program_model.specs.Validity.{IsResult}
use Rattle.class_members.specs.declared.fields.FieldMember.{FieldMember}
use Rattle.class_members.specs.declared.fields.FieldMember.TheVariants as found
use Rattle.class_members.specs.Members.{field_named}
use Rattle.java_typed_trees.specs.declared.facts.Answer.{Answer}
use Rattle.java_typed_trees.specs.declared.facts.Answer.TheVariants as answers
use Rattle.java_typed_trees.specs.declared.facts.Facts.{Facts}
use Rattle.java_typed_trees.specs.declared.scope.Local.{Local}
use Rattle.java_typed_trees.specs.declared.scope.NameMeaning.{NameMeaning}
use Rattle.java_typed_trees.specs.declared.scope.NameMeaning.TheVariants as meanings
use Rattle.java_typed_trees.specs.declared.scope.Variable.{Variable}
use Rattle.java_typed_trees.specs.declared.shapes.Shape.TheVariants as shapes
use Rattle.java_typed_trees.specs.Answers.{constant_at, mismatch, type_in, type_of, typed_as, value_at}
use Rattle.java_typed_trees.specs.ExpressionTrees.{ExprTrees, no_expression}
use Rattle.java_typed_trees.specs.Names.{meaning_among}
use Rattle.java_operator_expressions.specs.Arrays.{length_at}
use Rattle.java_variable_rules.specs.JavaMemberRulesFields.{class_field_by, field_access_by, instance_field, member_access, static_field}
use Rattle.java_variable_rules.specs.JavaMemberRulesNames.{field_of, name_by, own_field, result_in, this_by, variable_of}
use Rattle.java_call_rules.specs.CallParts.{with_implied_this}
use Rattle.java_variable_rules.specs.Fields.{access_of, class_access, field_of_type, is_length, object_access}
use Rattle.java_variable_rules.specs.Names.{field_constant, field_meaning, identifier_by, member_meaning, name_meaning}
use Rattle.java_call_rules.specs.Surroundings.{Surroundings}
use Rattle.java_typing_laws.specs.TypingContexts.{IsInBody, IsVariableOf, TypingContext, context_with, type_of_number}
use Rattle.java_typing_laws.specs.TypedTrees.{AreTypedTrees, Part, parts_in}
use Rattle.java_typing_laws.proofs.Members.{IsMemberOf, each_some, field_named_law, of_known}
use Rattle.java_typing_laws.proofs.OperatorRules.{IsTypedAnswer, chosen, declarable_is_plain, has, length_rule, one_rule}

-- an answer and its parts: those that are given, and the implied `this` where the answer implies it
pub record IsTypedBeside (s : Surroundings) (c : TypingContext) (place : Pos) (ts : ExprTrees) (a : Answer) : Type 0 where
  pub typed : IsTypedAnswer c a (parts_in (with_implied_this s place a ts))
  pub parts : AreTypedTrees c (with_implied_this s place a ts)

pub choose : (P : Answer → Type 0) (b : Bool) (x y : Answer) → (b ≡ true → P x) → (b ≡ false → P y) → P (cond b x y)
choose P true x y h g = h refl
choose P false x y h g = g refl

-- what the name means, of a value of the type
abbrev pub IsMeant : TypingContext → VType → NameMeaning → Type 0
IsMeant c t (meanings.Variable x) = (u : VType) → type_in x.static_type ≡ Some u → type_of_number c.variables x.number ≡ Some u
IsMeant c t (meanings.Field f) = IsSomeAnd (field_at c.program f) (λ x. IsTypeUnder c.program x.class t)
IsMeant c t (meanings.LibraryConstant m) = IsSomeAnd (method_at c.program m) (λ x. x.kind ≡ methods.Constant)
IsMeant c t meanings.NoVariable = Unit {0}

member_is_meant : (c : TypingContext) (d : ClassId) (t : VType) → class_of c.program t ≡ Some d → (o : Option FieldMember) → IsMemberOf c.program d o → IsMeant c t (member_meaning o)
member_is_meant c d t of None h = tt
member_is_meant c d t of (Some (found.Field f)) h = each_some (field_at c.program f) (λ x. IsUnder c.program d x.class) (λ x. IsTypeUnder c.program x.class t) (λ x under. has (class_of c.program t) d (λ e. IsUnder c.program e x.class) of under) h
member_is_meant c d t of (Some (found.Constant m)) h = h

found_is_meant : (c : TypingContext) (test : Local → Bool) (locals : List Local) → All (IsVariableOf c.variables) locals → (t : VType) (member : NameMeaning) → IsMeant c t member → IsMeant c t (meaning_among (find test locals) member)
found_is_meant c test [] h t member g = g
found_is_meant c test (x ∷ xs) h t member g = by (test x) (found_is_meant c test xs (All-tail (IsVariableOf c.variables) x xs h) t member g)
  where
    by : (b : Bool) → IsMeant c t (meaning_among (find test xs) member) → IsMeant c t (meaning_among (cond b (Some x) (find test xs)) member)
    by true rest = All-head (IsVariableOf c.variables) x xs h
    by false rest = rest

module _ (s : Surroundings) (variables : List Var) (owner : Option ClassId) (is : IsInBody s variables owner) where
  abbrev c : TypingContext
  c = context_with s variables owner

  abbrev p : Program
  p = s.context.program

  -- an answer that implies no `this`, over no parts
  bare : (place : Pos) (a : Answer) → with_implied_this s place a no_expression ≡ no_expression → IsTypedAnswer c a [] → IsTypedBeside s c place no_expression a
  bare place a e h = record { typed = subst (λ ts. IsTypedAnswer c a (parts_in ts)) (sym e) h; parts = subst (AreTypedTrees c) (sym e) tt }

  variable_rule : (place : Pos) (x : Variable) (t : Option VType) → type_in x.static_type ≡ t → IsMeant c (types.Obj s.context.class') (meanings.Variable x) → IsTypedBeside s c place no_expression (variable_of place x t)
  variable_rule place x None e h = record { typed = tt; parts = tt }
  variable_rule place x (Some t) e h = record { typed = (h t e, declarable_is_plain p t (is.declarable x.number t (h t e))); parts = tt }

  -- a static field, and an instance field of `this`
  static_rule : (place : Pos) (n : Option ℤ) (f : FieldId) (x : Field) → field_at p f ≡ Some x → x.is_static ≡ true → IsTypedAnswer c (answers.Is (shapes.StaticField f) (constant_at place x.vtype n)) []
  static_rule place n f x e test = (has (field_at p f) x (λ y. (y.is_static ≡ true) × (y.vtype ≡ x.vtype)) e (test, refl), declarable_is_plain p x.vtype (is.members.field_types f x e))

  own_rule : (place : Pos) (n : Option ℤ) (f : FieldId) (x : Field) → field_at p f ≡ Some x → x.is_static ≡ false → IsTypeUnder p x.class (types.Obj s.context.class') → IsTypedBeside s c place no_expression (own_field s.context.has_this place n f x.vtype)
  own_rule place n f x e test under =
      choose (IsTypedBeside s c place no_expression) s.context.has_this (answers.Is (shapes.Field f) (constant_at place x.vtype n)) (mismatch place)
      (λ yes. record {
        typed = (has (field_at p f) x (λ y. (y.is_static ≡ false) × (y.vtype ≡ x.vtype) × IsTypeUnder p y.class (types.Obj s.context.class')) e (test, refl, under), declarable_is_plain p x.vtype (is.members.field_types f x e));
        parts = (((is.has_owner yes), tt), tt);
      })
      (λ no. record { typed = tt; parts = tt })

  field_rule : (place : Pos) (n : Option ℤ) (f : FieldId) (x : Option Field) → field_at p f ≡ x → IsMeant c (types.Obj s.context.class') (meanings.Field f) → IsTypedBeside s c place no_expression (field_of s.context.has_this place n f x)
  field_rule place n f None e h = record { typed = tt; parts = tt }
  field_rule place n f (Some x) e h =
      choose (IsTypedBeside s c place no_expression) x.is_static (answers.Is (shapes.StaticField f) (constant_at place x.vtype n)) (own_field s.context.has_this place n f x.vtype)
      (λ yes. record { typed = static_rule place n f x e yes; parts = tt })
      (λ no. own_rule place n f x e no (of_known (field_at p f) x (λ y. IsTypeUnder p y.class (types.Obj s.context.class')) e h))

  constant_typed : (place : Pos) (m : MethodId) (x : Option Method) → method_at p m ≡ x → IsSomeAnd x (λ y. y.kind ≡ methods.Constant) → IsTypedAnswer c (typed_as (shapes.LibraryConstant m) place (result_in x)) []
  constant_typed place m None e h = tt
  constant_typed place m (Some x) e h = by x.sig.result refl (is.members.results m x e)
    where
      by : (r : Option VType) → x.sig.result ≡ r → IsResult p x.sig.result → IsTypedAnswer c (typed_as (shapes.LibraryConstant m) place r) []
      by None g d = tt
      by (Some t) g d = (has (method_at p m) x (λ y. (y.kind ≡ methods.Constant) × (y.sig.result ≡ Some t)) e (h, g), declarable_is_plain p t (subst (IsResult p) g d))

  constant_beside : (place : Pos) (m : MethodId) (t : Option VType) → IsTypedAnswer c (typed_as (shapes.LibraryConstant m) place t) [] → IsTypedBeside s c place no_expression (typed_as (shapes.LibraryConstant m) place t)
  constant_beside place m None h = record { typed = tt; parts = tt }
  constant_beside place m (Some t) h = record { typed = h; parts = tt }

  name_rule : (place : Pos) (n : Option ℤ) (m : NameMeaning) → IsMeant c (types.Obj s.context.class') m → IsTypedBeside s c place no_expression (name_by p s.context.has_this place n m)
  name_rule place n (meanings.Variable x) h = variable_rule place x (type_in x.static_type) refl h
  name_rule place n (meanings.Field f) h = field_rule place n f (field_at p f) refl h
  name_rule place n (meanings.LibraryConstant m) h = constant_beside place m (result_in (method_at p m)) (constant_typed place m (method_at p m) refl h)
  name_rule place n meanings.NoVariable h = record { typed = tt; parts = tt }

  pub identifier_rule : (place : Pos) (name : List ℕ) → IsTypedBeside s c place no_expression (identifier_by s name place)
  identifier_rule place name =
      let own : VType = types.Obj s.context.class' in
      let member = member_is_meant c s.context.class' own refl (field_named p s.context.class' s.context.class' name) (field_named_law p is.members s.context.class' s.context.class' name) in
      name_rule place (field_constant s (name_meaning s name)) (name_meaning s name) (found_is_meant c (λ x. bytes_eq x.name name) s.context.locals is.locals own (field_meaning s name s.context.class') member)

  pub this_rule : (place : Pos) → IsTypedAnswer c (this_by s.context.has_this s.context.class' place) []
  this_rule place = chosen c s.context.has_this (answers.Is (shapes.This true) (value_at place (types.Obj s.context.class'))) (mismatch place) [] (λ yes. (is.has_owner yes, is.not_string)) (λ no. tt)

  -- ---- field accesses

  instance_rule : (place : Pos) (f : FieldId) (t : VType) (part : Part) → part.vtype ≡ Some t → (x : Option Field) → field_at p f ≡ x → IsMeant c t (meanings.Field f) → IsTypedAnswer c (instance_field place f x) (part ∷ [])
  instance_rule place f t part first None e h = tt
  instance_rule place f t part first (Some x) e h =
      chosen c x.is_static (mismatch place) (answers.Is (shapes.Field f) (value_at place x.vtype)) (part ∷ [])
      (λ yes. tt)
      (λ no. (has (field_at p f) x (λ y. (y.is_static ≡ false) × (y.vtype ≡ x.vtype) × IsSomeAnd part.vtype (IsTypeUnder p y.class)) e (no, refl, has part.vtype t (IsTypeUnder p x.class) first (of_known (field_at p f) x (λ y. IsTypeUnder p y.class t) e h)), declarable_is_plain p x.vtype (is.members.field_types f x e)))

  access_rule : (place : Pos) (m : NameMeaning) (t : VType) (part : Part) → part.vtype ≡ Some t → IsMeant c t m → IsTypedAnswer c (member_access p place m) (part ∷ [])
  access_rule place (meanings.Variable x) t part first h = tt
  access_rule place (meanings.Field f) t part first h = instance_rule place f t part first (field_at p f) refl h
  access_rule place (meanings.LibraryConstant m) t part first h = tt
  access_rule place meanings.NoVariable t part first h = tt

  class_is_meant : (name : List ℕ) (d : ClassId) (t : VType) → class_of p t ≡ Some d → IsMeant c t (field_meaning s name d)
  class_is_meant name d t of = member_is_meant c d t of (field_named p s.context.class' d name) (field_named_law p is.members s.context.class' d name)

  field_is_meant : (name : List ℕ) (t : VType) → IsMeant c t (field_of_type s name t)
  field_is_meant name (types.Primitive k) = tt
  field_is_meant name types.Str = class_is_meant name p.core.string types.Str refl
  field_is_meant name (types.Arr k) = tt
  field_is_meant name (types.Obj d) = class_is_meant name d (types.Obj d) refl
  field_is_meant name types.NullType = tt

  pub object_access_rule : (place : Pos) (name : List ℕ) (e : Facts) (part : Part) → part.vtype ≡ type_of e → IsTypedAnswer c (object_access s place name e) (part ∷ [])
  object_access_rule place name e part first =
      one_rule c place (type_of e) (access_of s place name e) (part ∷ [])
      (λ t d. chosen c (is_length name t) (length_at place) (field_access_by p place (field_of_type s name t) e) (part ∷ [])
      (λ yes. length_rule c place t (part ∷ []) (first ∙ d) (and_parts (is_array t) (bytes_eq name (codes "length")) yes).0)
      (λ no. one_rule c place (type_of e) (λ u. member_access p place (field_of_type s name t)) (part ∷ []) (λ u g. access_rule place (field_of_type s name t) t part (first ∙ d) (field_is_meant name t))))

  class_field_rule : (place : Pos) (n : Option ℤ) (m : NameMeaning) (t : VType) → IsMeant c t m → IsTypedAnswer c (class_field_by p place n m) []
  class_field_rule place n (meanings.Variable x) t h = tt
  class_field_rule place n (meanings.Field f) t h = by (field_at p f) refl
    where
      by : (x : Option Field) → field_at p f ≡ x → IsTypedAnswer c (static_field place n f x) []
      by None e = tt
      by (Some x) e = chosen c x.is_static (answers.Is (shapes.StaticField f) (constant_at place x.vtype n)) (mismatch place) [] (λ yes. static_rule place n f x e yes) (λ no. tt)
  class_field_rule place n (meanings.LibraryConstant m) t h = constant_typed place m (method_at p m) refl h
  class_field_rule place n meanings.NoVariable t h = tt

  pub class_access_rule : (place : Pos) (name : List ℕ) (d : ClassId) → IsTypedAnswer c (class_access s place name d) []
  class_access_rule place name d = class_field_rule place (field_constant s (field_meaning s name d)) (field_meaning s name d) (types.Obj d) (class_is_meant name d (types.Obj d) refl)

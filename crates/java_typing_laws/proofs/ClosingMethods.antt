-- The method that closes a resource is an instance method `close()` that a value of the resource's type has.
use Rattle.std.proofs.Common.{◌≡◌, ℕ, true, false, Option, Some, None, List, [], ◌∷◌, length, refl, subst, arith}
use Rattle.std.specs.Option.{IsSomeAnd}
use Rattle.std.specs.Str.{bytes_eq}
use Rattle.std.proofs.lemmas.Bool.{and_parts}
use Rattle.std.proofs.lemmas.Slice.Eq.{bytes_eq-Decides}
use Rattle.rlc_base.specs.declared.place.Pos.{Pos}
use Rattle.program_model.specs.declared.kinds.ClassId.{ClassId}
use Rattle.program_model.specs.declared.kinds.MethodId.{MethodId}
use Rattle.program_model.specs.declared.kinds.VType.{VType}
use Rattle.program_model.specs.declared.program.Method.{Method}
use Rattle.program_model.specs.declared.program.ParamSig.{ParamSig}
use Rattle.program_model.specs.declared.program.Program.{Program}
use Rattle.program_model.specs.Hierarchy.{IsUnder}
use Rattle.program_model.specs.Lookups.{method_at}
use Rattle.program_model.specs.Overrides.{is_method_kind}
use Rattle.program_model.specs.Typing.{IsClose, IsTypeUnder, class_of}
use Rattle.class_members.specs.Members.{is_accessible, is_named_by}
use Rattle.class_members.proofs.Elements.{contains-none}
use Rattle.class_members.proofs.MemberLaws.{members_are_members}
use Rattle.java_typed_trees.specs.declared.facts.Answer.{Answer}
use Rattle.java_typed_trees.specs.declared.facts.Answer.TheVariants as answers
use Rattle.java_typed_trees.specs.declared.shapes.CallShape.TheVariants as calls
use Rattle.java_typed_trees.specs.Answers.{mismatch, value_at}
use Rattle.java_call_rules.specs.JavaMemberRulesCalls.{call_as, is_static_method, object_call_by}
use Rattle.java_call_rules.specs.Calls.{members_named, object_call}
use Rattle.java_call_rules.specs.CallParts.{method_in}
use Rattle.java_call_rules.specs.Surroundings.{Surroundings}
use Rattle.java_statement_rules.specs.Resources.{close_name, closing_by, is_closeable}
use Rattle.java_typing_laws.specs.TypingContexts.{HasTypedMembers}
use Rattle.java_typing_laws.proofs.Conversions.{no_test, none_is_some, same_in}
use Rattle.java_typing_laws.proofs.Methods.{IsMeantMethod, instance_method_law, method_rule, named_method, taken_law}
use Rattle.java_typing_laws.proofs.NameRules.{choose}
use Rattle.java_typing_laws.proofs.OperatorRules.{has}

-- a method of this name
named_by : (from c : ClassId) (name : List ℕ) (o : Option Method) (x : Method) → o ≡ Some x → is_named_by from c name o ≡ true → x.name ≡ name
named_by from c name None x is h = no_test h
named_by from c name (Some y) x is h =
    let test = and_parts (is_method_kind y.kind) (bytes_eq y.name name) (and_parts _ (is_accessible from c y.class y.is_private) h).0 in
    subst (λ (z : Method). z.name ≡ name) (same_in y x is) ((bytes_eq-Decides y.name name).0 test.1)

no_parameters : (params : List ParamSig) → 0 ≡ length params → params ≡ []
no_parameters [] h = refl
no_parameters (x ∷ xs) h = absurd (omega arith)

-- the method that the answer means, if it means one, closes a value of the type
abbrev pub IsClosing : Program → VType → Answer → Type 0
IsClosing p t a = (m : MethodId) → method_in a ≡ Some m → IsSomeAnd (method_at p m) (IsClose p t)

no_method : (p : Program) (t : VType) (m : MethodId) → ◌≡◌ {A = Option MethodId} None (Some m) → IsSomeAnd (method_at p m) (IsClose p t)
no_method p t m h = absurd (none_is_some m h)

module _ (s : Surroundings) (members : HasTypedMembers s.context.program) where
  abbrev p : Program
  p = s.context.program

  called : (place : Pos) (t : VType) (o : Option ClassId) → class_of p t ≡ o → (m : MethodId) → IsMeantMethod p (members_named s close_name o) [] m → IsClosing p t (object_call_by p false place m (value_at place t))
  called place t None of m meant = absurd (contains-none m meant.candidate)
  called place t (Some d) of m meant =
      let x = named_method p members s.context.class' d close_name m meant.candidate in
      let found = ((members_are_members p s.context.class' d close_name m).0 meant.candidate).is_kept.is_found in
      let name = named_by s.context.class' d close_name (method_at p m) x.method x.is found.named in
      let taken = taken_law p [] (method_at p m) x.method x.is meant.taken in
      let under : IsTypeUnder p x.method.class t = has (class_of p t) d (λ k. IsUnder p k x.method.class) of x.under in
      choose (IsClosing p t) (is_static_method (method_at p m)) (mismatch place) (call_as p place calls.Other m)
      (λ yes n e. no_method p t n e)
      (λ no n e. subst (λ (k : MethodId). IsSomeAnd (method_at p k) (IsClose p t)) (same_in m n e) (has (method_at p m) x.method (IsClose p t) x.is (instance_method_law p m x.method x.is x.kind no, name, no_parameters x.method.sig.params.items taken.long, under)))

  object_closes : (place : Pos) (t : VType) → IsClosing p t (object_call s false place close_name (value_at place t) [])
  object_closes place t =
      method_rule (IsClosing p t) p place (members_named s close_name (class_of p t)) [] (λ m. object_call_by p false place m (value_at place t))
      (λ n e. no_method p t n e) (λ k n e. no_method p t n e)
      (λ m meant. called place t (class_of p t) refl m meant)

  pub closing_law : (place : Pos) (t : VType) → IsClosing p t (closing_by s place (Some t))
  closing_law place t =
      choose (IsClosing p t) (is_closeable s t) (object_call s false place close_name (value_at place t) []) (answers.Silent place)
      (λ yes. object_closes place t) (λ no n e. no_method p t n e)

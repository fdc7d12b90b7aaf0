-- The refusal of a core library that lacks a class comes before each refusal of a type.
use Rattle.std.proofs.Common.{◌≡◌, ◌∙◌, ap, refl, subst, arith, ⊎_elim, inl, inr, ℕ, Bool, true, false, Option, Some, None, List, [], ◌∷◌, ◌++◌}
use Rattle.std.specs.Prelude.{flat_map, is_none, ◌⊎◌, ◌&&◌, if◌then◌else◌}
use Rattle.std.specs.List.{All, Contains}
use Rattle.std.proofs.lemmas.Bool.Decides.{nat_tests}
use Rattle.std.proofs.lemmas.List.Elements.{All-append, All-cons, All-contains, All-nil}
use Rattle.rlc_base.specs.declared.code.Code.TheVariants as refused
use Rattle.rlc_base.specs.declared.faults.Refusal.{Refusal}
use Rattle.rlc_base.specs.declared.place.Pos.{Pos}
use Rattle.java_syntax.specs.declared.names.Name.{Name}
use Rattle.java_syntax.specs.declared.names.Typ.{Typ}
use Rattle.java_syntax.specs.declared.declaration_trees.FieldDecl.{FieldDecl}
use Rattle.java_syntax.specs.declared.declaration_trees.Member.{Member}
use Rattle.java_syntax.specs.declared.declaration_trees.Member.TheVariants as members
use Rattle.java_syntax.specs.declared.declaration_trees.Param.{Param}
use Rattle.refusal_order.specs.Refusals.{is_before, is_less_or, least, refused_at, where_true}
use Rattle.class_names.specs.declared.class_name.ClassName.{ClassName}
use Rattle.class_names.specs.declared.meaning.Meaning.{Meaning}
use Rattle.class_names.specs.declared.meaning.Meaning.TheVariants.{Named, NoClass, TwoClasses}
use Rattle.class_names.specs.Meanings.{CompilationUnit, meaning_of}
use Rattle.class_names.specs.WrittenTypes.{written_type}
use Rattle.class_order.specs.Cases.{IsLeast}
use Rattle.class_order.specs.Core.{core_missing}
use Rattle.class_order.specs.Declarations.{Declaration, class_names}
use Rattle.class_order.specs.Modifiers.{has_static}
use Rattle.class_order.specs.UnknownNames.{header_names, unknown_at, unknown_name, unknown_names}
use Rattle.class_order.proofs.LeastLemmas.{least_joined, least_of_list, not_before_itself}
use Rattle.class_declarations.specs.Members.{Written, MethodOf, ConstructorOf, is_class_type, parameters_of, receiver_of, result_of, throws_of}
use Rattle.class_checks.specs.TypeCases.{IsTypeCase, LacksCore, all_type_cases, bad_static, is_read_in_stub, type_cases, unknown_if_some, unknown_in_field, unknown_in_head, unknown_in_member, unknown_receiver, unknown_type}
use Rattle.refusal_order.proofs.LeastLaws.{lesser_of-none}

-- ---- each refusal has the code of an unknown type

abbrev IsOfType : Refusal → Type 0
IsOfType r = r.code ≡ refused.UnknownType

of_flat : {X : Type 0} (f : X → List Refusal) → ((x : X) → All IsOfType (f x)) → (xs : List X) → All IsOfType (flat_map f xs)
of_flat f each [] = All-nil IsOfType
of_flat f each (x ∷ xs) = All-append IsOfType (f x) (flat_map f xs) (each x) (of_flat f each xs)

of_test : (b : Bool) (pos : Pos) → All IsOfType (where_true b refused.UnknownType pos)
of_test true pos = All-cons IsOfType (refused_at refused.UnknownType pos) [] refl (All-nil IsOfType)
of_test false pos = All-nil IsOfType

of_meaning : (pos : Pos) (m : Meaning) → All IsOfType (unknown_at pos m)
of_meaning pos (Named c) = All-nil IsOfType
of_meaning pos NoClass = of_test true pos
of_meaning pos TwoClasses = of_test true pos

of_names : (classes : List ClassName) (u : CompilationUnit) (names : List Name) → All IsOfType (unknown_names classes u names)
of_names classes u names = of_flat (unknown_name classes u) (λ n. of_meaning n.pos (meaning_of classes u n.text)) names

of_type : (classes : List ClassName) (u : CompilationUnit) (t : Typ) → All IsOfType (unknown_type classes u t)
of_type classes u t = of_test (is_none (written_type classes u t)) t.pos

of_result : (classes : List ClassName) (u : CompilationUnit) (o : Option Typ) → All IsOfType (unknown_if_some classes u o)
of_result classes u None = All-nil IsOfType
of_result classes u (Some t) = of_type classes u t

of_receiver : (classes : List ClassName) (u : CompilationUnit) (o : Option Param) → All IsOfType (unknown_receiver classes u o)
of_receiver classes u None = All-nil IsOfType
of_receiver classes u (Some x) = of_type classes u x.typ

of_head : (classes : List ClassName) (u : CompilationUnit) (w : Written) → All IsOfType (unknown_in_head classes u w)
of_head classes u w =
    All-append IsOfType _ _
    (All-append IsOfType _ _
    (All-append IsOfType _ _ (of_result classes u (result_of w)) (of_receiver classes u (receiver_of w)))
    (of_flat (λ (x : Param). unknown_type classes u x.typ) (λ x. of_type classes u x.typ) (parameters_of w)))
    (of_names classes u (throws_of w))

of_field : (classes : List ClassName) (u : CompilationUnit) (f : FieldDecl) → All IsOfType (unknown_in_field classes u f)
of_field classes u f = by_unit u.library (is_read_in_stub f)
  where
    by_unit : (library read : Bool) → All IsOfType (if library then (if read then unknown_type classes u f.typ else []) else unknown_type classes u f.typ ++ bad_static classes u f)
    by_unit true true = of_type classes u f.typ
    by_unit true false = All-nil IsOfType
    by_unit false read = All-append IsOfType (unknown_type classes u f.typ) (bad_static classes u f) (of_type classes u f.typ) (of_test (has_static f.modifiers.items && is_class_type (written_type classes u f.typ)) f.typ.pos)

of_member : (classes : List ClassName) (u : CompilationUnit) (m : Member) → All IsOfType (unknown_in_member classes u m)
of_member classes u (members.Field f) = of_field classes u f
of_member classes u (members.Method m) = of_head classes u (MethodOf m)
of_member classes u (members.Constructor k) = of_head classes u (ConstructorOf k)

of_class : (classes : List ClassName) (d : Declaration) → All IsOfType (type_cases classes d)
of_class classes d =
    All-append IsOfType _ _ (of_names classes d.unit (header_names d)) (of_flat (unknown_in_member classes d.unit) (of_member classes d.unit) d.class_tree.members.items)

of_classes : (classes : List ClassName) (order : List Declaration) → All IsOfType (all_type_cases classes order)
of_classes classes order = of_flat (type_cases classes) (of_class classes) order

-- ---- none comes before that of the core library

not_less : (n : ℕ) (behind : Bool) → behind ≡ false → is_less_or n 0 behind ≡ false
not_less n true never = absurd (let no : true ≡ false = never in cc)
not_less n false is = grind (arith, nat_tests)

not_before_core : (s : Refusal) → IsOfType s → is_before s core_missing ≡ false
not_before_core s is =
    ap (λ code. is_before (record { code = code; pos = s.pos }) core_missing) is
    ∙ not_less s.pos.file _ (not_less s.pos.line _ (not_less s.pos.col false refl))

pub core_first : (order : List Declaration) → LacksCore (class_names order) → IsLeast (IsTypeCase order) (Some core_missing)
core_first order lacks = (
  inl (lacks, refl),
  λ s due. ⊎_elim
      (λ core. ap (λ x. is_before x core_missing) core.1 ∙ not_before_itself core_missing)
      (λ has. not_before_core s (All-contains IsOfType (all_type_cases (class_names order) order) s (of_classes (class_names order) order) has))
      due,
)

-- ---- with a whole core library the refusals are those of types

pub types_only : (order : List Declaration) (r : Option Refusal) → (LacksCore (class_names order) → ⊥) → r ≡ least (all_type_cases (class_names order) order) → IsLeast (IsTypeCase order) r
types_only order r whole is =
    let cases = all_type_cases (class_names order) order in
    let P : Option Refusal → Type 0 = IsLeast (IsTypeCase order) in
    subst P (lesser_of-none r) (least_joined (Contains cases) (λ s. LacksCore (class_names order) × (s ≡ core_missing)) (IsTypeCase order) r None
    (λ s due. ⊎_elim (λ core. inr core) (λ has. inl has) due)
    (λ s has. inr has)
    (λ s core. inl core)
    (least_of_list cases is)
    (λ s core. whole core.0))

-- What the tests of types and conversions say.
use Rattle.std.proofs.Common.{◌≡◌, ◌⊎◌, inl, inr, eqb-true, Bool, true, false, cond, ◌||◌, Option, Some, None, ℤ, refl, sym, subst, ap, true≢false}
use Rattle.std.proofs.lemmas.Bool.{and_parts}
use Rattle.program_model.specs.declared.kinds.ClassId.{ClassId}
use Rattle.program_model.specs.declared.kinds.Primitive.{Primitive}
use Rattle.program_model.specs.declared.kinds.Primitive.TheVariants as primitives
use Rattle.program_model.specs.declared.kinds.ElementType.{ElementType}
use Rattle.program_model.specs.declared.kinds.ElementType.TheVariants as elements
use Rattle.program_model.specs.declared.kinds.VType.{VType}
use Rattle.program_model.specs.declared.kinds.VType.TheVariants as types
use Rattle.program_model.specs.declared.kinds.OperandType.{OperandType}
use Rattle.program_model.specs.declared.kinds.OperandType.TheVariants as operand_types
use Rattle.program_model.specs.declared.program.Program.{Program}
use Rattle.program_model.specs.Hierarchy.{IsHierarchy, IsUnder, itself}
use Rattle.program_model.specs.SuperTests.{is_class}
use Rattle.program_model.specs.Typing.{IsAssignable, IsNumeric, IsOperand, IsReference, boolean, int, long, number_result}
use Rattle.program_model.proofs.HierarchyLaws.{is_under_law}
use Rattle.java_conversions.specs.Conversions.{fits, is_assignable, is_narrow_value, narrows, widens}
use Rattle.java_conversions.specs.Operators.{binary_promoted, both_promoted, is_concatenated, promoted, taken_if, wider}
use Rattle.java_conversions.specs.Types.{is_boolean, is_index, is_numeric, is_reference, is_same_element, is_same_primitive}

-- ---- options and tests

pub none_is_some : {X : Type 0} (x : X) → ◌≡◌ {A = Option X} None (Some x) → ⊥
none_is_some x h = cc

pub same_in : {X : Type 0} (x y : X) → ◌≡◌ {A = Option X} (Some x) (Some y) → x ≡ y
same_in x y h = cc

pub no_test : {X : Type 0} → false ≡ true → X
no_test h = absurd (true≢false (sym h))

-- the branch that gives a value
pub from_branch : {X Q : Type 0} (b : Bool) (x y : Option X) (u : X) → (b ≡ true → x ≡ Some u → Q) → (b ≡ false → y ≡ Some u → Q) → cond b x y ≡ Some u → Q
from_branch true x y u h g e = h refl e
from_branch false x y u h g e = g refl e

-- ---- kinds of types

pub is_boolean_law : (t : VType) → is_boolean t ≡ true → t ≡ boolean
is_boolean_law (types.Primitive primitives.Boolean) h = refl
is_boolean_law (types.Primitive primitives.Byte) h = no_test h
is_boolean_law (types.Primitive primitives.Char) h = no_test h
is_boolean_law (types.Primitive primitives.Int) h = no_test h
is_boolean_law (types.Primitive primitives.Long) h = no_test h
is_boolean_law types.Str h = no_test h
is_boolean_law (types.Arr k) h = no_test h
is_boolean_law (types.Obj c) h = no_test h
is_boolean_law types.NullType h = no_test h

pub is_numeric_law : (t : VType) → is_numeric t ≡ true → IsNumeric t
is_numeric_law (types.Primitive primitives.Boolean) h = no_test h
is_numeric_law (types.Primitive primitives.Byte) h = tt
is_numeric_law (types.Primitive primitives.Char) h = tt
is_numeric_law (types.Primitive primitives.Int) h = tt
is_numeric_law (types.Primitive primitives.Long) h = tt
is_numeric_law types.Str h = no_test h
is_numeric_law (types.Arr k) h = no_test h
is_numeric_law (types.Obj c) h = no_test h
is_numeric_law types.NullType h = no_test h

pub is_index_law : (t : VType) → is_index t ≡ true → IsNumeric t
is_index_law (types.Primitive primitives.Boolean) h = no_test h
is_index_law (types.Primitive primitives.Byte) h = tt
is_index_law (types.Primitive primitives.Char) h = tt
is_index_law (types.Primitive primitives.Int) h = tt
is_index_law (types.Primitive primitives.Long) h = no_test h
is_index_law types.Str h = no_test h
is_index_law (types.Arr k) h = no_test h
is_index_law (types.Obj c) h = no_test h
is_index_law types.NullType h = no_test h

pub is_reference_law : (t : VType) → is_reference t ≡ true → IsReference t
is_reference_law (types.Primitive k) h = no_test h
is_reference_law types.Str h = tt
is_reference_law (types.Arr k) h = tt
is_reference_law (types.Obj c) h = tt
is_reference_law types.NullType h = tt

pub is_same_primitive_law : (a b : Primitive) → is_same_primitive a b ≡ true → a ≡ b
is_same_primitive_law primitives.Boolean primitives.Boolean h = refl
is_same_primitive_law primitives.Boolean primitives.Byte h = no_test h
is_same_primitive_law primitives.Boolean primitives.Char h = no_test h
is_same_primitive_law primitives.Boolean primitives.Int h = no_test h
is_same_primitive_law primitives.Boolean primitives.Long h = no_test h
is_same_primitive_law primitives.Byte primitives.Boolean h = no_test h
is_same_primitive_law primitives.Byte primitives.Byte h = refl
is_same_primitive_law primitives.Byte primitives.Char h = no_test h
is_same_primitive_law primitives.Byte primitives.Int h = no_test h
is_same_primitive_law primitives.Byte primitives.Long h = no_test h
is_same_primitive_law primitives.Char primitives.Boolean h = no_test h
is_same_primitive_law primitives.Char primitives.Byte h = no_test h
is_same_primitive_law primitives.Char primitives.Char h = refl
is_same_primitive_law primitives.Char primitives.Int h = no_test h
is_same_primitive_law primitives.Char primitives.Long h = no_test h
is_same_primitive_law primitives.Int primitives.Boolean h = no_test h
is_same_primitive_law primitives.Int primitives.Byte h = no_test h
is_same_primitive_law primitives.Int primitives.Char h = no_test h
is_same_primitive_law primitives.Int primitives.Int h = refl
is_same_primitive_law primitives.Int primitives.Long h = no_test h
is_same_primitive_law primitives.Long primitives.Boolean h = no_test h
is_same_primitive_law primitives.Long primitives.Byte h = no_test h
is_same_primitive_law primitives.Long primitives.Char h = no_test h
is_same_primitive_law primitives.Long primitives.Int h = no_test h
is_same_primitive_law primitives.Long primitives.Long h = refl

pub is_same_element_law : (a b : ElementType) → is_same_element a b ≡ true → a ≡ b
is_same_element_law (elements.Primitive a) (elements.Primitive b) h = ap (λ k. elements.Primitive k) (is_same_primitive_law a b h)
is_same_element_law (elements.Primitive a) elements.Str h = no_test h
is_same_element_law elements.Str (elements.Primitive b) h = no_test h
is_same_element_law elements.Str elements.Str h = refl

pub is_class_law : (c d : ClassId) → is_class c d ≡ true → c ≡ d
is_class_law c d h = λ i. record { 0 = eqb-true c.0 d.0 h i }

-- ---- promotion

-- the operands are promoted to it
abbrev pub IsNumber : OperandType → Type 0
IsNumber operand_types.Int = Unit {0}
IsNumber operand_types.Long = Unit {0}
IsNumber operand_types.Boolean = ⊥
IsNumber operand_types.Text = ⊥
IsNumber operand_types.Reference = ⊥

pub number_operand : (u : OperandType) (t : VType) → IsNumber u → IsNumeric t → IsOperand u t
number_operand operand_types.Int t h g = g
number_operand operand_types.Long t h g = g
number_operand operand_types.Boolean t h g = absurd h
number_operand operand_types.Text t h g = absurd h
number_operand operand_types.Reference t h g = absurd h

pub number_result_law : (u : OperandType) (t : VType) → number_result u ≡ Some t → (t ≡ int) ⊎ (t ≡ long)
number_result_law operand_types.Int t h = inl (sym (same_in int t h))
number_result_law operand_types.Long t h = inr (sym (same_in long t h))
number_result_law operand_types.Boolean t h = absurd (none_is_some t h)
number_result_law operand_types.Text t h = absurd (none_is_some t h)
number_result_law operand_types.Reference t h = absurd (none_is_some t h)

pub promoted_law : (t : VType) (u : OperandType) → promoted t ≡ Some u → IsNumeric t × IsNumber u
promoted_law (types.Primitive primitives.Boolean) u h = absurd (none_is_some u h)
promoted_law (types.Primitive primitives.Byte) u h = (tt, subst IsNumber (same_in _ u h) tt)
promoted_law (types.Primitive primitives.Char) u h = (tt, subst IsNumber (same_in _ u h) tt)
promoted_law (types.Primitive primitives.Int) u h = (tt, subst IsNumber (same_in _ u h) tt)
promoted_law (types.Primitive primitives.Long) u h = (tt, subst IsNumber (same_in _ u h) tt)
promoted_law types.Str u h = absurd (none_is_some u h)
promoted_law (types.Arr k) u h = absurd (none_is_some u h)
promoted_law (types.Obj c) u h = absurd (none_is_some u h)
promoted_law types.NullType u h = absurd (none_is_some u h)

wider_is_number : (u v : OperandType) → IsNumber u → IsNumber v → IsNumber (wider u v)
wider_is_number operand_types.Int v h g = g
wider_is_number operand_types.Long v h g = tt
wider_is_number operand_types.Boolean v h g = absurd h
wider_is_number operand_types.Text v h g = absurd h
wider_is_number operand_types.Reference v h g = absurd h

pub record ArePromoted (a b : VType) (u : OperandType) : Type 0 where
  pub first : IsNumeric a
  pub second : IsNumeric b
  pub number : IsNumber u

both_promoted_law : (a b : VType) (x y : Option OperandType) (u : OperandType) → promoted a ≡ x → promoted b ≡ y → both_promoted x y ≡ Some u → ArePromoted a b u
both_promoted_law a b None y u e d h = absurd (none_is_some u h)
both_promoted_law a b (Some v) None u e d h = absurd (none_is_some u h)
both_promoted_law a b (Some v) (Some w) u e d h =
    let first = promoted_law a v e in
    let second = promoted_law b w d in
    record { first = first.0; second = second.0; number = subst IsNumber (same_in (wider v w) u h) (wider_is_number v w first.1 second.1) }

pub binary_promoted_law : (a b : VType) (u : OperandType) → binary_promoted a b ≡ Some u → ArePromoted a b u
binary_promoted_law a b u h = both_promoted_law a b (promoted a) (promoted b) u refl refl h

pub taken_law : (b : Bool) (t u : OperandType) → taken_if b t ≡ Some u → (b ≡ true) × (t ≡ u)
taken_law true t u h = (refl, same_in t u h)
taken_law false t u h = absurd (none_is_some u h)

pub concatenated_law : (t : VType) → is_concatenated t ≡ true → IsOperand operand_types.Text t
concatenated_law (types.Primitive k) h = tt
concatenated_law types.Str h = tt
concatenated_law (types.Arr k) h = no_test h
concatenated_law (types.Obj c) h = no_test h
concatenated_law types.NullType h = tt

-- ---- assignment

pub assignable_to_itself : (p : Program) (t : VType) → IsAssignable p t t
assignable_to_itself p (types.Primitive primitives.Boolean) = refl
assignable_to_itself p (types.Primitive primitives.Byte) = tt
assignable_to_itself p (types.Primitive primitives.Char) = tt
assignable_to_itself p (types.Primitive primitives.Int) = tt
assignable_to_itself p (types.Primitive primitives.Long) = tt
assignable_to_itself p types.Str = inl refl
assignable_to_itself p (types.Arr k) = inl refl
assignable_to_itself p (types.Obj c) = inr (itself c)
assignable_to_itself p types.NullType = refl

pub number_is_assignable : (p : Program) (from to : VType) → IsNumeric from → IsNumeric to → IsAssignable p from to
number_is_assignable p from (types.Primitive primitives.Boolean) h g = absurd g
number_is_assignable p from (types.Primitive primitives.Byte) h g = h
number_is_assignable p from (types.Primitive primitives.Char) h g = h
number_is_assignable p from (types.Primitive primitives.Int) h g = h
number_is_assignable p from (types.Primitive primitives.Long) h g = h
number_is_assignable p from types.Str h g = absurd g
number_is_assignable p from (types.Arr k) h g = absurd g
number_is_assignable p from (types.Obj c) h g = absurd g
number_is_assignable p from types.NullType h g = absurd g

pub null_is_assignable : (p : Program) (to : VType) → IsReference to → IsAssignable p types.NullType to
null_is_assignable p (types.Primitive k) h = absurd h
null_is_assignable p types.Str h = inr refl
null_is_assignable p (types.Arr k) h = inr refl
null_is_assignable p (types.Obj c) h = inl refl
null_is_assignable p types.NullType h = refl

primitive_fits_law : (p : Program) (a b : Primitive) → widens a b ≡ true → IsAssignable p (types.Primitive a) (types.Primitive b)
primitive_fits_law p primitives.Boolean primitives.Boolean h = refl
primitive_fits_law p primitives.Boolean primitives.Byte h = no_test h
primitive_fits_law p primitives.Boolean primitives.Char h = no_test h
primitive_fits_law p primitives.Boolean primitives.Int h = no_test h
primitive_fits_law p primitives.Boolean primitives.Long h = no_test h
primitive_fits_law p primitives.Byte primitives.Boolean h = no_test h
primitive_fits_law p primitives.Byte primitives.Byte h = tt
primitive_fits_law p primitives.Byte primitives.Char h = tt
primitive_fits_law p primitives.Byte primitives.Int h = tt
primitive_fits_law p primitives.Byte primitives.Long h = tt
primitive_fits_law p primitives.Char primitives.Boolean h = no_test h
primitive_fits_law p primitives.Char primitives.Byte h = tt
primitive_fits_law p primitives.Char primitives.Char h = tt
primitive_fits_law p primitives.Char primitives.Int h = tt
primitive_fits_law p primitives.Char primitives.Long h = tt
primitive_fits_law p primitives.Int primitives.Boolean h = no_test h
primitive_fits_law p primitives.Int primitives.Byte h = tt
primitive_fits_law p primitives.Int primitives.Char h = tt
primitive_fits_law p primitives.Int primitives.Int h = tt
primitive_fits_law p primitives.Int primitives.Long h = tt
primitive_fits_law p primitives.Long primitives.Boolean h = no_test h
primitive_fits_law p primitives.Long primitives.Byte h = tt
primitive_fits_law p primitives.Long primitives.Char h = tt
primitive_fits_law p primitives.Long primitives.Int h = tt
primitive_fits_law p primitives.Long primitives.Long h = tt

-- what may be passed where the type is wanted may be stored there
pub fits_law : (p : Program) → IsHierarchy p → (from to : VType) → fits p from to ≡ true → IsAssignable p from to
fits_law p hierarchy (types.Primitive a) (types.Primitive b) h = primitive_fits_law p a b h
fits_law p hierarchy (types.Primitive a) types.Str h = no_test h
fits_law p hierarchy (types.Primitive a) (types.Arr k) h = no_test h
fits_law p hierarchy (types.Primitive a) (types.Obj c) h = no_test h
fits_law p hierarchy (types.Primitive a) types.NullType h = no_test h
fits_law p hierarchy types.Str (types.Primitive b) h = no_test h
fits_law p hierarchy types.Str types.Str h = inl refl
fits_law p hierarchy types.Str (types.Arr k) h = no_test h
fits_law p hierarchy types.Str (types.Obj c) h = inr ((is_under_law p hierarchy p.core.string c).0 h)
fits_law p hierarchy types.Str types.NullType h = no_test h
fits_law p hierarchy (types.Arr j) (types.Primitive b) h = no_test h
fits_law p hierarchy (types.Arr j) types.Str h = no_test h
fits_law p hierarchy (types.Arr j) (types.Arr k) h = inl (ap (λ x. types.Arr x) (is_same_element_law j k h))
fits_law p hierarchy (types.Arr j) (types.Obj c) h = inr (subst (λ d. IsUnder p p.core.object d) (sym (is_class_law c p.core.object h)) (itself p.core.object))
fits_law p hierarchy (types.Arr j) types.NullType h = no_test h
fits_law p hierarchy (types.Obj d) (types.Primitive b) h = no_test h
fits_law p hierarchy (types.Obj d) types.Str h = no_test h
fits_law p hierarchy (types.Obj d) (types.Arr k) h = no_test h
fits_law p hierarchy (types.Obj d) (types.Obj c) h = inr ((is_under_law p hierarchy d c).0 h)
fits_law p hierarchy (types.Obj d) types.NullType h = no_test h
fits_law p hierarchy types.NullType to h = null_is_assignable p to (is_reference_law to h)

pub narrow_is_numeric : (n : ℤ) (t : VType) → is_narrow_value n t ≡ true → IsNumeric t
narrow_is_numeric n (types.Primitive primitives.Boolean) h = no_test h
narrow_is_numeric n (types.Primitive primitives.Byte) h = tt
narrow_is_numeric n (types.Primitive primitives.Char) h = tt
narrow_is_numeric n (types.Primitive primitives.Int) h = no_test h
narrow_is_numeric n (types.Primitive primitives.Long) h = no_test h
narrow_is_numeric n types.Str h = no_test h
narrow_is_numeric n (types.Arr k) h = no_test h
narrow_is_numeric n (types.Obj c) h = no_test h
narrow_is_numeric n types.NullType h = no_test h

narrows_law : (p : Program) (n : Option ℤ) (from to : VType) → narrows n from to ≡ true → IsAssignable p from to
narrows_law p None from to h = no_test h
narrows_law p (Some n) from to h =
    let both = and_parts (is_index from) (is_narrow_value n to) h in
    number_is_assignable p from to (is_index_law from both.0) (narrow_is_numeric n to both.1)

either : {Q : Type 0} (a b : Bool) → (a ≡ true → Q) → (b ≡ true → Q) → (a || b) ≡ true → Q
either true b h g e = h refl
either false b h g e = g e

pub assignable_law : (p : Program) → IsHierarchy p → (n : Option ℤ) (from to : VType) → is_assignable p n from to ≡ true → IsAssignable p from to
assignable_law p hierarchy n from to h = either (fits p from to) (narrows n from to) (fits_law p hierarchy from to) (narrows_law p n from to) h

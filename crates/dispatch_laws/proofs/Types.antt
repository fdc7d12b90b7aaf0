-- Types that are one.
use Rattle.std.proofs.Common.{◌≡◌, ◌∙◌, ap, refl, sym, eqb-true, true≢false, ℕ, zero, suc, true}
use Rattle.program_model.specs.declared.kinds.ClassId.{ClassId}
use Rattle.program_model.specs.declared.kinds.ElementType.{ElementType}
use Rattle.program_model.specs.declared.kinds.ElementType.TheVariants as elements
use Rattle.program_model.specs.declared.kinds.Primitive.{Primitive}
use Rattle.program_model.specs.declared.kinds.Primitive.TheVariants as primitives
use Rattle.program_model.specs.declared.kinds.VType.{VType}
use Rattle.program_model.specs.declared.kinds.VType.TheVariants as types
use Rattle.program_model.specs.Overrides.{element_number, is_type, primitive_number}
use Rattle.program_model.specs.SuperTests.{is_class}
use Rattle.java_conversions.specs.Types.{is_same_element, is_same_primitive}

abbrev primitive_of : ℕ → Primitive
primitive_of zero = primitives.Boolean
primitive_of (suc zero) = primitives.Byte
primitive_of (suc (suc zero)) = primitives.Char
primitive_of (suc (suc (suc zero))) = primitives.Int
primitive_of (suc (suc (suc (suc n)))) = primitives.Long

numbered_primitive : (t : Primitive) → primitive_of (primitive_number t) ≡ t
numbered_primitive primitives.Boolean = refl
numbered_primitive primitives.Byte = refl
numbered_primitive primitives.Char = refl
numbered_primitive primitives.Int = refl
numbered_primitive primitives.Long = refl

abbrev element_of : ℕ → ElementType
element_of (suc (suc (suc (suc (suc n))))) = elements.Str
element_of n = elements.Primitive (primitive_of n)

numbered_element : (t : ElementType) → element_of (element_number t) ≡ t
numbered_element (elements.Primitive primitives.Boolean) = refl
numbered_element (elements.Primitive primitives.Byte) = refl
numbered_element (elements.Primitive primitives.Char) = refl
numbered_element (elements.Primitive primitives.Int) = refl
numbered_element (elements.Primitive primitives.Long) = refl
numbered_element elements.Str = refl

pub same_class : (c d : ClassId) → is_class c d ≡ true → c ≡ d
same_class c d is = let same : c.0 ≡ d.0 = eqb-true c.0 d.0 is in λ i. record { 0 = same i }

one_primitive : (t u : Primitive) → primitive_number t ≡ primitive_number u → t ≡ u
one_primitive t u same = sym (numbered_primitive t) ∙ ap primitive_of same ∙ numbered_primitive u

one_element : (t u : ElementType) → element_number t ≡ element_number u → t ≡ u
one_element t u same = sym (numbered_element t) ∙ ap element_of same ∙ numbered_element u

pub one_type : (t u : VType) → is_type t u ≡ true → t ≡ u
one_type (types.Primitive t) (types.Primitive u) is = ap types.Primitive (one_primitive t u (eqb-true (primitive_number t) (primitive_number u) is))
one_type types.Str types.Str is = refl
one_type (types.Arr t) (types.Arr u) is = ap types.Arr (one_element t u (eqb-true (element_number t) (element_number u) is))
one_type (types.Obj c) (types.Obj d) is = ap types.Obj (same_class c d is)
one_type types.NullType types.NullType is = refl
one_type t u is = absurd (true≢false (sym is))

same_primitive : (t u : Primitive) → is_same_primitive t u ≡ true → t ≡ u
same_primitive primitives.Boolean primitives.Boolean is = refl
same_primitive primitives.Byte primitives.Byte is = refl
same_primitive primitives.Char primitives.Char is = refl
same_primitive primitives.Int primitives.Int is = refl
same_primitive primitives.Long primitives.Long is = refl
same_primitive t u is = absurd (true≢false (sym is))

pub same_element : (t u : ElementType) → is_same_element t u ≡ true → t ≡ u
same_element (elements.Primitive t) (elements.Primitive u) is = ap elements.Primitive (same_primitive t u is)
same_element elements.Str elements.Str is = refl
same_element t u is = absurd (true≢false (sym is))

-- What the rules of types say of values that are no objects.
use Rattle.std.proofs.Common.{◌≡◌, ◌∙◌, ap, sym, subst, refl, true, false, true≢false, Option, Some, None, IsSomeAnd, inl, inr}
use Rattle.std.specs.Prelude.{◌⊎◌}
use Rattle.program_model.specs.declared.kinds.BinaryOperator.{BinaryOperator}
use Rattle.program_model.specs.declared.kinds.BinaryOperator.TheVariants as binary
use Rattle.program_model.specs.declared.kinds.ClassId.{ClassId}
use Rattle.program_model.specs.declared.kinds.ElementType.{ElementType}
use Rattle.program_model.specs.declared.kinds.ElementType.TheVariants as elements
use Rattle.program_model.specs.declared.kinds.ExprId.{ExprId}
use Rattle.program_model.specs.declared.kinds.FieldId.{FieldId}
use Rattle.program_model.specs.declared.kinds.MethodId.{MethodId}
use Rattle.program_model.specs.declared.kinds.MethodKind.TheVariants as methods
use Rattle.program_model.specs.declared.kinds.OperandType.{OperandType}
use Rattle.program_model.specs.declared.kinds.OperandType.TheVariants as operand_types
use Rattle.program_model.specs.declared.kinds.Primitive.{Primitive}
use Rattle.program_model.specs.declared.kinds.Primitive.TheVariants as primitives
use Rattle.program_model.specs.declared.kinds.VType.{VType}
use Rattle.program_model.specs.declared.kinds.VType.TheVariants as types
use Rattle.program_model.specs.declared.program.Field.{Field}
use Rattle.program_model.specs.declared.program.Method.{Method}
use Rattle.program_model.specs.declared.program.Program.{Program}
use Rattle.program_model.specs.declared.tree.Body.{Body}
use Rattle.program_model.specs.declared.tree.OperatorAssignment.{OperatorAssignment}
use Rattle.program_model.specs.Lookups.{field_at, method_at, type_at}
use Rattle.program_model.specs.Typing.{AreArguments, IsArrayOf, IsAssignable, IsConstant, IsElement, IsInstanceField, IsNewObject, IsNumeric, IsOperand, IsOperatorAssignment, IsPrimitive, IsStaticField, IsStepOperator, IsStored, IsThisType, binary_result, class_of, element_type, is_array}
use Rattle.program_model.specs.Typing as typing
use Rattle.program_model.specs.Validity.{IsOfKind, IsStaticOrNot, IsTypedProgram, is_class_type}
use Rattle.program_model.specs.declared.tree.NewObject.{NewObject}
use Rattle.step_laws.specs.Operands.{MakesText, NoObject, field_type, type_of_field}

numeric_none : (t : VType) → IsNumeric t → is_class_type t ≡ false
numeric_none (types.Primitive k) is = refl
numeric_none (types.Obj c) is = absurd is
numeric_none types.Str is = refl
numeric_none t is = refl

pub primitive_none : (t : VType) → IsPrimitive t → is_class_type t ≡ false
primitive_none (types.Primitive k) is = refl
primitive_none (types.Obj c) is = absurd is
primitive_none types.Str is = refl
primitive_none t is = refl

to_primitive : (p : Program) (from : VType) (k : Primitive) → IsAssignable p from (types.Primitive k) → is_class_type from ≡ false
to_primitive p from primitives.Boolean is = ap is_class_type is
to_primitive p from primitives.Byte is = numeric_none from is
to_primitive p from primitives.Char is = numeric_none from is
to_primitive p from primitives.Int is = numeric_none from is
to_primitive p from primitives.Long is = numeric_none from is

either_none : (from t u : VType) → (from ≡ t) ⊎ (from ≡ u) → is_class_type t ≡ false → is_class_type u ≡ false → is_class_type from ≡ false
either_none from t u (inl is) first second = ap is_class_type is ∙ first
either_none from t u (inr is) first second = ap is_class_type is ∙ second

-- no object is assignable where the type is no class type
pub assignable_none : (p : Program) (from to : VType) → IsAssignable p from to → is_class_type to ≡ false → is_class_type from ≡ false
assignable_none p from (types.Primitive k) is none = to_primitive p from k is
assignable_none p from types.Str is none = either_none from types.Str types.NullType is refl refl
assignable_none p from (types.Arr e) is none = either_none from (types.Arr e) types.NullType is refl refl
assignable_none p from (types.Obj c) is none = absurd (true≢false none)
assignable_none p from types.NullType is none = ap is_class_type is

pub fitting_none : (p : Program) (from : Option VType) (t : VType) → IsSomeAnd from (λ s. IsAssignable p s t) → is_class_type t ≡ false → NoObject from
fitting_none p None t is none = is
fitting_none p (Some s) t is none = assignable_none p s t is none

pub fits_none : (p : Program) (b : Body) (e : ExprId) (t : VType) → typing.Fits p b e t → is_class_type t ≡ false → NoObject (type_at b e)
fits_none p b e t is none = fitting_none p (type_at b e) t is none

-- ---- kinds of expressions

pub this_object : (p : Program) (b : Body) (t : VType) → IsThisType p b t → is_class_type t ≡ false → ⊥
this_object p b (types.Obj c) is none = true≢false none
this_object p b (types.Arr k) is none = is
this_object p b t is none = is

pub instance_type : (p : Program) (b : Body) (e : ExprId) (f : FieldId) (t : VType) → IsInstanceField p b e f t → field_type p f ≡ Some t
instance_type p b e f t is = go (field_at p f) is
  where
    go : (x : Option Field) → IsSomeAnd x (λ x. (x.is_static ≡ false) × (x.vtype ≡ t) × IsSomeAnd (type_at b e) (typing.IsTypeUnder p x.class)) → type_of_field x ≡ Some t
    go None is = absurd is
    go (Some x) is = ap Some is.1

pub static_none : (p : Program) → IsTypedProgram p → (f : FieldId) (t : VType) → IsStaticField p f t → is_class_type t ≡ false
static_none p typed f t is = go (field_at p f) refl is
  where
    go : (x : Option Field) → field_at p f ≡ x → IsSomeAnd x (λ x. (x.is_static ≡ true) × (x.vtype ≡ t)) → is_class_type t ≡ false
    go None at is = absurd is
    go (Some x) at is = ap is_class_type (sym is.1) ∙ (subst (λ s. IsStaticOrNot s x) is.0 (typed.fields f x at).kind).0

result_object : (s : Option VType) (t : VType) → s ≡ Some t → IsSomeAnd s (λ u. is_class_type u ≡ true) → is_class_type t ≡ true
result_object None t is some = absurd some
result_object (Some u) t is some = ap is_class_type (sym (let same : u ≡ t = cc in same)) ∙ some

pub constant_object : (p : Program) → IsTypedProgram p → (m : MethodId) (t : VType) → IsConstant p m t → is_class_type t ≡ false → ⊥
constant_object p typed m t is none = go (method_at p m) refl is
  where
    go : (x : Option Method) → method_at p m ≡ x → IsSomeAnd x (λ x. (x.kind ≡ methods.Constant) × (x.sig.result ≡ Some t)) → ⊥
    go None at is = is
    go (Some x) at is = true≢false (sym (result_object x.sig.result t is.1 (subst (λ k. IsOfKind k x.sig) is.0 (typed.methods m x at).kind).2) ∙ none)

array_none : (t : VType) (x : Option VType) → IsSomeAnd x (IsArrayOf t) → is_class_type t ≡ false
array_none t None is = absurd is
array_none t (Some (types.Arr k)) is = ap is_class_type (sym is) ∙ element k
  where
    element : (k : ElementType) → is_class_type (element_type k) ≡ false
    element (elements.Primitive u) = refl
    element elements.Str = refl
array_none t (Some (types.Obj c)) is = absurd is
array_none t (Some u) is = absurd is

pub element_none : (b : Body) (a i : ExprId) (t : VType) → IsElement b a i t → is_class_type t ≡ false
element_none b a i t is = array_none t (type_at b a) is.0

no_class : (c : ClassId) → ◌≡◌ {A = Option ClassId} None (Some c) → ⊥
no_class c is = cc

same_class : (c d : ClassId) → ◌≡◌ {A = Option ClassId} (Some c) (Some d) → c ≡ d
same_class c d is = cc

-- a new object is of class `String` where the static type is no class type
pub new_text : (p : Program) (b : Body) (n : NewObject) (t : VType) → IsNewObject p b n t → is_class_type t ≡ false → MakesText p n.constructor
new_text p b n t is none = go (method_at p n.constructor) is.0
  where
    by_type : (t : VType) → class_of p t ≡ Some n.class → is_array t ≡ false → is_class_type t ≡ false → n.class ≡ p.core.string
    by_type (types.Primitive k) of array none = absurd (no_class n.class of)
    by_type types.Str of array none = sym (same_class p.core.string n.class of)
    by_type (types.Arr k) of array none = absurd (true≢false array)
    by_type (types.Obj c) of array none = absurd (true≢false none)
    by_type types.NullType of array none = absurd (no_class n.class of)

    go : (x : Option Method) → IsSomeAnd x (λ x. (x.kind ≡ methods.Ctor) × (x.class ≡ n.class) × AreArguments p b n.arguments.items x.sig.params.items) → IsSomeAnd x (λ x. (x.kind ≡ methods.Ctor) × (x.class ≡ p.core.string))
    go None made = absurd made
    go (Some x) made = (made.0, made.1 ∙ by_type t is.2 is.3 none)

-- ---- operators

text_none : (t : VType) → IsOperand operand_types.Text t → is_class_type t ≡ false
text_none (types.Obj c) is = absurd is
text_none (types.Primitive k) is = refl
text_none t is = refl

no_result : (r : VType) → ◌≡◌ {A = Option VType} None (Some r) → ⊥
no_result r is = cc

-- what is added or subtracted is no object
step_none : (o : BinaryOperator) (u : OperandType) (r s : VType) → IsStepOperator o → binary_result o u ≡ Some r → IsOperand u s → is_class_type s ≡ false
step_none o operand_types.Boolean r s step is operand = ap is_class_type operand
step_none o operand_types.Int r s step is operand = numeric_none s operand
step_none o operand_types.Long r s step is operand = numeric_none s operand
step_none o operand_types.Text r s step is operand = text_none s operand
step_none binary.Add operand_types.Reference r s step is operand = absurd (no_result r is)
step_none binary.Subtract operand_types.Reference r s step is operand = absurd (no_result r is)
step_none binary.Multiply operand_types.Reference r s step is operand = absurd step
step_none o operand_types.Reference r s step is operand = absurd step

stepped_none : (o : BinaryOperator) (u : OperandType) (r : VType) (s : Option VType) → IsStepOperator o → binary_result o u ≡ Some r → IsSomeAnd s (IsOperand u) → NoObject s
stepped_none o u r None step is operand = absurd operand
stepped_none o u r (Some s) step is operand = step_none o u r s step is operand

pub postfix_none : (p : Program) (b : Body) (a : OperatorAssignment) (t : VType) → IsStepOperator a.operator → IsOperatorAssignment p b a t → NoObject (type_at b a.target)
postfix_none p b a t step is = go (binary_result a.operator a.operands) is.1
  where
    go : (r : Option VType) → IsSomeAnd r (IsStored b a t) → NoObject (type_at b a.target)
    go None stored = absurd stored
    go (Some r) stored = stepped_none a.operator a.operands r (type_at b a.target) step stored.0.0 stored.0.1

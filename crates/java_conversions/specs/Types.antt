-- Kinds of types (JLS 4.1), as tests that compute.
use Rattle.std.specs.Prelude.{Bool, true, false, not, nat_eq, cond}
use Rattle.program_model.specs.declared.kinds.ClassId.{ClassId}
use Rattle.program_model.specs.declared.kinds.Primitive.{Primitive}
use Rattle.program_model.specs.declared.kinds.Primitive.TheVariants as primitives
use Rattle.program_model.specs.declared.kinds.ElementType.{ElementType}
use Rattle.program_model.specs.declared.kinds.ElementType.TheVariants as elements
use Rattle.program_model.specs.declared.kinds.VType.{VType}
use Rattle.program_model.specs.declared.kinds.VType.TheVariants as types
use Rattle.program_model.specs.declared.program.Program.{Program}
use Rattle.program_model.specs.SuperTests.{is_class, is_under}

abbrev pub is_boolean : VType → Bool
is_boolean (types.Primitive primitives.Boolean) = true
is_boolean t = false

-- a numeric type (JLS 4.2): all of those of the subset are integral
abbrev pub is_numeric : VType → Bool
is_numeric (types.Primitive primitives.Boolean) = false
is_numeric (types.Primitive k) = true
is_numeric t = false

-- a reference type (JLS 4.3), or the type of `null`
abbrev pub is_reference : VType → Bool
is_reference (types.Primitive k) = false
is_reference t = true

abbrev pub is_null_type : VType → Bool
is_null_type types.NullType = true
is_null_type t = false

abbrev pub is_text : VType → Bool
is_text types.Str = true
is_text t = false

-- what an array's index and a new array's size may be: its unary promotion is `int` (JLS 15.10.1, 15.10.3)
abbrev pub is_index : VType → Bool
is_index (types.Primitive primitives.Byte) = true
is_index (types.Primitive primitives.Char) = true
is_index (types.Primitive primitives.Int) = true
is_index t = false

-- the type of a class or interface
abbrev pub type_of_class : Program → ClassId → VType
type_of_class p c = cond (is_class c p.core.string) types.Str (types.Obj c)

-- what may be thrown (JLS 14.18): `null`, or a value of a class under Throwable
abbrev pub is_throwable : Program → VType → Bool
is_throwable p (types.Obj c) = is_under p c p.core.throwable
is_throwable p types.Str = is_under p p.core.string p.core.throwable
is_throwable p types.NullType = true
is_throwable p (types.Arr t) = false
is_throwable p (types.Primitive k) = false

abbrev pub is_same_primitive : Primitive → Primitive → Bool
is_same_primitive primitives.Boolean primitives.Boolean = true
is_same_primitive primitives.Byte primitives.Byte = true
is_same_primitive primitives.Char primitives.Char = true
is_same_primitive primitives.Int primitives.Int = true
is_same_primitive primitives.Long primitives.Long = true
is_same_primitive a b = false

abbrev pub is_same_element : ElementType → ElementType → Bool
is_same_element (elements.Primitive a) (elements.Primitive b) = is_same_primitive a b
is_same_element elements.Str elements.Str = true
is_same_element a b = false

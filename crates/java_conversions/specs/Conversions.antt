-- Conversions to a wanted type: of invocation contexts (JLS 5.3) and of assignment contexts (JLS 5.2).
use Rattle.std.specs.Prelude.{Bool, true, false, ◌&&◌, ◌||◌, Option, Some, None, ℤ, pos, negsuc, nat_lt}
use Rattle.program_model.specs.declared.kinds.ClassId.{ClassId}
use Rattle.program_model.specs.declared.kinds.Primitive.{Primitive}
use Rattle.program_model.specs.declared.kinds.Primitive.TheVariants as primitives
use Rattle.program_model.specs.declared.kinds.ElementType.{ElementType}
use Rattle.program_model.specs.declared.kinds.VType.{VType}
use Rattle.program_model.specs.declared.kinds.VType.TheVariants as types
use Rattle.program_model.specs.declared.program.Program.{Program}
use Rattle.program_model.specs.SuperTests.{is_class, is_under}
use Rattle.java_conversions.specs.Types.{is_index, is_reference, is_same_element}

-- identity (JLS 5.1.1) or widening primitive conversion (JLS 5.1.2)
abbrev pub widens : Primitive → Primitive → Bool
widens primitives.Boolean primitives.Boolean = true
widens primitives.Byte primitives.Byte = true
widens primitives.Byte primitives.Int = true
widens primitives.Byte primitives.Long = true
widens primitives.Char primitives.Char = true
widens primitives.Char primitives.Int = true
widens primitives.Char primitives.Long = true
widens primitives.Int primitives.Int = true
widens primitives.Int primitives.Long = true
widens primitives.Long primitives.Long = true
widens from to = false

abbrev pub primitive_fits : Primitive → VType → Bool
primitive_fits from (types.Primitive to) = widens from to
primitive_fits from to = false

-- a class or interface is a subtype of itself and of all above it (JLS 4.10.2)
abbrev pub class_fits : Program → ClassId → VType → Bool
class_fits p from (types.Obj to) = is_under p from to
class_fits p from to = false

abbrev pub text_fits : Program → VType → Bool
text_fits p types.Str = true
text_fits p to = class_fits p p.core.string to

-- an array is one of its own type, and an Object (JLS 4.10.3)
abbrev pub array_fits : Program → ElementType → VType → Bool
array_fits p from (types.Arr to) = is_same_element from to
array_fits p from (types.Obj to) = is_class to p.core.object
array_fits p from to = false

-- a value of the first type may be passed where the second is wanted, in a strict invocation context (JLS 5.3):
-- identity, widening primitive and widening reference conversion (JLS 5.1.5), and `null` to any reference type
abbrev pub fits : Program → VType → VType → Bool
fits p (types.Primitive from) to = primitive_fits from to
fits p types.Str to = text_fits p to
fits p (types.Arr from) to = array_fits p from to
fits p (types.Obj from) to = class_fits p from to
fits p types.NullType to = is_reference to

-- from -128 to 127
abbrev pub is_byte : ℤ → Bool
is_byte (pos n) = nat_lt n 128
is_byte (negsuc n) = nat_lt n 128

-- from 0 to 65535
abbrev pub is_char : ℤ → Bool
is_char (pos n) = nat_lt n 65536
is_char (negsuc n) = false

-- the type is narrower than `int`, and the value is one of it
abbrev pub is_narrow_value : ℤ → VType → Bool
is_narrow_value n (types.Primitive primitives.Byte) = is_byte n
is_narrow_value n (types.Primitive primitives.Char) = is_char n
is_narrow_value n t = false

-- a constant of type byte, char or int whose value is one of the narrower type wanted (JLS 5.2)
abbrev pub narrows : Option ℤ → VType → VType → Bool
narrows None from to = false
narrows (Some n) from to = is_index from && is_narrow_value n to

-- an expression of the first type, with its value where it is constant, may be assigned to a variable of the second
-- (JLS 5.2)
abbrev pub is_assignable : Program → Option ℤ → VType → VType → Bool
is_assignable p constant from to = fits p from to || narrows constant from to

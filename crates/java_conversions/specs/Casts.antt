-- Casting contexts (JLS 5.5), and the two tests that rest on them (JLS 15.20.2, 15.21.3).
use Rattle.std.specs.Prelude.{Bool, true, false, not, cond, ◌&&◌, ◌||◌, Option, Some, None}
use Rattle.program_model.specs.declared.kinds.ClassId.{ClassId}
use Rattle.program_model.specs.declared.kinds.Primitive.{Primitive}
use Rattle.program_model.specs.declared.kinds.Primitive.TheVariants as primitives
use Rattle.program_model.specs.declared.kinds.ElementType.{ElementType}
use Rattle.program_model.specs.declared.kinds.VType.{VType}
use Rattle.program_model.specs.declared.kinds.VType.TheVariants as types
use Rattle.program_model.specs.declared.program.Program.{Program}
use Rattle.program_model.specs.declared.program.Class.{Class}
use Rattle.program_model.specs.Lookups.{class_at}
use Rattle.program_model.specs.SuperTests.{is_class, is_under}
use Rattle.java_conversions.specs.declared.casts.Cast.{Cast}
use Rattle.java_conversions.specs.declared.casts.Cast.TheVariants as casts
use Rattle.java_conversions.specs.Types.{is_null_type, is_reference, is_same_element, is_text}

abbrev pub interface_in : Option Class → Bool
interface_in None = false
interface_in (Some k) = k.interface

abbrev pub is_interface : Program → ClassId → Bool
is_interface p c = interface_in (class_at p c)

abbrev pub final_in : Option Class → Bool
final_in None = false
final_in (Some k) = k.is_final

abbrev pub is_final : Program → ClassId → Bool
is_final p c = final_in (class_at p c)

-- the second of two that are not subtypes of one another, where the first is an interface: an interface never stands
-- apart from it, and a class where it is final
abbrev pub stands_apart_from_interface : Program → Bool → ClassId → Bool
stands_apart_from_interface p true c = false
stands_apart_from_interface p false c = is_final p c

-- two classes always stand apart
abbrev pub stands_apart_from_class : Program → ClassId → Bool → Bool
stands_apart_from_class p c true = is_final p c
stands_apart_from_class p c false = true

abbrev pub stands_apart : Program → Bool → ClassId → ClassId → Bool
stands_apart p true c d = stands_apart_from_interface p (is_interface p d) d
stands_apart p false c d = stands_apart_from_class p c (is_interface p d)

-- no object is of both: neither is a subtype of the other, and they are two classes, or an interface and a final class
-- (JLS 5.1.6.1)
abbrev pub are_disjoint : Program → ClassId → ClassId → Bool
are_disjoint p c d = not (is_under p c d || is_under p d c) && stands_apart p (is_interface p c) c d

-- widening (JLS 5.1.5) or narrowing (JLS 5.1.6.1) from one class or interface to another
abbrev pub classes_cast : Program → ClassId → ClassId → Bool
classes_cast p from to = not (are_disjoint p from to)

abbrev pub class_casts : Program → ClassId → VType → Bool
class_casts p from (types.Obj to) = classes_cast p from to
class_casts p from types.Str = classes_cast p from p.core.string
class_casts p from (types.Arr to) = is_class from p.core.object
class_casts p from to = false

abbrev pub text_casts : Program → VType → Bool
text_casts p types.Str = true
text_casts p (types.Obj to) = classes_cast p p.core.string to
text_casts p to = false

abbrev pub array_casts : Program → ElementType → VType → Bool
array_casts p from (types.Arr to) = is_same_element from to
array_casts p from (types.Obj to) = is_class to p.core.object
array_casts p from to = false

-- a value of the first type may be cast to the second, a reference type
abbrev pub reference_casts : Program → VType → VType → Bool
reference_casts p (types.Primitive from) to = false
reference_casts p types.Str to = text_casts p to
reference_casts p (types.Arr from) to = array_casts p from to
reference_casts p (types.Obj from) to = class_casts p from to
reference_casts p types.NullType to = is_reference to

-- boolean to boolean, and any number to any number
abbrev pub primitives_cast : Primitive → Primitive → Bool
primitives_cast primitives.Boolean primitives.Boolean = true
primitives_cast primitives.Boolean to = false
primitives_cast from primitives.Boolean = false
primitives_cast from to = true

abbrev pub primitive_casts : VType → Primitive → Bool
primitive_casts (types.Primitive from) to = primitives_cast from to
primitive_casts from to = false

-- what a cast from the first type to the second is (JLS 5.5, 15.16)
abbrev pub cast_of : Program → VType → VType → Cast
cast_of p from (types.Primitive to) = cond (primitive_casts from to) casts.Primitive casts.Illegal
cast_of p from to = cond (reference_casts p from to) casts.Reference casts.Illegal

-- the type is tested by `instanceof` of an operand of the other (JLS 15.20.2)
abbrev pub is_tested : Program → VType → VType → Bool
is_tested p operand tested = not (is_null_type tested) && reference_casts p operand tested

-- two references may be compared by `==` and `!=`: a cast takes one to the type of the other (JLS 15.21.3). Two strings
-- are left out of the subset
abbrev pub is_comparable : Program → VType → VType → Bool
is_comparable p a b = not (is_text a && is_text b) && (reference_casts p a b || reference_casts p b a)

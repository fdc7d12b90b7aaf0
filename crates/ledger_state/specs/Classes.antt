-- Arrays, and of which classes and types values are.
use Rattle.std.specs.Prelude.{ℕ, Bool, true, false, Option, Some, None, List, [], replicate, slice_get, ℤ, pos, negsuc}
use Rattle.program_model.specs.declared.kinds.ClassId.{ClassId}
use Rattle.program_model.specs.declared.kinds.ElementType.{ElementType}
use Rattle.program_model.specs.declared.kinds.ElementType.TheVariants as elements
use Rattle.program_model.specs.declared.kinds.Primitive.{Primitive}
use Rattle.program_model.specs.declared.kinds.Primitive.TheVariants as primitives
use Rattle.program_model.specs.declared.kinds.VType.{VType}
use Rattle.program_model.specs.declared.kinds.VType.TheVariants as types
use Rattle.program_model.specs.declared.program.Program.{Program}
use Rattle.program_model.specs.SuperTests.{is_under}
use Rattle.ledger_state.specs.declared.array.ArrayObject.{ArrayObject}
use Rattle.ledger_state.specs.declared.object.Object.{Object}
use Rattle.ledger_state.specs.declared.value.Value.{Value}
use Rattle.ledger_state.specs.declared.value.Value.TheVariants as values
use Rattle.ledger_state.specs.Contents.{HeapContents}
use Rattle.ledger_state.specs.Heaps.{object_at}
use Rattle.ledger_state.specs.Values.{default_element, is_text}

abbrev pub class_in : Option Object → Option ClassId
class_in None = None
class_in (Some x) = Some x.class

-- the run-time class of a value, where it has one: an array has that of `Object`, whose methods it has (JLS 10.7)
abbrev pub runtime_class : Program → HeapContents → Value → Option ClassId
runtime_class p h (values.Object k) = class_in (object_at h k)
runtime_class p h values.Text = Some p.core.string
runtime_class p h (values.Array a) = Some p.core.object
runtime_class p h values.Nothing = None
runtime_class p h values.Null = None
runtime_class p h (values.Number z) = None

abbrev pub is_under_class : Program → Option ClassId → ClassId → Bool
is_under_class p None d = false
is_under_class p (Some c) d = is_under p c d

abbrev pub is_same_primitive : Primitive → Primitive → Bool
is_same_primitive primitives.Boolean primitives.Boolean = true
is_same_primitive primitives.Byte primitives.Byte = true
is_same_primitive primitives.Char primitives.Char = true
is_same_primitive primitives.Int primitives.Int = true
is_same_primitive primitives.Long primitives.Long = true
is_same_primitive t u = false

abbrev pub is_same_element : ElementType → ElementType → Bool
is_same_element (elements.Primitive t) (elements.Primitive u) = is_same_primitive t u
is_same_element elements.Str elements.Str = true
is_same_element e f = false

-- the array that the value is
abbrev pub array_of : List ArrayObject → Value → Option ArrayObject
array_of arrays (values.Array a) = slice_get arrays a
array_of arrays v = None

abbrev pub has_element : ElementType → Option ArrayObject → Bool
has_element e None = false
has_element e (Some a) = is_same_element a.element e

-- the value is no null and is of the type (JLS 15.20.2)
abbrev pub is_instance : Program → HeapContents → List ArrayObject → VType → Value → Bool
is_instance p h arrays (types.Obj c) v = is_under_class p (runtime_class p h v) c
is_instance p h arrays types.Str v = is_text v
is_instance p h arrays (types.Arr e) v = has_element e (array_of arrays v)
is_instance p h arrays (types.Primitive t) v = false
is_instance p h arrays types.NullType v = false

-- the place of an element, and a number of elements: a number below 0 stands for 0
abbrev pub index_of : ℤ → ℕ
index_of (pos i) = i
index_of (negsuc i) = 0

-- an array whose elements begin with the default value (JLS 15.10.2)
abbrev pub new_array : ElementType → ℤ → ArrayObject
new_array e n = record { element = e; length = n; elements = replicate (index_of n) (default_element e); shared = false }

-- an array that the library made
abbrev pub library_array : ElementType → ℤ → ArrayObject
library_array e n = record { element = e; length = n; elements = []; shared = true }

abbrev pub length_in : Option ArrayObject → ℤ
length_in None = pos 0
length_in (Some a) = a.length

abbrev pub array_length : List ArrayObject → Value → ℤ
array_length arrays v = length_in (array_of arrays v)

abbrev pub is_shared_in : Option ArrayObject → Bool
is_shared_in None = false
is_shared_in (Some a) = a.shared

-- the library has had the array in its hands
abbrev pub is_shared : List ArrayObject → Value → Bool
is_shared arrays v = is_shared_in (array_of arrays v)

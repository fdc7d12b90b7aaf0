-- What the operations of the language compute and throw (JLS 15), by the values of their operands.
use Rattle.std.specs.Prelude.{ℕ, ◌+◌, Bool, true, false, not, ◌&&◌, Option, Some, None, List, ◌++◌, length, slice_get, slice_set, min, nat_eq, ℤ, pos, int_le, int_lt, if◌then◌else◌}
use Rattle.std.specs.Ordering.{int_eq}
use Rattle.program_model.specs.declared.kinds.ClassId.{ClassId}
use Rattle.program_model.specs.declared.kinds.BinaryOperator.{BinaryOperator}
use Rattle.program_model.specs.declared.kinds.BinaryOperator.TheVariants as binary
use Rattle.program_model.specs.declared.kinds.ElementType.{ElementType}
use Rattle.program_model.specs.declared.kinds.ElementType.TheVariants as elements
use Rattle.program_model.specs.declared.kinds.OperandType.{OperandType}
use Rattle.program_model.specs.declared.kinds.OperandType.TheVariants as operand_types
use Rattle.program_model.specs.declared.kinds.Primitive.TheVariants as primitives
use Rattle.program_model.specs.declared.kinds.VType.{VType}
use Rattle.program_model.specs.declared.kinds.VType.TheVariants as types
use Rattle.program_model.specs.declared.program.Program.{Program}
use Rattle.program_model.specs.Lookups.{optional}
use Rattle.control_actions.specs.declared.action.Action.{Action}
use Rattle.control_actions.specs.declared.action.Action.TheVariants as actions
use Rattle.control_actions.specs.declared.action.Operator.{Operator}
use Rattle.control_actions.specs.declared.action.Operator.TheVariants as operators
use Rattle.control_actions.specs.declared.action.PlainValue.{PlainValue}
use Rattle.control_actions.specs.declared.action.PlainValue.TheVariants as plain
use Rattle.java_constants.specs.Arithmetic.{converted}
use Rattle.java_constants.specs.Folding.{folded, folded_unary}
use Rattle.stub_conduct.specs.Conducts.{cut}
use Rattle.stub_conduct.specs.declared.choice.Choice.{Choice}
use Rattle.ledger_state.specs.declared.array.ArrayObject.{ArrayObject}
use Rattle.ledger_state.specs.declared.locals.Locals.{Locals}
use Rattle.ledger_state.specs.declared.object.StoredStatic.{StoredStatic}
use Rattle.ledger_state.specs.declared.value.Value.{Value}
use Rattle.ledger_state.specs.declared.value.Value.TheVariants as values
use Rattle.ledger_state.specs.Classes.{array_length, array_of, index_of, is_instance, is_shared, new_array}
use Rattle.ledger_state.specs.Contents.{HeapContents}
use Rattle.ledger_state.specs.Fields.{field_of, put_static, static, static_value}
use Rattle.ledger_state.specs.Locals.{temp_value}
use Rattle.ledger_state.specs.Values.{default_of, is_null, literal_value, number_in, truth_value, value_or_nothing}

-- the operand k of an operation whose operands stand from t(d) on
abbrev pub operand : Locals → ℕ → ℕ → Value
operand l d k = temp_value l (d + k)

-- Choices of the library

-- past the end each choice is way 0 with value 0
abbrev pub choice_or_zero : Option Choice → Choice
choice_or_zero None = record { way = 0; value = pos 0 }
choice_or_zero (Some c) = c

-- the choice that is taken next, where so many are used
abbrev pub next_choice : List Choice → ℕ → Choice
next_choice choices used = choice_or_zero (slice_get choices used)

-- the number of choices that are used, once one more is
abbrev pub one_more_used : List Choice → ℕ → ℕ
one_more_used choices used = min (used + 1) (length choices)

-- Arrays

-- the number is an index of an array of this length
abbrev pub is_index : ℤ → ℤ → Bool
is_index i n = int_le (pos 0) i && int_lt i n

-- What an operation throws

abbrev pub thrown_where : Bool → ClassId → Option ClassId
thrown_where true c = Some c
thrown_where false c = None

abbrev pub thrown_by_number : Program → BinaryOperator → Value → Option ClassId
thrown_by_number p binary.Divide b = thrown_where (int_eq (number_in b) (pos 0)) p.core.arithmetic_exception
thrown_by_number p binary.Remainder b = thrown_where (int_eq (number_in b) (pos 0)) p.core.arithmetic_exception
thrown_by_number p o b = None

-- a null array is found before the index is looked at (JLS 15.10.4, 15.26.1)
abbrev pub thrown_by_index : Program → List ArrayObject → Value → Value → Option ClassId
thrown_by_index p arrays a i =
    if is_null a then Some p.core.null_pointer_exception
    else thrown_where (not (is_index (number_in i) (array_length arrays a))) p.core.array_index_exception

abbrev pub thrown_by_operator : Program → List ArrayObject → Locals → Operator → ℕ → Option ClassId
thrown_by_operator p arrays l (operators.Binary o t r) d = thrown_by_number p o (operand l d 1)
thrown_by_operator p arrays l operators.Element d = thrown_by_index p arrays (operand l d 0) (operand l d 1)
thrown_by_operator p arrays l operators.StoreElement d = thrown_by_index p arrays (operand l d 0) (operand l d 1)
thrown_by_operator p arrays l operators.Length d = thrown_where (is_null (operand l d 0)) p.core.null_pointer_exception
thrown_by_operator p arrays l (operators.NewArray t) d = thrown_where (int_lt (number_in (operand l d 0)) (pos 0)) p.core.negative_array_size_exception
thrown_by_operator p arrays l (operators.Unary o t) d = None
thrown_by_operator p arrays l (operators.InstanceOf t) d = None
thrown_by_operator p arrays l (operators.Convert t) d = None
thrown_by_operator p arrays l (operators.StoreStatic f) d = None

-- a cast of a null succeeds (JLS 15.16)
abbrev pub is_cast_refused : Program → HeapContents → List ArrayObject → VType → Value → Bool
is_cast_refused p h arrays t v = not (is_null v) && not (is_instance p h arrays t v)

-- the class of the exception that the operation itself throws
abbrev pub thrown_by_operation : Program → HeapContents → List ArrayObject → Locals → Action → Option ClassId
thrown_by_operation p h arrays l (actions.Op k d n) = thrown_by_operator p arrays l k d
thrown_by_operation p h arrays l (actions.Get f d this) = thrown_where (is_null (temp_value l d)) p.core.null_pointer_exception
thrown_by_operation p h arrays l (actions.Put f d this) = thrown_where (is_null (temp_value l d)) p.core.null_pointer_exception
thrown_by_operation p h arrays l (actions.Cast t d) = thrown_where (is_cast_refused p h arrays t (temp_value l d)) p.core.class_cast_exception
thrown_by_operation p h arrays l (actions.Raise d s) = thrown_where (is_null (temp_value l d)) p.core.null_pointer_exception
thrown_by_operation p h arrays l a = None

-- What an operation gives

abbrev pub operand_type_of : VType → OperandType
operand_type_of (types.Primitive primitives.Long) = operand_types.Long
operand_type_of (types.Primitive primitives.Boolean) = operand_types.Boolean
operand_type_of t = operand_types.Int

-- a number cast to a primitive type; any other value stays
abbrev pub converted_to : VType → Value → Value
converted_to (types.Primitive t) v = values.Number (converted t (number_in v))
converted_to t v = v

abbrev pub number_or_nothing : Option ℤ → Value
number_or_nothing None = values.Nothing
number_or_nothing (Some z) = values.Number z

-- two references are equal (JLS 15.21.3). Of two texts nothing is kept that could tell them apart
abbrev pub same_reference : Value → Value → Bool
same_reference (values.Object k) (values.Object j) = nat_eq k j
same_reference (values.Array a) (values.Array b) = nat_eq a b
same_reference values.Text values.Text = true
same_reference v w = is_null v && is_null w

abbrev pub by_reference : BinaryOperator → Value → Value → Value
by_reference binary.Equal v w = truth_value (same_reference v w)
by_reference binary.NotEqual v w = truth_value (not (same_reference v w))
by_reference o v w = values.Nothing

abbrev pub by_operand_type : BinaryOperator → OperandType → Value → Value → Value
by_operand_type o operand_types.Text v w = values.Text
by_operand_type o operand_types.Reference v w = by_reference o v w
by_operand_type o operand_types.Boolean v w = number_or_nothing (folded o operand_types.Boolean (number_in v) (number_in w))
by_operand_type o operand_types.Int v w = number_or_nothing (folded o operand_types.Int (number_in v) (number_in w))
by_operand_type o operand_types.Long v w = number_or_nothing (folded o operand_types.Long (number_in v) (number_in w))

-- an element that the library chooses
abbrev pub chosen_element : ElementType → ℤ → Value
chosen_element (elements.Primitive t) z = values.Number (cut t z)
chosen_element elements.Str z = if int_eq z (pos 0) then values.Text else values.Null

abbrev pub element_in : Choice → Option ArrayObject → ℤ → Value
element_in c None i = values.Nothing
element_in c (Some a) i = if a.shared then chosen_element a.element c.value else value_or_nothing (slice_get a.elements (index_of i))

-- the value of an operation that throws nothing; `c` is the choice that a read of a shared array's element takes
abbrev pub operator_value : Program → HeapContents → List ArrayObject → Choice → Locals → Operator → ℕ → Value
operator_value p h arrays c l (operators.Unary o t) d = converted_to t (values.Number (folded_unary o (operand_type_of t) (number_in (operand l d 0))))
operator_value p h arrays c l (operators.Binary o t r) d = converted_to r (by_operand_type o t (operand l d 0) (operand l d 1))
operator_value p h arrays c l (operators.InstanceOf t) d = truth_value (is_instance p h arrays t (operand l d 0))
operator_value p h arrays c l (operators.Convert t) d = converted_to t (operand l d 0)
operator_value p h arrays c l operators.Length d = values.Number (array_length arrays (operand l d 0))
operator_value p h arrays c l operators.Element d = element_in c (array_of arrays (operand l d 0)) (number_in (operand l d 1))
operator_value p h arrays c l operators.StoreElement d = operand l d 2
operator_value p h arrays c l (operators.StoreStatic f) d = operand l d 0
operator_value p h arrays c l (operators.NewArray t) d = values.Array (length arrays)

abbrev pub plain_value : Program → List StoredStatic → PlainValue → Value
plain_value p statics (plain.Literal x) = literal_value x
plain_value p statics (plain.Default t) = default_of t
plain_value p statics (plain.StaticField f) = static_value p statics f
plain_value p statics (plain.LibraryConstant m) = values.Nothing

-- the value that the step makes, where it throws no exception of its own and calls nothing. What a `throw` throws stays where it is
abbrev pub made_value : Program → HeapContents → List ArrayObject → List StoredStatic → Choice → Locals → Action → Value
made_value p h arrays statics c l (actions.Plain x v) = plain_value p statics v
made_value p h arrays statics c l (actions.Op k d n) = operator_value p h arrays c l k d
made_value p h arrays statics c l (actions.Get f d this) = field_of p h (temp_value l d) f
made_value p h arrays statics c l (actions.Raise d s) = temp_value l d
made_value p h arrays statics c l a = values.Nothing

-- What an operation does to arrays, static fields and choices

abbrev pub array_by_type : VType → ℤ → Option ArrayObject
array_by_type (types.Arr e) n = Some (new_array e n)
array_by_type t n = None

abbrev pub array_by_operator : Locals → Operator → ℕ → Option ArrayObject
array_by_operator l (operators.NewArray t) d = array_by_type t (number_in (operand l d 0))
array_by_operator l k d = None

-- the array that a step makes
abbrev pub array_made : Locals → Action → Option ArrayObject
array_made l (actions.Op k d n) = array_by_operator l k d
array_made l a = None

abbrev pub with_element : ArrayObject → ℕ → Value → ArrayObject
with_element a i v = if a.shared then a else record a { elements = slice_set a.elements i v }

abbrev pub with_array : List ArrayObject → ℕ → Option ArrayObject → ℕ → Value → List ArrayObject
with_array arrays n None i v = arrays
with_array arrays n (Some a) i v = slice_set arrays n (with_element a i v)

-- the element takes the value
abbrev pub store_element : List ArrayObject → Value → ℤ → Value → List ArrayObject
store_element arrays (values.Array n) i v = with_array arrays n (slice_get arrays n) (index_of i) v
store_element arrays a i v = arrays

abbrev pub elements_by_operator : List ArrayObject → Locals → Operator → ℕ → List ArrayObject
elements_by_operator arrays l operators.StoreElement d = store_element arrays (operand l d 0) (number_in (operand l d 1)) (operand l d 2)
elements_by_operator arrays l k d = arrays

-- the elements after a step that throws nothing
abbrev pub elements_after : List ArrayObject → Locals → Action → List ArrayObject
elements_after arrays l (actions.Op k d n) = elements_by_operator arrays l k d
elements_after arrays l a = arrays

-- the arrays after a step that throws nothing
abbrev pub arrays_after : List ArrayObject → Locals → Action → List ArrayObject
arrays_after arrays l a = elements_after arrays l a ++ optional (array_made l a)

abbrev pub static_by_operator : Locals → Operator → ℕ → Option StoredStatic
static_by_operator l (operators.StoreStatic f) d = Some (static f (operand l d 0))
static_by_operator l k d = None

-- the store into a static field of a step that throws nothing
abbrev pub static_of : Locals → Action → Option StoredStatic
static_of l (actions.Op k d n) = static_by_operator l k d
static_of l a = None

abbrev pub statics_with : List StoredStatic → Option StoredStatic → List StoredStatic
statics_with statics None = statics
statics_with statics (Some s) = put_static s.field s.value statics

-- the static fields after a step that throws nothing
abbrev pub statics_after : List StoredStatic → Locals → Action → List StoredStatic
statics_after statics l a = statics_with statics (static_of l a)

abbrev pub reads_shared : List ArrayObject → Locals → Operator → ℕ → Bool
reads_shared arrays l operators.Element d = is_shared arrays (operand l d 0)
reads_shared arrays l k d = false

-- a step that throws nothing and calls nothing takes a choice: it reads an element of a shared array
abbrev pub takes_choice : List ArrayObject → Locals → Action → Bool
takes_choice arrays l (actions.Op k d n) = reads_shared arrays l k d
takes_choice arrays l a = false

-- the number of used choices after such a step
abbrev pub used_after : List ArrayObject → List Choice → ℕ → Locals → Action → ℕ
used_after arrays choices used l a = if takes_choice arrays l a then one_more_used choices used else used

-- What values are, and what they read as.
use Rattle.std.specs.Prelude.{ℕ, Bool, true, false, not, Option, Some, None, ℤ, pos}
use Rattle.std.specs.Ordering.{int_eq}
use Rattle.program_model.specs.declared.kinds.ElementType.{ElementType}
use Rattle.program_model.specs.declared.kinds.ElementType.TheVariants as elements
use Rattle.program_model.specs.declared.kinds.Literal.{Literal}
use Rattle.program_model.specs.declared.kinds.Literal.TheVariants as literals
use Rattle.program_model.specs.declared.kinds.VType.{VType}
use Rattle.program_model.specs.declared.kinds.VType.TheVariants as types
use Rattle.ledger_state.specs.declared.value.Value.{Value}
use Rattle.ledger_state.specs.declared.value.Value.TheVariants as values

-- the value reads as null
abbrev pub is_null : Value → Bool
is_null values.Nothing = true
is_null values.Null = true
is_null values.Text = false
is_null (values.Number z) = false
is_null (values.Object k) = false
is_null (values.Array a) = false

-- the number that the value reads as
abbrev pub number_in : Value → ℤ
number_in (values.Number z) = z
number_in values.Nothing = pos 0
number_in values.Null = pos 0
number_in values.Text = pos 0
number_in (values.Object k) = pos 0
number_in (values.Array a) = pos 0

-- the value reads as true
abbrev pub is_true : Value → Bool
is_true v = not (int_eq (number_in v) (pos 0))

abbrev pub is_text : Value → Bool
is_text values.Text = true
is_text values.Nothing = false
is_text values.Null = false
is_text (values.Number z) = false
is_text (values.Object k) = false
is_text (values.Array a) = false

-- the number of the class object that the value is
abbrev pub number_of : Value → Option ℕ
number_of (values.Object k) = Some k
number_of values.Nothing = None
number_of values.Null = None
number_of values.Text = None
number_of (values.Number z) = None
number_of (values.Array a) = None

-- a place that holds no value holds nothing
abbrev pub value_or_nothing : Option Value → Value
value_or_nothing None = values.Nothing
value_or_nothing (Some v) = v

abbrev pub truth_value : Bool → Value
truth_value true = values.Number (pos 1)
truth_value false = values.Number (pos 0)

-- the value that a variable, field or element of the type begins with (JLS 4.12.5)
abbrev pub default_of : VType → Value
default_of (types.Primitive t) = values.Number (pos 0)
default_of types.Str = values.Null
default_of (types.Arr e) = values.Null
default_of (types.Obj c) = values.Null
default_of types.NullType = values.Null

-- the value that an element of an array begins with
abbrev pub default_element : ElementType → Value
default_element (elements.Primitive t) = values.Number (pos 0)
default_element elements.Str = values.Null

abbrev pub literal_value : Literal → Value
literal_value (literals.Number z) = values.Number z
literal_value (literals.Character n) = values.Number (pos n)
literal_value (literals.Boolean b) = truth_value b
literal_value literals.Text = values.Text
literal_value literals.Null = values.Null

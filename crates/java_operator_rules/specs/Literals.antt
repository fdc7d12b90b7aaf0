-- The rule of literals (JLS 15.8.1), by what their text means.
use Rattle.std.specs.Prelude.{Bool, true, false, cond, Option, Some, None, ℤ, pos, negsuc}
use Rattle.rlc_base.specs.declared.place.Pos.{Pos}
use Rattle.program_model.specs.declared.kinds.Literal.{Literal}
use Rattle.program_model.specs.declared.kinds.Literal.TheVariants as literals
use Rattle.program_model.specs.declared.kinds.Primitive.TheVariants as primitives
use Rattle.program_model.specs.declared.kinds.VType.{VType}
use Rattle.program_model.specs.declared.kinds.VType.TheVariants as types
use Rattle.program_model.specs.Typing.{boolean, int, long}
use Rattle.java_literals.specs.declared.values.LiteralValue.{LiteralValue}
use Rattle.java_literals.specs.declared.values.LiteralValue.TheVariants as values
use Rattle.java_constants.specs.Folding.{truth}
use Rattle.java_typed_trees.specs.declared.facts.Answer.{Answer}
use Rattle.java_typed_trees.specs.declared.facts.Answer.TheVariants as answers
use Rattle.java_typed_trees.specs.declared.shapes.Shape.TheVariants as shapes
use Rattle.java_typed_trees.specs.Answers.{constant_at, mismatch}

-- as the typed body keeps it: 2^31 and 2^63 wrap to the least value of their type, which the minus leaves as it is
abbrev pub literal_in : LiteralValue → Literal
literal_in (values.Int n) = literals.Number n
literal_in (values.Long n) = literals.Number n
literal_in values.IntLimit = literals.Number (negsuc 2147483647)
literal_in values.LongLimit = literals.Number (negsuc 9223372036854775807)
literal_in (values.Character c) = literals.Character c
literal_in (values.Boolean b) = literals.Boolean b
literal_in values.Text = literals.Text
literal_in values.Null = literals.Null

abbrev pub type_of_literal : LiteralValue → VType
type_of_literal (values.Int n) = int
type_of_literal (values.Long n) = long
type_of_literal values.IntLimit = int
type_of_literal values.LongLimit = long
type_of_literal (values.Character c) = types.Primitive primitives.Char
type_of_literal (values.Boolean b) = boolean
type_of_literal values.Text = types.Str
type_of_literal values.Null = types.NullType

-- the value of a constant of a primitive type
abbrev pub constant_in : Literal → Option ℤ
constant_in (literals.Number n) = Some n
constant_in (literals.Character c) = Some (pos c)
constant_in (literals.Boolean b) = Some (truth b)
constant_in literals.Text = None
constant_in literals.Null = None

abbrev pub literal_as : Pos → LiteralValue → Answer
literal_as place v = answers.Is (shapes.Literal (literal_in v)) (constant_at place (type_of_literal v) (constant_in (literal_in v)))

-- the decimal 2^31, and 2^63 of type long
abbrev pub is_past_limit : LiteralValue → Bool
is_past_limit values.IntLimit = true
is_past_limit values.LongLimit = true
is_past_limit v = false

-- a literal under a unary minus. A text that is no literal has no type
abbrev pub literal_under_minus_by : Pos → Option LiteralValue → Answer
literal_under_minus_by place None = mismatch place
literal_under_minus_by place (Some v) = literal_as place v

-- a literal anywhere else, where the decimal 2^31 and 2^63 do not stand (JLS 3.10.1)
abbrev pub literal_by : Pos → Option LiteralValue → Answer
literal_by place None = mismatch place
literal_by place (Some v) = cond (is_past_limit v) (mismatch place) (literal_as place v)

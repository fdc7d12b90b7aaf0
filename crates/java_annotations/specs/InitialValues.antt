-- The values that static fields begin with: literals, with `-` before a number allowed (JLS 8.3.2, 15.15.4).
use Rattle.std.specs.Prelude.{◌≡◌, negsuc, Option, Some, None, option_and_then, option_map}
use Rattle.java_syntax.specs.declared.operators.PrefixOperator.{PrefixOperator}
use Rattle.java_syntax.specs.declared.operators.PrefixOperator.TheVariants as prefixes
use Rattle.java_syntax.specs.declared.expression_trees.Expr as expr
use Rattle.java_syntax.specs.ExpressionTrees.{ExprTree, expr_of}
use Rattle.java_syntax.specs.ExpressionTrees as expressions
use Rattle.java_literals.specs.declared.values.LiteralValue.{LiteralValue}
use Rattle.java_literals.specs.declared.values.LiteralValue.TheVariants as values
use Rattle.java_literals.specs.Values.{literal_value}
use Rattle.java_operator_rules.specs.Literals.{literal_in}
use Rattle.java_constants.specs.Arithmetic.{negate}
use Rattle.program_model.specs.declared.kinds.Literal.{Literal}
use Rattle.program_model.specs.declared.kinds.Literal.TheVariants as literals
use Rattle.program_model.specs.declared.kinds.OperandType.TheVariants as operands
use Rattle.program_model.specs.declared.kinds.VType.{VType}
use Rattle.program_model.specs.InitialValues.{FitsField}

-- a number under a minus
abbrev pub value_negated : LiteralValue → Option Literal
value_negated (values.Int n) = Some (literals.Number (negate operands.Int n))
value_negated (values.Long n) = Some (literals.Number (negate operands.Long n))
value_negated values.IntLimit = Some (literals.Number (negsuc 2147483647))
value_negated values.LongLimit = Some (literals.Number (negsuc 9223372036854775807))
value_negated (values.Character c) = None
value_negated (values.Boolean b) = None
value_negated values.Text = None
value_negated values.Null = None

abbrev pub value_under_minus : ExprTree → Option Literal
value_under_minus (expressions.Literal text pos) = option_and_then value_negated (literal_value text)
value_under_minus e = None

abbrev pub value_under : PrefixOperator → ExprTree → Option Literal
value_under prefixes.Minus e = value_under_minus e
value_under prefixes.Plus e = None
value_under prefixes.Not e = None
value_under prefixes.Complement e = None

-- the value of an initialiser that is a literal, as a typed body keeps it, or a number under a minus
abbrev pub value_of : ExprTree → Option Literal
value_of (expressions.Literal text pos) = option_map literal_in (literal_value text)
value_of (expressions.Prefix operator e pos) = value_under operator e
value_of e = None

-- what is written behind `=`, where it has such a value
abbrev pub written_value : Option expr.Expr → Option Literal
written_value e = option_and_then value_of (option_map expr_of e)

-- a static field of the type begins with the value that is written, where the type has it, and else with its default value
-- (JLS 4.12.5). Which values it may take (JLS 5.2) is asked where initialisers are typed, and an initialiser of another form
-- is refused there
abbrev pub IsInitial : VType → Option Literal → Option Literal → Type 0
IsInitial t written None = (l : Literal) → written ≡ Some l → FitsField t l → ⊥
IsInitial t written (Some l) = (written ≡ Some l) × FitsField t l

-- The typings of literals, of `this`, and of the expressions that are made of operators, by those of their parts (JLS 15).
use Rattle.std.specs.Prelude.{ℕ, Option, Some, None, List}
use Rattle.rlc_base.specs.declared.place.Pos.{Pos}
use Rattle.program_model.specs.declared.kinds.BinaryOperator.{BinaryOperator}
use Rattle.program_model.specs.declared.kinds.UnaryOperator.{UnaryOperator}
use Rattle.program_model.specs.declared.kinds.VType.{VType}
use Rattle.java_syntax.specs.declared.operators.PrefixOperator.{PrefixOperator}
use Rattle.java_syntax.specs.declared.operators.PrefixOperator.TheVariants as prefixes
use Rattle.java_syntax.specs.ExpressionTrees as syntax
use Rattle.java_literals.specs.Values.{literal_value}
use Rattle.java_typed_trees.specs.declared.facts.Answer.{Answer}
use Rattle.java_typed_trees.specs.ExpressionTrees.{no_expression}
use Rattle.java_operator_rules.specs.Arrays.{element_by, new_array_by}
use Rattle.java_operator_rules.specs.Casts.{cast_by, instance_of_by}
use Rattle.java_operator_rules.specs.Conditionals.{conditional_by}
use Rattle.java_operator_rules.specs.Literals.{literal_by, literal_under_minus_by}
use Rattle.java_operator_rules.specs.Operators.{binary_by, unary_by}
use Rattle.java_member_rules.specs.Names.{this_by}
use Rattle.java_expression_parts.specs.Surroundings.{Surroundings}
use Rattle.java_expression_parts.specs.TypedParts.{Typing, one, operand, three, two, typing_by}

-- ---- each kind of expression over the typings of its parts

abbrev pub literal_typing : Pos → List ℕ → Typing
literal_typing place text = typing_by (literal_by place (literal_value text)) no_expression

abbrev pub this_typing : Surroundings → Pos → Typing
this_typing s place = typing_by (this_by s.context.has_this s.context.class' place) no_expression

abbrev pub element_typing : Pos → Typing → Typing → Typing
element_typing place a i = typing_by (element_by place (operand a) (operand i)) (two a.tree i.tree)

abbrev pub new_array_typing : Pos → Option VType → Typing → Typing
new_array_typing place element size = typing_by (new_array_by place element (operand size)) (one size.tree)

-- what a literal under a unary minus is, where the operand is one (JLS 3.10.1)
abbrev pub answer_under_minus : syntax.ExprTree → Option Answer
answer_under_minus (syntax.Literal text place) = Some (literal_under_minus_by place (literal_value text))
answer_under_minus e = None

abbrev pub answer_under : PrefixOperator → syntax.ExprTree → Option Answer
answer_under prefixes.Plus e = None
answer_under prefixes.Minus e = answer_under_minus e
answer_under prefixes.Not e = None
answer_under prefixes.Complement e = None

-- the operand of a unary expression: a literal under a minus has a rule of its own
abbrev pub operand_typing : Option Answer → Typing → Typing
operand_typing None a = a
operand_typing (Some given) a = typing_by given no_expression

abbrev pub unary_typing : UnaryOperator → Pos → Typing → Typing
unary_typing o place a = typing_by (unary_by o place (operand a)) (one a.tree)

abbrev pub cast_typing : Surroundings → Pos → Option VType → Typing → Typing
cast_typing s place to a = typing_by (cast_by s.context.program place to (operand a)) (one a.tree)

abbrev pub binary_typing : Surroundings → BinaryOperator → Pos → Typing → Typing → Typing
binary_typing s o place a b = typing_by (binary_by s.context.program o place (operand a) (operand b)) (two a.tree b.tree)

abbrev pub instance_of_typing : Surroundings → Pos → Option VType → Typing → Typing
instance_of_typing s place tested a = typing_by (instance_of_by s.context.program place tested (operand a)) (one a.tree)

abbrev pub conditional_typing : Surroundings → Option VType → Pos → Typing → Typing → Typing → Typing
conditional_typing s wanted place c a b = typing_by (conditional_by s.context.program wanted place (operand c) (operand a) (operand b)) (three c.tree a.tree b.tree)

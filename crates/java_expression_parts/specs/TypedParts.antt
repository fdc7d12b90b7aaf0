-- What the typing of an expression gives: the answer of its rule, and its typed tree.
use Rattle.std.specs.Prelude.{Bool, List, ◌++◌, map}
use Rattle.std.specs.List.{list_all}
use Rattle.std.specs.Option.{is_some}
use Rattle.rlc_base.specs.declared.faults.Refusal.{Refusal}
use Rattle.java_typed_trees.specs.declared.facts.Facts.{Facts}
use Rattle.java_typed_trees.specs.declared.facts.Answer.{Answer}
use Rattle.java_typed_trees.specs.declared.facts.Answer.TheVariants as answers
use Rattle.java_typed_trees.specs.declared.shapes.Shape.{Shape}
use Rattle.java_typed_trees.specs.declared.shapes.Shape.TheVariants as shapes
use Rattle.java_typed_trees.specs.Answers.{as_value, facts_in, type_of, void_cases}
use Rattle.java_typed_trees.specs.ExpressionTrees.{ExprTree, ExprTrees, Node, no_expression, and_expression, expressions, tree_of}
use Rattle.java_typed_trees.specs.Settling.{own_cases, tree_in}
use Rattle.java_expression_parts.specs.declared.typing.ExpressionTyping.{ExpressionTyping}
use Rattle.java_expression_parts.specs.Surroundings.{Surroundings}

pub record Typing : Type 0 where
  pub answer : Answer
  pub tree : ExprTree

-- what a value in memory says
abbrev pub typing_of : ExpressionTyping → Typing
typing_of t = record { answer = t.answer; tree = tree_of t.tree }

-- the expression of which a rule gives this answer, over the typed trees of its parts
abbrev pub typing_by : Answer → ExprTrees → Typing
typing_by given parts = record { answer = given; tree = tree_in given parts }

abbrev pub facts_of : Typing → Facts
facts_of t = facts_in t.answer

-- the shape that its rule has found
abbrev pub shape_in : Answer → Shape
shape_in (answers.Is shape facts) = shape
shape_in (answers.Wrong code place) = shapes.Erroneous
shape_in (answers.Silent place) = shapes.Erroneous

abbrev pub shape_of : Typing → Shape
shape_of t = shape_in t.answer

-- the facts where a value is needed
abbrev pub operand : Typing → Facts
operand t = as_value (facts_of t)

-- it has a type; a call without a result has none
abbrev pub has_type : Typing → Bool
has_type t = is_some (type_of (facts_of t))

abbrev pub have_types : List Typing → Bool
have_types arguments = list_all has_type arguments

-- the refusals of the expression itself: that it has no type, or throws what is neither caught nor declared
abbrev pub own_refusals : Surroundings → Typing → List Refusal
own_refusals s t = own_cases s.context.program s.context.covered t.answer

-- the refusals of an expression where a value is needed: its own and those in it, and that it is a call without a result
abbrev pub value_refusals : List Refusal → Typing → List Refusal
value_refusals cases t = cases ++ void_cases (facts_of t)

-- ---- typed trees as parts

abbrev pub parts_of : ExprTree → ExprTrees
parts_of (Node shape t place parts) = parts

abbrev pub trees_in : List Typing → List ExprTree
trees_in all = map (λ t. t.tree) all

abbrev pub one : ExprTree → ExprTrees
one a = and_expression a no_expression

abbrev pub two : ExprTree → ExprTree → ExprTrees
two a b = and_expression a (one b)

abbrev pub three : ExprTree → ExprTree → ExprTree → ExprTrees
three a b c = and_expression a (two b c)

-- the parts, and one behind them
abbrev pub with_last : ExprTrees → ExprTree → ExprTrees
with_last no_expression last = one last
with_last (and_expression t ts) last = and_expression t (with_last ts last)

-- The actions of expressions, names and types: the kinds of the values that each takes, the top first, those that it leaves, and what it makes.
use Rattle.std.specs.Prelude.{ℕ, Bool, true, false, List, [], ◌∷◌, Some, None}
use Rattle.java_syntax.specs.ExpressionTrees.{ExprTree}
use Rattle.java_syntax.specs.declared.actions.ExpressionAction.{ExpressionAction}
use Rattle.java_syntax.specs.declared.actions.ExpressionAction.TheVariants as action
use Rattle.java_values.specs.Values as kinds
use Rattle.java_values.specs.NestedTrees.{NamesInside, ArrayInside, ExpressionInside}
use Rattle.java_values.specs.Values.{Kind, ValueTree}
use Rattle.java_values.specs.Kinds.{Values, ◌▷◌, bottom, taken, resume}
use Rattle.java_values.specs.Outcomes.{Outcome, Made, ◌>>=◌}
use Rattle.java_nodes.specs.Nodes.{super_call_node, index_node, new_object_node, new_array_node, prefix_node, prefix_step_node, cast_node, instance_node, conditional_node, assignment_node, compound_node, parenthesized}
use Rattle.java_nodes.specs.Operators.{compound_operator, prefix_operator, step_operator}
use Rattle.java_values.specs.Lists.{none_of, added}
use Rattle.java_nodes.specs.Parts.{closed, loosest, head_node, selector_node, named_call, name_expression, type_named, type_of, array_type, type_inside, expression_inside}

abbrev pub takes_expression : ExpressionAction → List Kind
takes_expression action.NoExpressions = []
takes_expression action.AndExpression = kinds.expression ∷ kinds.expressions ∷ []
takes_expression action.SomeCall = kinds.expressions ∷ []
takes_expression action.NoCall = []
takes_expression action.Head = kinds.call ∷ kinds.name ∷ []
takes_expression action.Selector = kinds.call ∷ kinds.name ∷ kinds.expression ∷ []
takes_expression action.SuperMethodCall = kinds.expressions ∷ kinds.name ∷ []
takes_expression action.NamedCall = kinds.expressions ∷ kinds.identifiers ∷ []
takes_expression action.NameExpression = kinds.identifiers ∷ []
takes_expression action.Index = kinds.expression ∷ kinds.place ∷ kinds.expression ∷ []
takes_expression action.NamedIndex = kinds.expression ∷ kinds.place ∷ kinds.identifiers ∷ []
takes_expression action.NewObject = kinds.expressions ∷ kinds.name ∷ kinds.place ∷ []
takes_expression action.NewArray = kinds.expression ∷ kinds.typ ∷ kinds.place ∷ []
takes_expression action.NamedType = kinds.name ∷ []
takes_expression action.IdentifiersType = kinds.identifiers ∷ []
takes_expression action.ArrayType = kinds.place ∷ kinds.identifiers ∷ []
takes_expression action.ArrayOf = kinds.typ ∷ []
takes_expression action.Prefix = kinds.expression ∷ kinds.token ∷ []
takes_expression action.PrefixIncrement = kinds.expression ∷ kinds.token ∷ []
takes_expression action.Cast = kinds.expression ∷ kinds.typ ∷ kinds.place ∷ []
takes_expression action.Parentheses = kinds.expression ∷ []
takes_expression action.NamesInside = kinds.identifiers ∷ []
takes_expression action.ArrayInside = kinds.typ ∷ []
takes_expression action.ExpressionInside = kinds.expression ∷ []
takes_expression action.CastType = kinds.parenthesized ∷ []
takes_expression action.ParenthesizedExpression = kinds.parenthesized ∷ kinds.place ∷ []
takes_expression action.BeginOperations = kinds.expression ∷ []
takes_expression action.EndOperations = kinds.expression ∷ kinds.operations ∷ []
takes_expression action.InstanceOf = kinds.typ ∷ kinds.place ∷ kinds.expression ∷ []
takes_expression action.Conditional = kinds.expression ∷ kinds.expression ∷ kinds.place ∷ kinds.expression ∷ []
takes_expression action.Assignment = kinds.expression ∷ kinds.place ∷ kinds.expression ∷ []
takes_expression action.CompoundAssignment = kinds.expression ∷ kinds.token ∷ kinds.expression ∷ []
takes_expression action.LeavePlace = kinds.expression ∷ kinds.place ∷ []

abbrev pub leaves_expression : ExpressionAction → List Kind
leaves_expression action.NoExpressions = kinds.expressions ∷ []
leaves_expression action.AndExpression = kinds.expressions ∷ []
leaves_expression action.SomeCall = kinds.call ∷ []
leaves_expression action.NoCall = kinds.call ∷ []
leaves_expression action.Head = kinds.expression ∷ []
leaves_expression action.Selector = kinds.expression ∷ []
leaves_expression action.SuperMethodCall = kinds.expression ∷ []
leaves_expression action.NamedCall = kinds.expression ∷ []
leaves_expression action.NameExpression = kinds.expression ∷ []
leaves_expression action.Index = kinds.expression ∷ []
leaves_expression action.NamedIndex = kinds.expression ∷ []
leaves_expression action.NewObject = kinds.expression ∷ []
leaves_expression action.NewArray = kinds.expression ∷ []
leaves_expression action.NamedType = kinds.typ ∷ []
leaves_expression action.IdentifiersType = kinds.typ ∷ []
leaves_expression action.ArrayType = kinds.typ ∷ []
leaves_expression action.ArrayOf = kinds.typ ∷ []
leaves_expression action.Prefix = kinds.expression ∷ []
leaves_expression action.PrefixIncrement = kinds.expression ∷ []
leaves_expression action.Cast = kinds.expression ∷ []
leaves_expression action.Parentheses = kinds.expression ∷ []
leaves_expression action.NamesInside = kinds.parenthesized ∷ []
leaves_expression action.ArrayInside = kinds.parenthesized ∷ []
leaves_expression action.ExpressionInside = kinds.parenthesized ∷ []
leaves_expression action.CastType = kinds.typ ∷ []
leaves_expression action.ParenthesizedExpression = kinds.expression ∷ []
leaves_expression action.BeginOperations = kinds.expression ∷ kinds.operations ∷ []
leaves_expression action.EndOperations = kinds.expression ∷ []
leaves_expression action.InstanceOf = kinds.expression ∷ []
leaves_expression action.Conditional = kinds.expression ∷ []
leaves_expression action.Assignment = kinds.expression ∷ []
leaves_expression action.CompoundAssignment = kinds.expression ∷ []
leaves_expression action.LeavePlace = kinds.expression ∷ []

abbrev pub act_expression : ℕ → (a : ExpressionAction) → Values (takes_expression a) → Outcome (Values (leaves_expression a))
act_expression limit action.NoExpressions bottom = Made ((none_of ExprTree) ▷ bottom)
act_expression limit action.AndExpression (one ▷ all ▷ bottom) = Made ((added all one) ▷ bottom)
act_expression limit action.SomeCall (all ▷ bottom) = Made ((Some all) ▷ bottom)
act_expression limit action.NoCall bottom = Made (None ▷ bottom)
act_expression limit action.Head (call ▷ name ▷ bottom) = do
  e ← head_node limit name call
  Made (e ▷ bottom)
act_expression limit action.Selector (call ▷ name ▷ target ▷ bottom) = do
  e ← selector_node limit target name call
  Made (e ▷ bottom)
act_expression limit action.SuperMethodCall (arguments ▷ name ▷ bottom) = do
  e ← super_call_node limit name.text arguments name.pos
  Made (e ▷ bottom)
act_expression limit action.NamedCall (arguments ▷ names ▷ bottom) = do
  e ← named_call limit names arguments
  Made (e ▷ bottom)
act_expression limit action.NameExpression (names ▷ bottom) = do
  e ← name_expression limit names
  Made (e ▷ bottom)
act_expression limit action.Index (position ▷ opened ▷ array ▷ bottom) = do
  e ← index_node limit array position opened
  Made (e ▷ bottom)
act_expression limit action.NamedIndex (position ▷ opened ▷ names ▷ bottom) = do
  array ← name_expression limit names
  e ← index_node limit array position opened
  Made (e ▷ bottom)
act_expression limit action.NewObject (arguments ▷ class' ▷ word ▷ bottom) = do
  e ← new_object_node limit class' arguments word
  Made (e ▷ bottom)
act_expression limit action.NewArray (length ▷ element ▷ word ▷ bottom) = do
  e ← new_array_node limit element length word
  Made (e ▷ bottom)
act_expression limit action.NamedType (name ▷ bottom) = Made ((type_named name) ▷ bottom)
act_expression limit action.IdentifiersType (names ▷ bottom) = Made ((type_of names) ▷ bottom)
act_expression limit action.ArrayType (opened ▷ names ▷ bottom) = Made ((array_type (type_of names)) ▷ bottom)
act_expression limit action.ArrayOf (typ ▷ bottom) = Made ((array_type typ) ▷ bottom)
act_expression limit action.Prefix (operand ▷ sign ▷ bottom) = do
  e ← prefix_node limit (prefix_operator sign.text) operand sign.pos
  Made (e ▷ bottom)
act_expression limit action.PrefixIncrement (operand ▷ sign ▷ bottom) = do
  e ← prefix_step_node limit (step_operator sign.text) operand sign.pos
  Made (e ▷ bottom)
act_expression limit action.Cast (operand ▷ typ ▷ opened ▷ bottom) = do
  e ← cast_node limit typ operand opened
  Made (e ▷ bottom)
act_expression limit action.Parentheses (e ▷ bottom) = do
  e ← parenthesized limit e
  Made (e ▷ bottom)
act_expression limit action.NamesInside (names ▷ bottom) = Made ((NamesInside names) ▷ bottom)
act_expression limit action.ArrayInside (typ ▷ bottom) = Made ((ArrayInside typ) ▷ bottom)
act_expression limit action.ExpressionInside (e ▷ bottom) = Made ((ExpressionInside e) ▷ bottom)
act_expression limit action.CastType (inside ▷ bottom) = do
  e ← type_inside inside
  Made (e ▷ bottom)
act_expression limit action.ParenthesizedExpression (inside ▷ opened ▷ bottom) = do
  e ← expression_inside limit inside
  p ← parenthesized limit e
  Made (p ▷ bottom)
act_expression limit action.BeginOperations (e ▷ bottom) = Made (e ▷ [] ▷ bottom)
act_expression limit action.EndOperations (right ▷ waiting ▷ bottom) = do
  c ← closed limit loosest right waiting
  Made (c.operand ▷ bottom)
act_expression limit action.InstanceOf (typ ▷ word ▷ operand ▷ bottom) = do
  e ← instance_node limit operand typ word
  Made (e ▷ bottom)
act_expression limit action.Conditional (when_false ▷ when_true ▷ question ▷ condition ▷ bottom) = do
  e ← conditional_node limit condition when_true when_false question
  Made (e ▷ bottom)
act_expression limit action.Assignment (right ▷ word ▷ left ▷ bottom) = do
  e ← assignment_node limit left right word
  Made (e ▷ bottom)
act_expression limit action.CompoundAssignment (right ▷ word ▷ left ▷ bottom) = do
  e ← compound_node limit (compound_operator word.text) left right word.pos
  Made (e ▷ bottom)
act_expression limit action.LeavePlace (e ▷ start ▷ bottom) = Made (e ▷ bottom)

-- what an action does on a stack
unfoldable pub perform_expression : ℕ → ExpressionAction → List ValueTree → Outcome (List ValueTree)
perform_expression limit a s = resume (takes_expression a) (leaves_expression a) (act_expression limit a) (taken (takes_expression a) s)

-- the actions of lists of expressions and of operands
abbrev pub is_of_lists : ExpressionAction → Bool
is_of_lists action.NoExpressions = true
is_of_lists action.AndExpression = true
is_of_lists action.SomeCall = true
is_of_lists action.NoCall = true
is_of_lists action.BeginOperations = true
is_of_lists action.LeavePlace = true
is_of_lists _ = false

-- the actions of types
abbrev pub is_of_types : ExpressionAction → Bool
is_of_types action.NamedType = true
is_of_types action.IdentifiersType = true
is_of_types action.ArrayType = true
is_of_types action.ArrayOf = true
is_of_types _ = false

-- the actions of calls, names and new objects
abbrev pub is_of_calls : ExpressionAction → Bool
is_of_calls action.Head = true
is_of_calls action.Selector = true
is_of_calls action.SuperMethodCall = true
is_of_calls action.NamedCall = true
is_of_calls action.NameExpression = true
is_of_calls action.NewObject = true
is_of_calls _ = false

-- the actions of arrays, casts and `instanceof`
abbrev pub is_of_arrays : ExpressionAction → Bool
is_of_arrays action.Index = true
is_of_arrays action.NamedIndex = true
is_of_arrays action.NewArray = true
is_of_arrays action.Cast = true
is_of_arrays action.InstanceOf = true
is_of_arrays _ = false

-- the actions of operators whose operands stand on the stack
abbrev pub is_of_operators : ExpressionAction → Bool
is_of_operators action.Prefix = true
is_of_operators action.PrefixIncrement = true
is_of_operators action.Conditional = true
is_of_operators action.Assignment = true
is_of_operators action.CompoundAssignment = true
is_of_operators _ = false

-- the actions of parentheses, and that of the end of operations
abbrev pub is_of_parentheses : ExpressionAction → Bool
is_of_parentheses action.Parentheses = true
is_of_parentheses action.NamesInside = true
is_of_parentheses action.ArrayInside = true
is_of_parentheses action.ExpressionInside = true
is_of_parentheses action.CastType = true
is_of_parentheses action.ParenthesizedExpression = true
is_of_parentheses action.EndOperations = true
is_of_parentheses _ = false

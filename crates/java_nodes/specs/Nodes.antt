-- The nodes of expressions: each is one level deeper than the deepest of its parts, and none is deeper than the limit.
use Rattle.std.specs.Prelude.{ℕ, max, List}
use Rattle.rlc_base.specs.declared.place.Pos.{Pos}
use Rattle.java_syntax.specs.declared.names.Name.{Name}
use Rattle.java_syntax.specs.declared.names.Typ.{Typ}
use Rattle.java_syntax.specs.declared.operators.InfixOperator.{InfixOperator}
use Rattle.java_syntax.specs.declared.operators.PrefixOperator.{PrefixOperator}
use Rattle.java_syntax.specs.declared.operators.StepOperator.{StepOperator}
use Rattle.java_syntax.specs.ExpressionTrees.{ExprTree, expressions}
use Rattle.java_syntax.specs.ExpressionTrees as expr
use Rattle.java_values.specs.NestedTrees.{Nested}
use Rattle.java_values.specs.Outcomes.{Outcome, node}

abbrev pub literal_node : ℕ → List ℕ → Pos → Outcome (Nested ExprTree)
literal_node limit text pos = node limit 0 (expr.Literal text pos)

abbrev pub identifier_node : ℕ → List ℕ → Pos → Outcome (Nested ExprTree)
identifier_node limit name pos = node limit 0 (expr.Identifier name pos)

abbrev pub this_node : ℕ → Pos → Outcome (Nested ExprTree)
this_node limit pos = node limit 0 (expr.This pos)

abbrev pub call_node : ℕ → List ℕ → Nested (List ExprTree) → Pos → Outcome (Nested ExprTree)
call_node limit name arguments pos = node limit arguments.depth (expr.Call name (expressions arguments.tree) pos)

abbrev pub super_call_node : ℕ → List ℕ → Nested (List ExprTree) → Pos → Outcome (Nested ExprTree)
super_call_node limit name arguments pos = node limit arguments.depth (expr.SuperCall name (expressions arguments.tree) pos)

abbrev pub method_call_node : ℕ → Nested ExprTree → List ℕ → Nested (List ExprTree) → Pos → Outcome (Nested ExprTree)
method_call_node limit target name arguments pos = node limit (max target.depth arguments.depth) (expr.MethodCall target.tree name (expressions arguments.tree) pos)

abbrev pub field_access_node : ℕ → Nested ExprTree → List ℕ → Pos → Outcome (Nested ExprTree)
field_access_node limit target name pos = node limit target.depth (expr.FieldAccess target.tree name pos)

abbrev pub index_node : ℕ → Nested ExprTree → Nested ExprTree → Pos → Outcome (Nested ExprTree)
index_node limit array index pos = node limit (max array.depth index.depth) (expr.Index array.tree index.tree pos)

abbrev pub new_object_node : ℕ → Name → Nested (List ExprTree) → Pos → Outcome (Nested ExprTree)
new_object_node limit class' arguments pos = node limit arguments.depth (expr.NewObject class' (expressions arguments.tree) pos)

abbrev pub new_array_node : ℕ → Typ → Nested ExprTree → Pos → Outcome (Nested ExprTree)
new_array_node limit element length pos = node limit length.depth (expr.NewArray element length.tree pos)

abbrev pub prefix_node : ℕ → PrefixOperator → Nested ExprTree → Pos → Outcome (Nested ExprTree)
prefix_node limit operator operand pos = node limit operand.depth (expr.Prefix operator operand.tree pos)

abbrev pub prefix_step_node : ℕ → StepOperator → Nested ExprTree → Pos → Outcome (Nested ExprTree)
prefix_step_node limit operator operand pos = node limit operand.depth (expr.PrefixStep operator operand.tree pos)

abbrev pub postfix_step_node : ℕ → StepOperator → Nested ExprTree → Pos → Outcome (Nested ExprTree)
postfix_step_node limit operator operand pos = node limit operand.depth (expr.PostfixStep operator operand.tree pos)

abbrev pub cast_node : ℕ → Typ → Nested ExprTree → Pos → Outcome (Nested ExprTree)
cast_node limit typ operand pos = node limit operand.depth (expr.Cast typ operand.tree pos)

abbrev pub infix_node : ℕ → InfixOperator → Nested ExprTree → Nested ExprTree → Pos → Outcome (Nested ExprTree)
infix_node limit operator left right pos = node limit (max left.depth right.depth) (expr.Infix operator left.tree right.tree pos)

abbrev pub instance_node : ℕ → Nested ExprTree → Typ → Pos → Outcome (Nested ExprTree)
instance_node limit operand typ pos = node limit operand.depth (expr.InstanceOf operand.tree typ pos)

abbrev pub conditional_node : ℕ → Nested ExprTree → Nested ExprTree → Nested ExprTree → Pos → Outcome (Nested ExprTree)
conditional_node limit condition when_true when_false pos = node limit (max condition.depth (max when_true.depth when_false.depth)) (expr.Conditional condition.tree when_true.tree when_false.tree pos)

abbrev pub assignment_node : ℕ → Nested ExprTree → Nested ExprTree → Pos → Outcome (Nested ExprTree)
assignment_node limit left right pos = node limit (max left.depth right.depth) (expr.Assignment left.tree right.tree pos)

abbrev pub compound_node : ℕ → InfixOperator → Nested ExprTree → Nested ExprTree → Pos → Outcome (Nested ExprTree)
compound_node limit operator left right pos = node limit (max left.depth right.depth) (expr.CompoundAssignment operator left.tree right.tree pos)

-- parentheses round an expression leave no node, and are one level
abbrev pub parenthesized : ℕ → Nested ExprTree → Outcome (Nested ExprTree)
parenthesized limit e = node limit e.depth e.tree

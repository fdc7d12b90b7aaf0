-- Trees with their levels, lists of them, and trees that wait for a part, without addresses.
use Rattle.std.specs.Prelude.{ℕ, List, Option, map, option_map, Vec}
use Rattle.std.specs.declared.alloc.Global.{Global}
use Rattle.rlc_base.specs.declared.place.Pos.{Pos}
use Rattle.java_syntax.specs.declared.names.Name.{Name}
use Rattle.java_syntax.specs.declared.names.Typ.{Typ}
use Rattle.java_syntax.specs.declared.operators.InfixOperator.{InfixOperator}
use Rattle.java_syntax.specs.declared.expression_trees.Expr.{Expr}
use Rattle.java_syntax.specs.declared.annotation_trees.Anno.{Anno}
use Rattle.java_syntax.specs.declared.annotation_trees.AnnoArgument.{AnnoArgument}
use Rattle.java_syntax.specs.declared.annotation_trees.AnnoValue.{AnnoValue}
use Rattle.java_syntax.specs.declared.annotation_trees.Modifier.{Modifier}
use Rattle.java_syntax.specs.declared.statement_trees.Variable.{Variable}
use Rattle.java_syntax.specs.declared.statement_trees.Resource.{Resource}
use Rattle.java_syntax.specs.declared.statement_trees.Catch.{Catch}
use Rattle.java_syntax.specs.declared.statement_trees.Stmt.{Stmt}
use Rattle.java_syntax.specs.Derives.{Lexeme}
use Rattle.java_syntax.specs.ExpressionTrees.{ExprTree, expr_of}
use Rattle.java_syntax.specs.AnnotationTrees.{AnnoTree, ArgumentTree, AnnoValueTree, ModifierTree, anno_of, argument_of, anno_value_of, modifier_of}
use Rattle.java_syntax.specs.StatementTrees.{VariableTree, ResourceTree, StmtTree, CatchTree, variable_of, resource_of, stmt_of, catch_of}
use Rattle.java_values.specs.declared.trees.Lexeme.{Lexeme as OwnLexeme}
use Rattle.java_values.specs.declared.trees.Nested.{Nested as OwnNested}
use Rattle.java_values.specs.declared.trees.OpenOperation.{OpenOperation}
use Rattle.java_values.specs.declared.trees.Identifiers.{Identifiers}
use Rattle.java_values.specs.declared.trees.Parenthesized.{Parenthesized}
use Rattle.java_values.specs.declared.trees.Parenthesized.TheVariants as inside

-- a tree, or several, and how many levels the deepest has, parentheses counted; 0 where there is none
pub record Nested (A : Type 0) : Type 0 where
  pub tree : A
  pub depth : ℕ

-- an operator that waits for its right operand
pub record OpenOperationTree : Type 0 where
  pub left : Nested ExprTree
  pub operator : InfixOperator
  pub pos : Pos

-- identifiers that dots join, in their order
pub record IdentifiersTree : Type 0 where
  pub first : Name
  pub more : List Name

pub data ParenthesizedTree : Type 0 where
  NamesInside : (ns : IdentifiersTree) → ParenthesizedTree
  ArrayInside : (t : Typ) → ParenthesizedTree
  ExpressionInside : (e : Nested ExprTree) → ParenthesizedTree

abbrev pub nested_of : {A B : Type 0} → (A → B) → OwnNested A → Nested B
nested_of view n = record { tree = view n.tree; depth = n.depth }

abbrev pub exprs_in : Vec Expr Global → List ExprTree
exprs_in v = map expr_of v.items

abbrev pub optional_in : Option Expr → Option ExprTree
optional_in o = option_map expr_of o

abbrev pub annos_in : Vec Anno Global → List AnnoTree
annos_in v = map anno_of v.items

abbrev pub arguments_in : Vec AnnoArgument Global → List ArgumentTree
arguments_in v = map argument_of v.items

abbrev pub anno_values_in : Vec AnnoValue Global → List AnnoValueTree
anno_values_in v = map anno_value_of v.items

abbrev pub modifiers_in : Vec Modifier Global → List ModifierTree
modifiers_in v = map modifier_of v.items

abbrev pub variables_in : Vec Variable Global → List VariableTree
variables_in v = map variable_of v.items

abbrev pub stmts_in : Vec Stmt Global → List StmtTree
stmts_in v = map stmt_of v.items

abbrev pub resources_in : Vec Resource Global → List ResourceTree
resources_in v = map resource_of v.items

abbrev pub catches_in : Vec Catch Global → List CatchTree
catches_in v = map catch_of v.items

abbrev pub lexeme_in : OwnLexeme → Lexeme
lexeme_in t = record { word = t.word; text = t.text; pos = t.pos }

abbrev pub open_operation_of : OpenOperation → OpenOperationTree
open_operation_of o = record { left = nested_of expr_of o.left; operator = o.operator; pos = o.pos }

abbrev pub identifiers_of : Identifiers → IdentifiersTree
identifiers_of i = record { first = i.first; more = i.more.items }

abbrev pub parenthesized_of : Parenthesized → ParenthesizedTree
parenthesized_of (inside.Names x) = NamesInside (identifiers_of x)
parenthesized_of (inside.Array x) = ArrayInside x
parenthesized_of (inside.Expression x) = ExpressionInside (nested_of expr_of x)

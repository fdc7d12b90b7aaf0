-- Typed statements as trees without addresses, and the tree that a value in memory is.
use Rattle.std.specs.Prelude.{ℕ, Bool, List, [], ◌∷◌, map}
use Rattle.rlc_base.specs.declared.place.Pos.{Pos}
use Rattle.program_model.specs.declared.kinds.ClassId.{ClassId}
use Rattle.program_model.specs.declared.kinds.MethodId.{MethodId}
use Rattle.java_typed_trees.specs.declared.statements.DeclaratorShape.{DeclaratorShape}
use Rattle.java_typed_trees.specs.declared.statements.ResourceShape.{ResourceShape}
use Rattle.java_typed_trees.specs.declared.statements.CatchShape.{CatchShape}
use Rattle.java_typed_trees.specs.declared.statements.InitialShape.{InitialShape}
use Rattle.java_typed_trees.specs.declared.statements.InitialShape.TheVariants as initials
use Rattle.java_typed_trees.specs.declared.statements.StatementShape.{StatementShape}
use Rattle.java_typed_trees.specs.declared.statements.StatementShape.TheVariants as shapes
use Rattle.java_typed_trees.specs.declared.statements.StatementTree as stmt
use Rattle.java_typed_trees.specs.ExpressionTrees.{ExprTrees, expressions, tree_of}

-- the first part of a `for` statement
pub data InitialForm : Type 0 where
  Declaration : (names : List DeclaratorShape) → InitialForm
  Expressions : (count : ℕ) → InitialForm

-- a catch clause without its block
pub record CatchForm : Type 0 where
  pub variable : ℕ
  pub classes : List ClassId

-- a statement without its parts, with lists for what it keeps in memory
pub data StatementForm : Type 0 where
  Block : (end : Pos) → StatementForm
  Empty : StatementForm
  LocalDeclaration : (names : List DeclaratorShape) → StatementForm
  Expression : StatementForm
  If : (has_else : Bool) → StatementForm
  While : StatementForm
  Do : StatementForm
  For : (initial : InitialForm) (has_condition : Bool) → StatementForm
  Return : (has_value : Bool) → StatementForm
  Throw : StatementForm
  Break : StatementForm
  Continue : StatementForm
  Try : (resources : List ResourceShape) (catches : List CatchForm) (has_finally : Bool) → StatementForm
  SuperCall : (constructor : MethodId) (written : Bool) → StatementForm
  FieldInitializer : StatementForm
  Erroneous : StatementForm

abbrev pub initial_form : InitialShape → InitialForm
initial_form (initials.Declaration names) = Declaration names.items
initial_form (initials.Expressions count) = Expressions count

abbrev pub catch_form : CatchShape → CatchForm
catch_form c = record { variable = c.variable; classes = c.classes.items }

abbrev pub form_of : StatementShape → StatementForm
form_of (shapes.Block end) = Block end
form_of shapes.Empty = Empty
form_of (shapes.LocalDeclaration names) = LocalDeclaration names.items
form_of shapes.Expression = Expression
form_of (shapes.If has_else) = If has_else
form_of shapes.While = While
form_of shapes.Do = Do
form_of (shapes.For f) = For (initial_form f.initial) f.has_condition
form_of (shapes.Return has_value) = Return has_value
form_of shapes.Throw = Throw
form_of shapes.Break = Break
form_of shapes.Continue = Continue
form_of (shapes.Try t) = Try t.resources.items (map catch_form t.catches.items) t.has_finally
form_of (shapes.SuperCall m written) = SuperCall m written
form_of shapes.FieldInitializer = FieldInitializer
form_of shapes.Erroneous = Erroneous

mutual
  -- a statement: its form, its place, and the expressions and statements that are its parts
  pub data StmtTree : Type 0 where
    Statement : (form : StatementForm) (pos : Pos) (expressions : ExprTrees) (statements : StmtTrees) → StmtTree

  pub data StmtTrees : Type 0 where
    no_statement : StmtTrees
    and_statement : (first : StmtTree) (more : StmtTrees) → StmtTrees

-- a list of trees, as a tree holds it
abbrev pub statements : List StmtTree → StmtTrees
statements [] = no_statement
statements (t ∷ ts) = and_statement t (statements ts)

abbrev mutual
  pub statement_of : stmt.StatementTree → StmtTree
  statement_of (stmt.StatementTree' s place es shape all) = Statement (form_of s) place (expressions (map tree_of es.items)) (statements_of all)

  pub statements_of : {m : _} → stmt.Row_of-StatementTree m → StmtTrees
  statements_of stmt.end_of-StatementTree = no_statement
  statements_of (stmt.more_of-StatementTree s rest) = and_statement (statement_of s) (statements_of rest)

-- Statements as trees without addresses, and the tree that a value in memory is.
use Rattle.std.specs.Prelude.{List, [], ◌∷◌, Option, Some, None, map, option_map}
use Rattle.rlc_base.specs.declared.place.Pos.{Pos}
use Rattle.java_syntax.specs.declared.names.Name.{Name}
use Rattle.java_syntax.specs.declared.names.Typ.{Typ}
use Rattle.java_syntax.specs.declared.statement_trees.Variable.{Variable}
use Rattle.java_syntax.specs.declared.statement_trees.Local.{Local}
use Rattle.java_syntax.specs.declared.statement_trees.Resource.{Resource}
use Rattle.java_syntax.specs.declared.statement_trees.ForStart.{ForStart}
use Rattle.java_syntax.specs.declared.statement_trees.ForStart.TheVariants as start
use Rattle.java_syntax.specs.declared.statement_trees.Block.{Block}
use Rattle.java_syntax.specs.declared.statement_trees.Catch.{Catch}
use Rattle.java_syntax.specs.declared.statement_trees.Stmt as stmt
use Rattle.java_syntax.specs.AnnotationTrees.{ModifierTree, modifier_of}
use Rattle.java_syntax.specs.ExpressionTrees.{ExprTree, expr_of}

pub record VariableTree : Type 0 where
  pub name : Name
  pub initializer : Option ExprTree

pub record LocalTree : Type 0 where
  pub modifiers : List ModifierTree
  pub typ : Typ
  pub variables : List VariableTree

pub record ResourceTree : Type 0 where
  pub modifiers : List ModifierTree
  pub class' : Name
  pub name : Name
  pub value : ExprTree

pub data ForStartTree : Type 0 where
  Declaration : (local : LocalTree) → ForStartTree
  Expressions : (all : List ExprTree) → ForStartTree

mutual
  pub data StmtTree : Type 0 where
    BlockOf : (block : BlockTree) → StmtTree
    Empty : (pos : Pos) → StmtTree
    LocalOf : (local : LocalTree) (pos : Pos) → StmtTree
    ExpressionOf : (expression : ExprTree) (pos : Pos) → StmtTree
    If : (condition : ExprTree) (then' : StmtTree) (otherwise : MaybeStmt) (pos : Pos) → StmtTree
    While : (condition : ExprTree) (body : StmtTree) (pos : Pos) → StmtTree
    DoWhile : (body : StmtTree) (condition : ExprTree) (pos : Pos) → StmtTree
    For : (start : ForStartTree) (condition : Option ExprTree) (updates : List ExprTree) (body : StmtTree) (pos : Pos) → StmtTree
    Try : (resources : List ResourceTree) (block : BlockTree) (catches : CatchTrees) (finally : MaybeBlock) (pos : Pos) → StmtTree
    Return : (value : Option ExprTree) (pos : Pos) → StmtTree
    Throw : (value : ExprTree) (pos : Pos) → StmtTree
    Break : (pos : Pos) → StmtTree
    Continue : (pos : Pos) → StmtTree

  -- its statements, the place of `{` and that of `}`
  pub data BlockTree : Type 0 where
    Braces : (statements : StmtTrees) (pos end : Pos) → BlockTree

  pub data StmtTrees : Type 0 where
    no_statement : StmtTrees
    and_statement : (first : StmtTree) (more : StmtTrees) → StmtTrees

  -- a catch clause: modifiers, classes, the parameter and the block; and those behind it
  pub data CatchTrees : Type 0 where
    no_catch : CatchTrees
    and_catch : (modifiers : List ModifierTree) (classes : List Name) (name : Name) (block : BlockTree) (more : CatchTrees) → CatchTrees

  pub data MaybeStmt : Type 0 where
    no_else : MaybeStmt
    some_else : (s : StmtTree) → MaybeStmt

  pub data MaybeBlock : Type 0 where
    no_finally : MaybeBlock
    some_finally : (block : BlockTree) → MaybeBlock

abbrev pub statements : List StmtTree → StmtTrees
statements [] = no_statement
statements (s ∷ more) = and_statement s (statements more)

pub record CatchTree : Type 0 where
  pub modifiers : List ModifierTree
  pub classes : List Name
  pub name : Name
  pub block : BlockTree

abbrev pub catches : List CatchTree → CatchTrees
catches [] = no_catch
catches (c ∷ more) = and_catch c.modifiers c.classes c.name c.block (catches more)

abbrev pub maybe_statement : Option StmtTree → MaybeStmt
maybe_statement None = no_else
maybe_statement (Some s) = some_else s

abbrev pub maybe_block : Option BlockTree → MaybeBlock
maybe_block None = no_finally
maybe_block (Some b) = some_finally b

abbrev pub variable_of : Variable → VariableTree
variable_of v = record { name = v.name; initializer = option_map expr_of v.initializer }

abbrev pub local_of : Local → LocalTree
local_of l = record { modifiers = map modifier_of l.modifiers.items; typ = l.typ; variables = map variable_of l.variables.items }

abbrev pub resource_of : Resource → ResourceTree
resource_of r = record { modifiers = map modifier_of r.modifiers.items; class' = r.class; name = r.name; value = expr_of r.value }

abbrev pub for_start_of : ForStart → ForStartTree
for_start_of (start.Declaration l) = Declaration (local_of l)
for_start_of (start.Expressions es) = Expressions (map expr_of es.items)

abbrev mutual
  pub stmt_of : stmt.Stmt → StmtTree
  stmt_of (stmt.Block' shape all pos end) = BlockOf (Braces (stmts_of all) pos end)
  stmt_of (stmt.Empty pos) = Empty pos
  stmt_of (stmt.Local l pos) = LocalOf (local_of l) pos
  stmt_of (stmt.Expression e pos) = ExpressionOf (expr_of e) pos
  stmt_of (stmt.If' c p then' otherwise pos) = If (expr_of c) (stmt_of then') (else_of otherwise) pos
  stmt_of (stmt.While' c p body pos) = While (expr_of c) (stmt_of body) pos
  stmt_of (stmt.Do' p body c pos) = DoWhile (stmt_of body) (expr_of c) pos
  stmt_of (stmt.For' start condition updates p body pos) = For (for_start_of start) (option_map expr_of condition) (map expr_of updates.items) (stmt_of body) pos
  stmt_of (stmt.Try' resources shape all pos end shape2 catches finally place) = Try (map resource_of resources.items) (Braces (stmts_of all) pos end) (catches_of catches) (finally_of finally) place
  stmt_of (stmt.Return value pos) = Return (option_map expr_of value) pos
  stmt_of (stmt.Throw value pos) = Throw (expr_of value) pos
  stmt_of (stmt.Break pos) = Break pos
  stmt_of (stmt.Continue pos) = Continue pos

  pub stmts_of : {m : _} → stmt.Row_of-Stmt m → StmtTrees
  stmts_of stmt.end_of-Stmt = no_statement
  stmts_of (stmt.more_of-Stmt s rest) = and_statement (stmt_of s) (stmts_of rest)

  pub catches_of : {m : _} → stmt.Row_of-Catch m → CatchTrees
  catches_of stmt.end_of-Catch = no_catch
  catches_of (stmt.more_of-Catch modifiers classes name shape all pos end rest) = and_catch (map modifier_of modifiers.items) classes.items name (Braces (stmts_of all) pos end) (catches_of rest)

  pub else_of : stmt.Held-Stmt-If-2 → MaybeStmt
  else_of stmt.Stmt-If-2-None' = no_else
  else_of (stmt.Stmt-If-2-Some' p s) = some_else (stmt_of s)

  pub finally_of : stmt.Held-Stmt-Try-3 → MaybeBlock
  finally_of stmt.Stmt-Try-3-None' = no_finally
  finally_of (stmt.Stmt-Try-3-Some' shape all pos end) = some_finally (Braces (stmts_of all) pos end)

abbrev pub block_of : Block → BlockTree
block_of b = Braces (statements (map stmt_of b.statements.items)) b.pos b.end

abbrev pub catch_of : Catch → CatchTree
catch_of c = record { modifiers = map modifier_of c.modifiers.items; classes = c.classes.items; name = c.name; block = block_of c.block }

-- Expressions as trees without addresses, and the tree that a value in memory is.
use Rattle.std.specs.Prelude.{ℕ, List, [], ◌∷◌}
use Rattle.rlc_base.specs.declared.place.Pos.{Pos}
use Rattle.java_syntax.specs.declared.names.Name.{Name}
use Rattle.java_syntax.specs.declared.names.Typ.{Typ}
use Rattle.java_syntax.specs.declared.operators.InfixOperator.{InfixOperator}
use Rattle.java_syntax.specs.declared.operators.PrefixOperator.{PrefixOperator}
use Rattle.java_syntax.specs.declared.operators.StepOperator.{StepOperator}
use Rattle.java_syntax.specs.declared.expression_trees.Expr as expr

mutual
  pub data ExprTree : Type 0 where
    Literal : (text : List ℕ) (pos : Pos) → ExprTree
    Identifier : (name : List ℕ) (pos : Pos) → ExprTree
    This : (pos : Pos) → ExprTree
    Call : (name : List ℕ) (arguments : ExprTrees) (pos : Pos) → ExprTree
    SuperCall : (name : List ℕ) (arguments : ExprTrees) (pos : Pos) → ExprTree
    MethodCall : (target : ExprTree) (name : List ℕ) (arguments : ExprTrees) (pos : Pos) → ExprTree
    FieldAccess : (target : ExprTree) (name : List ℕ) (pos : Pos) → ExprTree
    Index : (array index : ExprTree) (pos : Pos) → ExprTree
    NewObject : (class' : Name) (arguments : ExprTrees) (pos : Pos) → ExprTree
    NewArray : (element : Typ) (length : ExprTree) (pos : Pos) → ExprTree
    Prefix : (operator : PrefixOperator) (operand : ExprTree) (pos : Pos) → ExprTree
    PrefixStep : (operator : StepOperator) (operand : ExprTree) (pos : Pos) → ExprTree
    PostfixStep : (operator : StepOperator) (operand : ExprTree) (pos : Pos) → ExprTree
    Cast : (typ : Typ) (operand : ExprTree) (pos : Pos) → ExprTree
    Infix : (operator : InfixOperator) (left right : ExprTree) (pos : Pos) → ExprTree
    InstanceOf : (operand : ExprTree) (typ : Typ) (pos : Pos) → ExprTree
    Conditional : (condition when_true when_false : ExprTree) (pos : Pos) → ExprTree
    Assignment : (left right : ExprTree) (pos : Pos) → ExprTree
    CompoundAssignment : (operator : InfixOperator) (left right : ExprTree) (pos : Pos) → ExprTree

  pub data ExprTrees : Type 0 where
    no_expression : ExprTrees
    and_expression : (first : ExprTree) (more : ExprTrees) → ExprTrees

-- a list of trees, as a tree holds it
abbrev pub expressions : List ExprTree → ExprTrees
expressions [] = no_expression
expressions (t ∷ ts) = and_expression t (expressions ts)

abbrev mutual
  pub expr_of : expr.Expr → ExprTree
  expr_of (expr.Literal text pos) = Literal text pos
  expr_of (expr.Identifier name pos) = Identifier name pos
  expr_of (expr.This pos) = This pos
  expr_of (expr.Call' name shape all pos) = Call name (exprs_of all) pos
  expr_of (expr.SuperCall' name shape all pos) = SuperCall name (exprs_of all) pos
  expr_of (expr.MethodCall' p target name shape all pos) = MethodCall (expr_of target) name (exprs_of all) pos
  expr_of (expr.FieldAccess' p target name pos) = FieldAccess (expr_of target) name pos
  expr_of (expr.Index' p array q index pos) = Index (expr_of array) (expr_of index) pos
  expr_of (expr.NewObject' class' shape all pos) = NewObject class' (exprs_of all) pos
  expr_of (expr.NewArray' element p length pos) = NewArray element (expr_of length) pos
  expr_of (expr.Prefix' operator p operand pos) = Prefix operator (expr_of operand) pos
  expr_of (expr.PrefixStep' operator p operand pos) = PrefixStep operator (expr_of operand) pos
  expr_of (expr.PostfixStep' operator p operand pos) = PostfixStep operator (expr_of operand) pos
  expr_of (expr.Cast' typ p operand pos) = Cast typ (expr_of operand) pos
  expr_of (expr.Infix' operator p left q right pos) = Infix operator (expr_of left) (expr_of right) pos
  expr_of (expr.InstanceOf' p operand typ pos) = InstanceOf (expr_of operand) typ pos
  expr_of (expr.Conditional' p condition q when_true r when_false pos) = Conditional (expr_of condition) (expr_of when_true) (expr_of when_false) pos
  expr_of (expr.Assignment' p left q right pos) = Assignment (expr_of left) (expr_of right) pos
  expr_of (expr.CompoundAssignment' operator p left q right pos) = CompoundAssignment operator (expr_of left) (expr_of right) pos

  pub exprs_of : {m : _} → expr.Row_of-Expr m → ExprTrees
  exprs_of expr.end_of-Expr = no_expression
  exprs_of (expr.more_of-Expr e rest) = and_expression (expr_of e) (exprs_of rest)

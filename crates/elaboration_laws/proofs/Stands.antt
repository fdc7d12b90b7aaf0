-- What a statement or an expression that stands at a number of a body's table is there.
use Rattle.std.proofs.Common.{◌≡◌, ◌∙◌, sym, ap, refl, Option, Some, None, List, slice_get, option_map}
use Rattle.std.proofs.lemmas.Option.{slice_get-map}
use Rattle.rlc_base.specs.declared.place.Pos.{Pos}
use Rattle.program_model.specs.declared.kinds.ExprId.{ExprId}
use Rattle.program_model.specs.declared.kinds.StmtId.{StmtId}
use Rattle.program_model.specs.declared.kinds.VType.{VType}
use Rattle.program_model.specs.declared.tree.Body.{Body}
use Rattle.program_model.specs.declared.tree.TExpr.{TExpr}
use Rattle.program_model.specs.declared.tree.TStmt.{TStmt}
use Rattle.program_model.specs.Lookups.{expression_at, statement_at}
use Rattle.program_model.specs.Trees.{expressions_in, operands, statements_in}
use Rattle.java_typed_trees.specs.declared.shapes.Shape.{Shape}
use Rattle.java_typed_trees.specs.StatementTrees.{StatementForm, StmtTree, StmtTrees}
use Rattle.java_typing_laws.specs.Cells.{Cell, cell_of, cells_of, shape_of}
use Rattle.java_typing_laws.specs.StatementCells.{StatementCell, form_in, statement_cell, statement_cells}
use Rattle.java_typing_laws.specs.StatementForest.{StatementStandsAt, StatementsStandAt}

abbrev pub StandsIn : Body → StmtId → StmtTree → Type 0
StandsIn b s t = StatementStandsAt (statement_cells b.statements.items) (cells_of b.expressions.items) s t

abbrev pub StandIn : Body → List StmtId → StmtTrees → Type 0
StandIn b ids ts = StatementsStandAt (statement_cells b.statements.items) (cells_of b.expressions.items) ids ts

pub none_is_some : {X : Type 0} (x : X) → ◌≡◌ {A = Option X} None (Some x) → ⊥
none_is_some x h = cc

pub same_in : {X : Type 0} (x y : X) → ◌≡◌ {A = Option X} (Some x) (Some y) → x ≡ y
same_in x y h = cc

-- the value of which this is the image
pub record IsImage (X Y : Type 0) (f : X → Y) (o : Option X) (y : Y) : Type 0 where
  pub value : X
  pub at : o ≡ Some value
  pub is : f value ≡ y

pub image_known : {X Y : Type 0} (f : X → Y) (o : Option X) (y : Y) → option_map f o ≡ Some y → IsImage X Y f o y
image_known f None y e = absurd (none_is_some y e)
image_known f (Some x) y e = record { value = x; at = refl; is = same_in (f x) y e }

-- ---- statements

pub record IsStatement (b : Body) (s : StmtId) (f : StatementForm) (ids : List ExprId) (inner : List StmtId) : Type 0 where
  pub statement : TStmt
  pub at : statement_at b s ≡ Some statement
  pub form : form_in statement.kind ≡ f
  pub expressions : expressions_in statement.kind ≡ ids
  pub statements : statements_in statement.kind ≡ inner

abbrev pub statement_cell_with : StatementForm → Pos → List ExprId → List StmtId → StatementCell
statement_cell_with f p ids inner = record { form = f; pos = p; expressions = ids; statements = inner }

pub statement_stands : (b : Body) (s : StmtId) (f : StatementForm) (p : Pos) (ids : List ExprId) (inner : List StmtId) → slice_get (statement_cells b.statements.items) s.0 ≡ Some (statement_cell_with f p ids inner) → IsStatement b s f ids inner
statement_stands b s f p ids inner here =
    let k = image_known statement_cell (statement_at b s) (statement_cell_with f p ids inner) (sym (slice_get-map statement_cell b.statements.items s.0) ∙ here) in
    record {
      statement = k.value;
      at = k.at;
      form = ap (λ (c : StatementCell). c.form) k.is;
      expressions = ap (λ (c : StatementCell). c.expressions) k.is;
      statements = ap (λ (c : StatementCell). c.statements) k.is;
    }

-- ---- expressions

pub record IsExpression (b : Body) (e : ExprId) (s : Shape) (ids : List ExprId) : Type 0 where
  pub expression : TExpr
  pub at : expression_at b e ≡ Some expression
  pub shape : shape_of expression.kind ≡ s
  pub parts : operands expression.kind ≡ ids

abbrev pub cell_with : Shape → Option VType → Pos → List ExprId → Cell
cell_with s t p ids = record { shape = s; vtype = t; pos = p; parts = ids }

pub expression_stands : (b : Body) (e : ExprId) (s : Shape) (t : Option VType) (p : Pos) (ids : List ExprId) → slice_get (cells_of b.expressions.items) e.0 ≡ Some (cell_with s t p ids) → IsExpression b e s ids
expression_stands b e s t p ids here =
    let k = image_known cell_of (expression_at b e) (cell_with s t p ids) (sym (slice_get-map cell_of b.expressions.items e.0) ∙ here) in
    record { expression = k.value; at = k.at; shape = ap (λ (c : Cell). c.shape) k.is; parts = ap (λ (c : Cell). c.parts) k.is }

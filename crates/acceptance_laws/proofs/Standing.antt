-- How a statement completes and what it throws, where it stands in the tables of a body: by its form and the numbers of its parts.
use Rattle.std.proofs.Common.{◌≡◌, ◌∙◌, List, Option, Some, None, option_map, slice_get, refl, sym, ap}
use Rattle.std.proofs.lemmas.Option.{slice_get-map}
use Rattle.rlc_base.specs.declared.place.Pos.{Pos}
use Rattle.program_model.specs.declared.kinds.ExprId.{ExprId}
use Rattle.program_model.specs.declared.kinds.StmtId.{StmtId}
use Rattle.program_model.specs.declared.program.Program.{Program}
use Rattle.program_model.specs.declared.tree.Body.{Body}
use Rattle.program_model.specs.declared.tree.TStmt.{TStmt}
use Rattle.program_model.specs.Lookups.{statement_at}
use Rattle.java_typed_trees.specs.StatementTrees.{StatementForm}
use Rattle.java_laying.specs.StatementCells.{StatementCell, statement_cell, statement_cells}
use Rattle.accepted_programs.specs.Completions.{completion, is_true_literal}
use Rattle.accepted_programs.specs.Exceptions.{expression_exceptions, statement_exceptions}
use Rattle.accepted_programs.specs.TreeOrder.{PartsComeFirst}
use Rattle.accepted_programs.proofs.Depths.{completion_law, thrown_law}
use Rattle.acceptance_laws.proofs.Forms.{completion_same, exceptions_same, form_completion, form_thrown}

-- the statement at the number has this cell
known : (x : Body) (s : StmtId) (k : StatementCell) → slice_get (statement_cells x.statements.items) s.0 ≡ Some k → (n : TStmt) × (statement_at x s ≡ Some n) × (statement_cell n ≡ k)
known x s k here = step (statement_at x s) refl (sym (slice_get-map statement_cell x.statements.items s.0) ∙ here)
  where
    step : (o : Option TStmt) → statement_at x s ≡ o → option_map statement_cell o ≡ Some k → (n : TStmt) × (statement_at x s ≡ Some n) × (statement_cell n ≡ k)
    step None is h = absurd (let no : None ≡ Some k = h in cc)
    step (Some n) is h = (n, is, (let same : statement_cell n ≡ k = cc in same))

module _ (q : Program) (x : Body) (first : PartsComeFirst x) (s : StmtId) (form : StatementForm) (place : Pos) (es : List ExprId) (ss : List StmtId) (here : slice_get (statement_cells x.statements.items) s.0 ≡ Some (record { form = form; pos = place; expressions = es; statements = ss })) where
  abbrev cell : StatementCell
  cell = record { form = form; pos = place; expressions = es; statements = ss }

  pub standing_completion : completion x s ≡ form_completion form (is_true_literal x) (completion x) es ss
  standing_completion =
      let n = known x s cell here in
      completion_law x first s n.0 n.1
      ∙ completion_same x (completion x) n.0.kind
      ∙ ap (λ (k : StatementCell). form_completion k.form (is_true_literal x) (completion x) k.expressions k.statements) n.2

  pub standing_exceptions : statement_exceptions q x s ≡ form_thrown q x form (expression_exceptions q x) (statement_exceptions q x) (completion x) es ss
  standing_exceptions =
      let n = known x s cell here in
      thrown_law q x first s n.0 n.1
      ∙ exceptions_same q x (expression_exceptions q x) (statement_exceptions q x) (completion x) n.0.kind
      ∙ ap (λ (k : StatementCell). form_thrown q x k.form (expression_exceptions q x) (statement_exceptions q x) (completion x) k.expressions k.statements) n.2

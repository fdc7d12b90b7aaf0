-- A body begins with what it throws itself.
use Rattle.std.proofs.Common.{◌≡◌, ◌∙◌, ◌++◌, ◌∷◌, [], List, Bool, false, Option, Some, None, refl, sym, ap, subst}
use Rattle.std.specs.List.{list_any}
use Rattle.program_model.specs.declared.kinds.ClassId.{ClassId}
use Rattle.program_model.specs.declared.kinds.StmtId.{StmtId}
use Rattle.program_model.specs.declared.program.Program.{Program}
use Rattle.program_model.specs.declared.tree.Body.{Body}
use Rattle.program_model.specs.declared.tree.StatementKind.{StatementKind}
use Rattle.program_model.specs.declared.tree.StatementKind.TheVariants as statements
use Rattle.program_model.specs.declared.tree.TStmt.{TStmt}
use Rattle.program_model.specs.Lookups.{statement_at}
use Rattle.rlc_base.specs.declared.place.Pos.{Pos}
use Rattle.java_control.specs.Statements.{body_front, first_items, first_items_at, listed_front}
use Rattle.java_control.specs.Remaining.{Todo}
use Rattle.accepted_programs.specs.Completions.{completion}
use Rattle.accepted_programs.specs.Exceptions.{body_exceptions, exceptions_in, expression_exceptions, statement_exceptions, throws_clause}
use Rattle.accepted_programs.specs.TreeOrder.{PartsComeFirst}
use Rattle.accepted_programs.proofs.Depths.{thrown_law}
use Rattle.exception_laws.proofs.ExpressionFronts.{Quiet, quiet_joined, values}
use Rattle.exception_laws.proofs.Finishes.{finishes_front}
use Rattle.exception_laws.proofs.Handlers.{in_front}
use Rattle.accepted_programs.proofs.Lists.{None', alone, left, right}
use Rattle.exception_laws.proofs.Outcomes.{normally}
use Rattle.exception_laws.proofs.StatementFronts.{inner, quiet_expression, quiet_super}
use Rattle.exception_laws.proofs.Steps.{Keeps}
use Rattle.std.proofs.lemmas.List.{append-nil}

quiet_first_kind : (p : Program) (b : Body) (v : ClassId → Bool) (kind : StatementKind) (s : StmtId) (pos : Pos) → None' v (statement_exceptions p b s) → None' v (exceptions_in (expression_exceptions p b) (statement_exceptions p b) (completion b) p b kind) → Quiet false p b v (first_items kind s pos)
quiet_first_kind p b v (statements.SuperCall c) s pos h h' = quiet_super false p b v c 0 pos (left v (throws_clause p c.constructor ++ values p b c.arguments.items) [] h')
quiet_first_kind p b v (statements.FieldInitializer e) s pos h h' = quiet_expression false p b v e 0 pos (left v (expression_exceptions p b e) [] (left v (values p b (e ∷ [])) [] h'))
quiet_first_kind p b v kind s pos h h' = (alone v (statement_exceptions p b s) h, refl)

quiet_first_at : (p : Program) (b : Body) → PartsComeFirst b → (v : ClassId → Bool) (s : StmtId) (o : Option TStmt) → statement_at b s ≡ o → None' v (statement_exceptions p b s) → Quiet false p b v (first_items_at s o)
quiet_first_at p b first v s None here h = (alone v (statement_exceptions p b s) h, refl)
quiet_first_at p b first v s (Some x) here h = quiet_first_kind p b v x.kind s x.pos h (ap (list_any v) (sym (thrown_law p b first s x here)) ∙ h)

quiet_listed : (p : Program) (b : Body) → PartsComeFirst b → (v : ClassId → Bool) (ss : List StmtId) → None' v (inner p b ss) → Quiet false p b v (listed_front b ss)
quiet_listed p b first v [] h = (refl, refl)
quiet_listed p b first v (s ∷ ss) h =
    quiet_joined false p b v (first_items_at s (statement_at b s)) (listed_front b ss) (quiet_first_at p b first v s (statement_at b s) refl (left v (statement_exceptions p b s) (inner p b ss) h)) (quiet_listed p b first v ss (right v (statement_exceptions p b s) (inner p b ss) h))

pub start_keeps : (p : Program) (b : Body) → PartsComeFirst b → (u : ClassId → Bool) → None' u (body_exceptions p b) → Keeps p b u (body_front b)
start_keeps p b first u h = subst (λ (k : List Todo). Keeps p b u k) (append-nil (body_front b)) (record {
  safe = in_front p b u (body_front b) [] quiet tt;
  finishes = finishes_front b (λ q. q normally) (body_front b) [] quiet.1 tt;
})
  where
    quiet : Quiet false p b u (body_front b)
    quiet = quiet_listed p b first u b.stmts.items h

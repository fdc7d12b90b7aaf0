-- The catch clauses that take an exception (JLS 11.3, 14.20).
use Rattle.std.specs.Prelude.{ℕ, Bool, ◌||◌, Option, Some, None, List, []}
use Rattle.std.specs.List.{list_any, position_from}
use Rattle.program_model.specs.declared.kinds.ClassId.{ClassId}
use Rattle.program_model.specs.declared.kinds.StmtId.{StmtId}
use Rattle.program_model.specs.declared.program.Program.{Program}
use Rattle.program_model.specs.declared.tree.Body.{Body}
use Rattle.program_model.specs.declared.tree.CatchClause.{CatchClause}
use Rattle.program_model.specs.declared.tree.TStmt.{TStmt}
use Rattle.program_model.specs.declared.tree.StatementKind.{StatementKind}
use Rattle.program_model.specs.declared.tree.StatementKind.TheVariants as statements
use Rattle.program_model.specs.Lookups.{statement_at}
use Rattle.program_model.specs.SuperTests.{is_under}

-- each exception of class `t` is taken by the clause
abbrev pub takes_wholly : Program → ClassId → CatchClause → Bool
takes_wholly p t clause = list_any (λ c. is_under p t c) clause.classes.items

-- a class of the clause is under `t`
abbrev pub takes_some : Program → ClassId → CatchClause → Bool
takes_some p t clause = list_any (λ c. is_under p c t) clause.classes.items

abbrev pub may_take : Program → ClassId → CatchClause → Bool
may_take p t clause = takes_wholly p t clause || takes_some p t clause

abbrev pub clauses_of_kind : StatementKind → List CatchClause
clauses_of_kind (statements.Try t) = t.catches.items
clauses_of_kind _ = []

abbrev pub clauses_in : Option TStmt → List CatchClause
clauses_in None = []
clauses_in (Some s) = clauses_of_kind s.kind

-- which clause of the statement takes an exception whose own class is `c`: the first that has a class which `c` is under
-- (JLS 11.3), by its number; None where it passes on
abbrev pub clause_taken : Program → Body → StmtId → ClassId → Option ℕ
clause_taken p body s c = position_from (takes_wholly p c) 0 (clauses_in (statement_at body s))

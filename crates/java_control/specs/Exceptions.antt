-- The ways of an action that throws, and those into catch clauses and past them (JLS 11.3, 14.20).
use Rattle.std.specs.Prelude.{ℕ, ◌+◌, List, [], ◌∷◌, ◌++◌, map, if◌then◌else◌}
use Rattle.program_model.specs.declared.kinds.ClassId.{ClassId}
use Rattle.program_model.specs.declared.program.Program.{Program}
use Rattle.program_model.specs.declared.tree.Body.{Body}
use Rattle.program_model.specs.declared.tree.CatchClause.{CatchClause}
use Rattle.program_model.specs.declared.kinds.StmtId.{StmtId}
use Rattle.control_actions.specs.declared.action.ClauseId.{ClauseId}
use Rattle.rlc_base.specs.declared.place.Pos.{Pos}
use Rattle.control_actions.specs.declared.action.Action.{Action}
use Rattle.control_actions.specs.declared.action.Action.TheVariants as actions
use Rattle.control_actions.specs.declared.action.Completion.TheVariants as completions
use Rattle.control_actions.specs.declared.action.Edge.TheVariants as edges
use Rattle.control_actions.specs.declared.action.Scope.TheVariants as scopes
use Rattle.control_actions.specs.Remaining.{Todo, Do, Leave, Out, Way, way, skip, statement_place}
pub use Rattle.control_actions.specs.Exceptions.{binary_exceptions, class_count, class_with, declared_exceptions, exception_depth, exceptions_of, heeded, heeded_by_call, is_heeded_under, is_wholly_ignored, operator_exceptions, other_exceptions, own_exceptions, receiver_exceptions, some_heeded, throws_clause, throws_in, throws_some_heeded, unchecked, with_class, with_classes}
pub use Rattle.control_actions.specs.Clauses.{clause_taken, clauses_in, clauses_of_kind, may_take, takes_some, takes_wholly}

-- a `throw` never goes on
abbrev pub goes_on : Action → List Todo → List Way
goes_on (actions.Raise d c) k = []
goes_on a k = way a edges.Go k ∷ []

abbrev pub throws : Action → Pos → List Todo → ClassId → Way
throws a pos k c = way a (edges.Throws c) (Out (completions.Throw (exception_depth a) c pos) ∷ k)

-- an action goes on with what stands behind it, or throws
abbrev pub action_ways : Program → Action → Pos → List Todo → List Way
action_ways p a pos k = goes_on a k ++ map (throws a pos k) (exceptions_of p a)

abbrev pub clause_at : StmtId → ℕ → ClauseId
clause_at s i = record { statement = s; index = i }

-- the way into clause number `i` of the statement `s`
abbrev pub enters : Body → StmtId → ℕ → ℕ → ℕ → CatchClause → List Todo → Way
enters body s i b d clause k =
    way (actions.Enter (clause_at s i) clause.variable b d) edges.Go
    (Do clause.block b ∷ Leave (scopes.Variable clause.variable) (statement_place body clause.block) ∷ k)

-- an exception of class `t` meets the catch clauses of the statement `s` from number `i` on: it may enter each that may take
-- it, up to the first that takes it wholly, and goes on where none does
abbrev pub caught : Program → Body → StmtId → ℕ → List CatchClause → ℕ → ℕ → ClassId → Pos → List Todo → List Way
caught p body s i [] b d t pos k = skip (Out (completions.Throw d t pos) ∷ k)
caught p body s i (x ∷ xs) b d t pos k =
    if takes_wholly p t x then enters body s i b d x k ∷ []
    else (if may_take p t x then enters body s i b d x k ∷ caught p body s (i + 1) xs b d t pos k else caught p body s (i + 1) xs b d t pos k)

-- A `break`, `continue`, `return` or exception on its way out (JLS 14.1, 14.20.2, 14.20.3.1).
use Rattle.std.specs.Prelude.{ℕ, ◌+◌, List, [], ◌∷◌, ◌++◌}
use Rattle.program_model.specs.declared.kinds.StmtId.{StmtId}
use Rattle.program_model.specs.declared.program.Program.{Program}
use Rattle.program_model.specs.declared.tree.Body.{Body}
use Rattle.program_model.specs.Lookups.{statement_at}
use Rattle.control_actions.specs.declared.action.Action.TheVariants as actions
use Rattle.control_actions.specs.declared.action.Edge.TheVariants as edges
use Rattle.control_actions.specs.declared.action.Completion.{Completion}
use Rattle.control_actions.specs.declared.action.Completion.TheVariants as completions
use Rattle.control_actions.specs.declared.action.Scope.TheVariants as scopes
use Rattle.java_control.specs.Statements.{close_front}
use Rattle.java_control.specs.Exceptions.{caught, clauses_in}
use Rattle.control_actions.specs.Remaining.{Todo, Do, LoopEnd, Leave, Catch, Fin, Close, Finish, Supp, Out, Ended, Way, way, skip}

-- the completion with its value in the temp of depth `b`
abbrev pub at_depth : Completion → ℕ → Completion
at_depth (completions.Break pos) b = completions.Break pos
at_depth (completions.Continue pos) b = completions.Continue pos
at_depth (completions.Return pos) b = completions.Return pos
at_depth (completions.ReturnValue d pos) b = completions.ReturnValue b pos
at_depth (completions.Throw d t pos) b = completions.Throw b t pos

-- the completion's value goes to depth `b`
abbrev pub settles : ℕ → Completion → List Todo → List Way
settles b c to = way (actions.Settle b c) edges.Go to ∷ []

-- a loop takes a `break` and a `continue`
abbrev pub at_loop : Completion → StmtId → ℕ → List Todo → List Way
at_loop (completions.Break pos) w d k = skip k
at_loop (completions.Continue pos) w d k = skip (LoopEnd w d ∷ k)
at_loop c w d k = skip (Out c ∷ k)

-- catch clauses take exceptions alone
abbrev pub at_catch : Completion → Program → Body → StmtId → ℕ → List Todo → List Way
at_catch (completions.Throw d t pos) p body s b k = caught p body s 0 (clauses_in (statement_at body s)) b d t pos k
at_catch c p body s b k = skip (Out c ∷ k)

-- an exception that was on its way out when a resource was closed stays, and what closing it gave is dropped
abbrev pub at_supp : Completion → Completion → ℕ → List Todo → List Way
at_supp (completions.Throw d t pos) c b k = way (actions.Drop (scopes.TempsAbove b)) edges.Go (Out (completions.Throw d t pos) ∷ k) ∷ []
at_supp waiting c b k = settles b c (Out (at_depth c b) ∷ k)

-- a frame ends by a `return`, or by an exception
abbrev pub ends : Completion → List Way
ends (completions.Break pos) = []
ends (completions.Continue pos) = []
ends c = way (actions.End c) edges.Go (Ended ∷ []) ∷ []

-- what the completion `c` becomes, by what stands behind it
abbrev pub out : Program → Body → Completion → List Todo → List Way
out p body c [] = ends c
out p body c (LoopEnd w d ∷ k) = at_loop c w d k
out p body c (Leave x pos ∷ k) = way (actions.Drop x) edges.Go (Out c ∷ k) ∷ []
out p body c (Catch s b ∷ k) = at_catch c p body s b k
out p body c (Fin f b ∷ k) = settles b c (Do f (b + 1) ∷ Finish (at_depth c b) b f ∷ k)
out p body c (Close r b ∷ k) = settles b c (close_front r (b + 1) ++ Supp (at_depth c b) b r.statement ∷ k)
out p body c (Finish waiting b f ∷ k) = settles b c (Out (at_depth c b) ∷ k)
out p body c (Supp waiting b s ∷ k) = at_supp waiting c b k
out p body c (x ∷ k) = skip (Out c ∷ k)

-- The control relation: the steps of what is left of a body to run.
use Rattle.std.specs.Prelude.{ℕ, Option, Some, None, List, [], ◌∷◌, ◌++◌, map}
use Rattle.program_model.specs.declared.kinds.BodyId.{BodyId}
use Rattle.program_model.specs.declared.kinds.ExprId.{ExprId}
use Rattle.program_model.specs.declared.kinds.StmtId.{StmtId}
use Rattle.program_model.specs.declared.program.Program.{Program}
use Rattle.program_model.specs.declared.tree.Body.{Body}
use Rattle.program_model.specs.declared.tree.TExpr.{TExpr}
use Rattle.program_model.specs.declared.tree.TStmt.{TStmt}
use Rattle.program_model.specs.Lookups.{body_at, statement_at, expression_at}
use Rattle.rlc_base.specs.declared.place.Pos.{Pos}
use Rattle.control_actions.specs.declared.action.Action.{Action}
use Rattle.control_actions.specs.declared.action.Action.TheVariants as actions
use Rattle.control_actions.specs.declared.action.Edge.{Edge}
use Rattle.control_actions.specs.declared.action.Edge.TheVariants as edges
use Rattle.control_actions.specs.declared.action.Completion.TheVariants as completions
use Rattle.expression_control.specs.Conditions.{condition_front}
use Rattle.expression_control.specs.Expressions.{expression_front}
use Rattle.java_control.specs.Statements.{statement_front, for_turn, loop_turn, close_front, body_front}
use Rattle.java_control.specs.Exceptions.{action_ways}
use Rattle.java_control.specs.Completions.{ends, out}
use Rattle.control_actions.specs.Remaining.{Todo, Do, Ev, Act, Cond, NullFork, BoolFork, LoopEnd, For, Leave, Catch, Fin, Close, Finish, Supp, Out, Ended, Way, way, skip, todos, place_of}

-- a number that names no statement or expression gives nothing
abbrev pub statement_ways : Body → StmtId → ℕ → Option TStmt → List Todo → List Way
statement_ways b s d None k = []
statement_ways b s d (Some x) k = skip (statement_front x.kind b s d x.pos ++ k)

abbrev pub expression_ways : Program → Body → ExprId → ℕ → Option TExpr → List Todo → List Way
expression_ways p b e d None k = []
expression_ways p b e d (Some x) k = skip (expression_front x.kind p b e x.vtype d x.pos ++ k)

abbrev pub loop_ways : Body → StmtId → ℕ → Option TStmt → List Todo → List Way
loop_ways b w d None k = []
loop_ways b w d (Some x) k = skip (loop_turn x.kind b w d ++ k)

abbrev pub for_ways : StmtId → ℕ → Option TStmt → List Todo → List Way
for_ways w d None k = []
for_ways w d (Some x) k = skip (for_turn x.kind w d x.pos ++ k)

-- what the first items of a control become, where `k` stands behind the first one
abbrev pub ways : Program → Body → List Todo → List Way
ways p b [] = ends (completions.Return b.end)
ways p b (Do s d ∷ k) = statement_ways b s d (statement_at b s) k
ways p b (Ev e d ∷ k) = expression_ways p b e d (expression_at b e) k
ways p b (Act a pos ∷ k) = action_ways p a pos k
ways p b (Cond c d x y ∷ k) = skip (condition_front b c d x y ++ k)
ways p b (NullFork pos d x y ∷ k) = way (actions.Test d) edges.Null (todos x ++ k) ∷ way (actions.Test d) edges.NonNull (todos y ++ k) ∷ []
ways p b (BoolFork pos d x y ∷ k) = way (actions.Test d) edges.True (todos x ++ k) ∷ way (actions.Test d) edges.False (todos y ++ k) ∷ []
ways p b (LoopEnd w d ∷ k) = loop_ways b w d (statement_at b w) k
ways p b (For w d ∷ k) = for_ways w d (statement_at b w) k
ways p b (Leave x pos ∷ k) = way (actions.Drop x) edges.Go k ∷ []
ways p b (Catch s d ∷ k) = skip k
ways p b (Fin f d ∷ k) = skip (Do f d ∷ k)
ways p b (Close r d ∷ k) = skip (close_front r d ++ k)
ways p b (Finish c d f ∷ k) = skip (Out c ∷ k)
ways p b (Supp c d s ∷ k) = skip (Out c ∷ k)
ways p b (Out c ∷ k) = out p b c k
ways p b (Ended ∷ k) = []

-- the place of a control: that of its first item, and that of the body's end where nothing is left
abbrev pub control_place : Body → List Todo → Pos
control_place b [] = b.end
control_place b (x ∷ k) = place_of b x

-- a step: what it does, the way that it goes, what is left then, and its place
pub record Step : Type 0 where
  pub action : Action
  pub edge : Edge
  pub to : List Todo
  pub pos : Pos

abbrev pub step_at : Pos → Way → Step
step_at pos x = record { action = x.action; edge = x.edge; to = x.to; pos = pos }

abbrev pub steps_of : Program → Body → List Todo → List Step
steps_of p b control = map (step_at (control_place b control)) (ways p b control)

abbrev pub steps_in : Program → Option Body → List Todo → List Step
steps_in p None control = []
steps_in p (Some b) control = steps_of p b control

-- the control relation: the steps of a control of a body, in order, each once
unfoldable pub next_of : Program → BodyId → List Todo → List Step
next_of p b control = steps_in p (body_at p b) control

abbrev pub start_in : Option Body → List Todo
start_in None = []
start_in (Some b) = body_front b

-- the control with which a body begins
unfoldable pub start_of : Program → BodyId → List Todo
start_of p b = start_in (body_at p b)

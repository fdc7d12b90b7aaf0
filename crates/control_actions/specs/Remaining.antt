-- What is left of a body to run: a list of items, first things first. An item may hold lists of its own, which follow it
-- by the outcome of a test.
use Rattle.std.specs.Prelude.{ℕ, List, [], ◌∷◌, Option, Some, None}
use Rattle.program_model.specs.declared.kinds.ExprId.{ExprId}
use Rattle.program_model.specs.declared.kinds.StmtId.{StmtId}
use Rattle.program_model.specs.declared.tree.Body.{Body}
use Rattle.program_model.specs.declared.tree.TExpr.{TExpr}
use Rattle.program_model.specs.declared.tree.TStmt.{TStmt}
use Rattle.program_model.specs.Lookups.{statement_at, expression_at}
use Rattle.rlc_base.specs.declared.place.Pos.{Pos}
use Rattle.control_actions.specs.declared.action.Action.{Action}
use Rattle.control_actions.specs.declared.action.Action.TheVariants as actions
use Rattle.control_actions.specs.declared.action.Completion.{Completion}
use Rattle.control_actions.specs.declared.action.Completion.TheVariants as completions
use Rattle.control_actions.specs.declared.action.Edge.{Edge}
use Rattle.control_actions.specs.declared.action.Edge.TheVariants as edges
use Rattle.control_actions.specs.declared.action.Scope.{Scope}
use Rattle.control_actions.specs.declared.item.Closing.{Closing}
use Rattle.control_actions.specs.declared.item.Condition.{Condition}
use Rattle.control_actions.specs.declared.item.Condition.TheVariants as conditions

mutual
  pub data Todo : Type 0 where
    Do : (s : StmtId) (d : ℕ) → Todo
    Ev : (e : ExprId) (d : ℕ) → Todo
    Act : (a : Action) (pos : Pos) → Todo
    Cond : (c : Condition) (d : ℕ) (p q : Todos) → Todo
    NullFork : (pos : Pos) (d : ℕ) (p q : Todos) → Todo
    BoolFork : (pos : Pos) (d : ℕ) (p q : Todos) → Todo
    LoopEnd : (w : StmtId) (d : ℕ) → Todo
    For : (w : StmtId) (d : ℕ) → Todo
    Leave : (x : Scope) (pos : Pos) → Todo
    Catch : (s : StmtId) (b : ℕ) → Todo
    Fin : (f : StmtId) (b : ℕ) → Todo
    Close : (r : Closing) (b : ℕ) → Todo
    Finish : (c : Completion) (b : ℕ) (f : StmtId) → Todo
    Supp : (c : Completion) (b : ℕ) (s : StmtId) → Todo
    Out : (c : Completion) → Todo
    Ended : Todo

  pub data Todos : Type 0 where
    nil : Todos
    cons : (x : Todo) (xs : Todos) → Todos

-- a list that an item holds, as a list
abbrev pub todos : Todos → List Todo
todos nil = []
todos (cons x xs) = x ∷ todos xs

abbrev pub one : Todo → Todos
one x = cons x nil

abbrev pub two : Todo → Todo → Todos
two x y = cons x (cons y nil)

-- one way of a step: it takes the action, goes by the edge, and `to` is left then
pub record Way : Type 0 where
  pub action : Action
  pub edge : Edge
  pub to : List Todo

abbrev pub way : Action → Edge → List Todo → Way
way a e to = record { action = a; edge = e; to = to }

-- the one way of a line that names no action
abbrev pub skip : List Todo → List Way
skip to = way actions.Skip edges.Go to ∷ []

-- no place
abbrev pub nowhere : Pos
nowhere = record { file = 0; line = 0; col = 0 }

abbrev pub place_in_statement : Option TStmt → Pos
place_in_statement None = nowhere
place_in_statement (Some s) = s.pos

abbrev pub statement_place : Body → StmtId → Pos
statement_place b s = place_in_statement (statement_at b s)

abbrev pub place_in_expression : Option TExpr → Pos
place_in_expression None = nowhere
place_in_expression (Some e) = e.pos

abbrev pub expression_place : Body → ExprId → Pos
expression_place b e = place_in_expression (expression_at b e)

abbrev pub condition_place : Body → Condition → Pos
condition_place b (conditions.Of e) = expression_place b e
condition_place b (conditions.Absent pos) = pos

-- the place where a completion began
abbrev pub origin_place : Completion → Pos
origin_place (completions.Break pos) = pos
origin_place (completions.Continue pos) = pos
origin_place (completions.Return pos) = pos
origin_place (completions.ReturnValue d pos) = pos
origin_place (completions.Throw d t pos) = pos

-- the place of an item, which is that of the steps that it takes
abbrev pub place_of : Body → Todo → Pos
place_of b (Do s d) = statement_place b s
place_of b (Ev e d) = expression_place b e
place_of b (Act a pos) = pos
place_of b (Cond c d p q) = condition_place b c
place_of b (NullFork pos d p q) = pos
place_of b (BoolFork pos d p q) = pos
place_of b (LoopEnd w d) = statement_place b w
place_of b (For w d) = statement_place b w
place_of b (Leave x pos) = pos
place_of b (Catch s d) = statement_place b s
place_of b (Fin f d) = statement_place b f
place_of b (Close r d) = r.pos
place_of b (Finish c d f) = statement_place b f
place_of b (Supp c d s) = statement_place b s
place_of b (Out c) = origin_place c
place_of b Ended = nowhere

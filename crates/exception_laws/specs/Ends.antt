-- The exceptions by which frames may end, and by which they leave calls (JLS 11.2, 14.18, 15.12.4).
use Rattle.std.specs.Prelude.{◌≡◌, ℕ, Some, List, slice_get}
use Rattle.std.specs.Option.{IsSomeAnd}
use Rattle.rlc_base.specs.declared.place.Pos.{Pos}
use Rattle.program_model.specs.declared.kinds.BodyId.{BodyId}
use Rattle.program_model.specs.declared.kinds.ClassId.{ClassId}
use Rattle.program_model.specs.declared.program.Method.{Method}
use Rattle.program_model.specs.declared.program.Program.{Program}
use Rattle.program_model.specs.Hierarchy.{IsUnder}
use Rattle.control_actions.specs.declared.action.Action.TheVariants as actions
use Rattle.control_actions.specs.declared.action.Completion.TheVariants as completions
use Rattle.java_control.specs.Remaining.{Todo}
use Rattle.ledger_calls.specs.Calls.{leaves_by}
use Rattle.accepted_programs.specs.Paths.{Comes, Move, relation_of}

-- some path through the body ends by an exception that is known by this class
pub record EndsBy (p : Program) (n : BodyId) (c : ClassId) : Type 0 where
  pub control : List Todo
  pub reached : Comes (relation_of p n) control
  pub index : ℕ
  pub move : Move (List Todo)
  pub step : slice_get ((relation_of p n).next control) index ≡ Some move
  pub depth : ℕ
  pub pos : Pos
  pub ends : move.action ≡ actions.End (completions.Throw depth c pos)

-- an exception whose own class is `e` leaves a call that names the method by a class that it is under
abbrev pub LeavesCall : Program → Method → ClassId → Type 0
LeavesCall p named e = IsSomeAnd (leaves_by p (Some named) e) (λ t. IsUnder p e t)

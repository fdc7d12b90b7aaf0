-- Frames and what they do next over a table of lists: what is left to run is a number in the table. Frames stand bottom first.
pub use Rattle.ledger_frames.specs.Frames.{frame_after}
use Rattle.std.specs.Prelude.{ℕ, max, Option, Some, None, List, [], ◌∷◌, map, reverse}
use Rattle.program_model.specs.declared.kinds.BodyId.{BodyId}
use Rattle.program_model.specs.declared.program.Program.{Program}
use Rattle.control_actions.specs.declared.cell.Cell.{Cell}
use Rattle.java_control.specs.Changes.{step_in}
use Rattle.java_control.specs.Control.{start_of}
use Rattle.java_control.specs.Remaining.{Todo, todos}
use Rattle.java_control.specs.Tables.{list_at}
use Rattle.ledger_obligations.specs.declared.active_frame.ActiveFrame.{ActiveFrame}
use Rattle.ledger_frames.specs.Configuration.{Frame}
use Rattle.ledger_moves.specs.declared.advance.Advance.{Advance}
use Rattle.ledger_moves.specs.declared.advance.Advance.TheVariants as advances
use Rattle.ledger_moves.specs.declared.advance.CallEnd.{CallEnd}
use Rattle.ledger_moves.specs.declared.advance.CallEnd.TheVariants as call_ends
use Rattle.ledger_moves.specs.Moves.{Move, Inner, Start, Library, End, Stray, Rest, Return, Back, StrayBack, NoWay}

-- a frame over a table of lists
abbrev pub frame_seen : List Cell → ActiveFrame → Frame
frame_seen cells fr = record { method = fr.method; control = todos (list_at cells fr.control); locals = fr.locals }

abbrev pub frames_seen : List Cell → List ActiveFrame → List Frame
frames_seen cells frs = map (frame_seen cells) (reverse frs)

-- what is left to run where a method begins
abbrev pub start_by : Program → Option BodyId → List Todo
start_by p None = []
start_by p (Some b) = start_of p b

-- the highest number of a control
abbrev pub highest_control : List ActiveFrame → ℕ
highest_control [] = 0
highest_control (fr ∷ frs) = max fr.control (highest_control frs)

-- what comes next, over a table of lists
abbrev pub move_seen : List Cell → Advance → Move
move_seen cells (advances.Inner e s) = Inner e (step_in cells s)
move_seen cells (advances.Start named runs a pos) = Start named runs a pos
move_seen cells (advances.Library named m d s) = Library named m d (step_in cells s)
move_seen cells (advances.End pos q) = End pos q
move_seen cells (advances.Stray e pos) = Stray e pos
move_seen cells advances.Rest = Rest

-- the number of the control that it leaves
abbrev pub control_left : Advance → ℕ
control_left (advances.Inner e s) = s.to
control_left (advances.Library named m d s) = s.to
control_left (advances.Start named runs a pos) = 0
control_left (advances.End pos q) = 0
control_left (advances.Stray e pos) = 0
control_left advances.Rest = 0

abbrev pub return_seen : List Cell → CallEnd → Return
return_seen cells (call_ends.Back e named t) = Back e named (step_in cells t)
return_seen cells (call_ends.Stray e pos) = StrayBack e pos
return_seen cells call_ends.NoWay = NoWay

abbrev pub control_back : CallEnd → ℕ
control_back (call_ends.Back e named t) = t.to
control_back (call_ends.Stray e pos) = 0
control_back call_ends.NoWay = 0

-- One step of the machine, from what comes next.
use Rattle.std.proofs.Common.{◌≡◌, length}
use Rattle.program_model.specs.declared.program.Program.{Program}
use Rattle.ledger_moves.specs.Configuration.{Config}
use Rattle.ledger_machine.proofs.MoveLaws.{over_moved}
use Rattle.ledger_runs.specs.Outcomes.{ended}
use Rattle.ledger_runs.specs.Steps.{moved_by, step, top_move}
use Rattle.ledger_moves.specs.Moves.{Move}

-- no frame is left
pub over_step : (p : Program) (c : Config) → length c.frames ≡ 0 → ended c.ended ≡ step p c
unfolding step
over_step p c h = over_moved p c c.frames (top_move p c c.frames) h

-- the top frame does what comes next
pub step_taken : (p : Program) (c same : Config) (m : Move) → same ≡ c → m ≡ top_move p c c.frames → moved_by p same same.frames m ≡ step p c
unfolding step
step_taken p c same m kept is = λ i. moved_by p (kept i) (kept i).frames (is i)

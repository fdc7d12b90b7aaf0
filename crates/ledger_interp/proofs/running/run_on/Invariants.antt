use Rattle.std.proofs.Common.{◌≡◌, ◌-◌}
use Rattle.ledger_machine.specs.Configurations.{configuration}
use Rattle.ledger_runs.specs.Runs.{run_from}
use Rattle.ledger_interp.proofs.running.run_on.Given as goal

-- the rest of the run comes to what the whole run comes to
abbrev pub invariant-steps : goal.invariant-steps
invariant-steps l = run_from (l.n - l.taken) l.p (configuration l.now) ≡ run_from l.n l.p (configuration l.fn.machine)

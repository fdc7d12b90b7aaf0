use Rattle.std.proofs.Common.{◌≡◌, ◌++◌, take}
use Rattle.leak_report.specs.Steps.{step_lines}
use Rattle.leak_report.proofs.steps.put_steps.Given as goal

abbrev pub invariant-each : goal.invariant-each
invariant-each l = l.into ≡ l.initial.into ++ step_lines l.p (take l.step-index l.steps)

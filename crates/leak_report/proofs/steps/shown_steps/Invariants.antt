use Rattle.std.proofs.Common.{◌≡◌, filter, take}
use Rattle.leak_report.specs.Steps.{is_shown}
use Rattle.leak_report.proofs.steps.shown_steps.Given as goal

abbrev pub invariant-each : goal.invariant-each
invariant-each l = l.shown.items ≡ filter is_shown (take l.step-index l.path)

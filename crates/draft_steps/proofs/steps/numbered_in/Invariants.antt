use Rattle.std.proofs.Common.{◌≡◌, take}
use Rattle.draft_steps.specs.Steps.{numbered_in}
use Rattle.draft_steps.proofs.steps.numbered_in.Given as goal

abbrev pub invariant-each : goal.invariant-each
invariant-each l = l.objects.items ≡ numbered_in l.heap (take l.number-index l.numbers)

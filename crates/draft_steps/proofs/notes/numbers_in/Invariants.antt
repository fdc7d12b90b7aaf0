use Rattle.std.proofs.Common.{◌≡◌, take}
use Rattle.draft_steps.specs.Steps.{numbers_in}
use Rattle.draft_steps.proofs.notes.numbers_in.Given as goal

abbrev pub invariant-each : goal.invariant-each
invariant-each l = l.numbers.items ≡ numbers_in (take l.object-index l.objects)

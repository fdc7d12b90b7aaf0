use Rattle.std.proofs.Common.{◌≡◌, drop}
use Rattle.spread_notes.specs.SpreadNotes.{put_each}
use Rattle.spread_notes.proofs.changed.put_each.Given as goal

abbrev pub invariant-each : goal.invariant-each
invariant-each l = put_each (drop l.b-index l.objects) l.heap ≡ put_each l.objects l.initial.heap

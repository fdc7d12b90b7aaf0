use Rattle.std.proofs.Common.{◌<◌}
use Rattle.std.specs.Prelude.{IfSome}
use Rattle.spread_notes.proofs.changed.next_object.Given as goal

abbrev pub invariant-each : goal.invariant-each
invariant-each l = IfSome l.next (λ k. l.last < k)

use Rattle.std.proofs.Common.{◌≡◌, map}
use Rattle.std.specs.List.{range_with_len}
use Rattle.control_actions.specs.declared.place.Place.TheVariants as places
use Rattle.ledger_frames.specs.Frames.{value_after}
use Rattle.ledger_frames.proofs.places.variables_after.Given as goal

-- the values so far
abbrev pub invariant-each : goal.invariant-each
invariant-each l = l.values.items ≡ map (λ i. value_after l.p l.heap l.method l.locals l.action l.edge l.made (places.Var i)) (range_with_len 0 l.number)

use Rattle.std.proofs.Common.{◌≡◌, Some, length}
use Rattle.flow_certs.specs.Lines.{places_from, places_in}
use Rattle.flow_certs.specs.Numbers.{parts}
use Rattle.flow_certs.proofs.places.places_in.Given as goal

-- the words to come, behind the places so far, name what all of them name
abbrev pub invariant-words : goal.invariant-words
invariant-words l = places_from l.p l.b (Some l.so_far) (parts 44 l.rest) ≡ places_in l.p l.b l.text

abbrev pub decreases-words : goal.decreases-words
decreases-words l = length l.rest

-- The law is a lemma over the definitions alone.
use Rattle.place_laws.proofs.PlaceLaws.{held_place_counts}
use Rattle.place_laws.proofs.values.held_place_counts.Goals as goal

pub returns : goal.returns
returns c = held_place_counts

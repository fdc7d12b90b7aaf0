-- The law is a lemma over the definitions alone.
use Rattle.place_laws.proofs.PlaceLaws.{places_stay_in_range}
use Rattle.place_laws.proofs.facts.places_stay_in_range.Goals as goal

pub returns : goal.returns
returns c = places_stay_in_range

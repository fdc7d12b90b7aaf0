-- The law is a lemma over the definitions alone.
use Rattle.place_laws.proofs.PlaceLaws.{places_come_from_sources}
use Rattle.place_laws.proofs.facts.places_come_from_sources.Goals as goal

pub returns : goal.returns
returns c = places_come_from_sources

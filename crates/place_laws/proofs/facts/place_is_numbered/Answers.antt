-- The law is a lemma over the definitions alone.
use Rattle.place_laws.proofs.PlaceLaws.{place_is_numbered}
use Rattle.place_laws.proofs.facts.place_is_numbered.Goals as goal

pub returns : goal.returns
returns c = place_is_numbered

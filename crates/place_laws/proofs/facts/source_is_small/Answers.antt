-- The law is a lemma over the definitions alone.
use Rattle.place_laws.proofs.PlaceLaws.{source_is_small}
use Rattle.place_laws.proofs.facts.source_is_small.Goals as goal

pub returns : goal.returns
returns c = source_is_small

-- The law is a lemma over the definitions alone.
use Rattle.place_laws.proofs.PlaceLaws.{no_other_place_joins}
use Rattle.place_laws.proofs.facts.no_other_place_joins.Goals as goal

pub returns : goal.returns
returns c = no_other_place_joins

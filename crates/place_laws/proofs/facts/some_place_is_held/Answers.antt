-- The law is a lemma over the definitions alone.
use Rattle.place_laws.proofs.PlaceLaws.{some_place_is_held}
use Rattle.place_laws.proofs.facts.some_place_is_held.Goals as goal

pub returns : goal.returns
returns c = some_place_is_held

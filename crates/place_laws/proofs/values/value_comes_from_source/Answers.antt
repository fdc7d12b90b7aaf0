-- The law is a lemma over the definitions alone.
use Rattle.place_laws.proofs.PlaceLaws.{value_comes_from_source}
use Rattle.place_laws.proofs.values.value_comes_from_source.Goals as goal

pub returns : goal.returns
returns c = value_comes_from_source

-- The law is a lemma over the definitions alone.
use Rattle.place_laws.proofs.PlaceLaws.{made_value_stands}
use Rattle.place_laws.proofs.values.made_value_stands.Goals as goal

pub returns : goal.returns
returns c = made_value_stands

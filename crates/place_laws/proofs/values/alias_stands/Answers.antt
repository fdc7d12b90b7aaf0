-- The law is a lemma over the definitions alone.
use Rattle.place_laws.proofs.PlaceLaws.{alias_stands}
use Rattle.place_laws.proofs.values.alias_stands.Goals as goal

pub returns : goal.returns
returns c = alias_stands

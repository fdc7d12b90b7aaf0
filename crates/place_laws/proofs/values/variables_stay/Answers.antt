-- The law is a lemma over the definitions alone.
use Rattle.place_laws.proofs.PlaceLaws.{variables_stay}
use Rattle.place_laws.proofs.values.variables_stay.Goals as goal

pub returns : goal.returns
returns c = variables_stay

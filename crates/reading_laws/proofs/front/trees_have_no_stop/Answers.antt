-- The law is a lemma over the definitions alone.
use Rattle.reading_laws.proofs.OneFront.{trees_stop}
use Rattle.reading_laws.proofs.front.trees_have_no_stop.Goals as goal

pub returns : goal.returns
returns c = trees_stop

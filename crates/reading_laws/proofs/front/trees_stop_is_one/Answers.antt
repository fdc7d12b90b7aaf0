-- The law is a lemma over the definitions alone.
use Rattle.reading_laws.proofs.OneFront.{one_stop}
use Rattle.reading_laws.proofs.front.trees_stop_is_one.Goals as goal

pub returns : goal.returns
returns c = one_stop

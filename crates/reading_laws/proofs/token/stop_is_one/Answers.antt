-- The law is a lemma over the definitions alone.
use Rattle.reading_laws.proofs.OneCut.{one_stop}
use Rattle.reading_laws.proofs.token.stop_is_one.Goals as goal

pub returns : goal.returns
returns c = one_stop

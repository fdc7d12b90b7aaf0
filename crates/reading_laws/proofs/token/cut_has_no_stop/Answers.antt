-- The law is a lemma over the definitions alone.
use Rattle.reading_laws.proofs.OneCut.{no_stop}
use Rattle.reading_laws.proofs.token.cut_has_no_stop.Goals as goal

pub returns : goal.returns
returns c = no_stop

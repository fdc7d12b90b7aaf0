-- The law is a lemma over the definitions alone.
use Rattle.reading_laws.proofs.OneCut.{one_cut}
use Rattle.reading_laws.proofs.token.tokens_are_one.Goals as goal

pub returns : goal.returns
returns c = one_cut

-- The law is a lemma over the definitions alone.
use Rattle.reading_laws.proofs.OneRefusal.{one_first}
use Rattle.reading_laws.proofs.refusal.first_refusal_is_one.Goals as goal

pub returns : goal.returns
returns c = one_first

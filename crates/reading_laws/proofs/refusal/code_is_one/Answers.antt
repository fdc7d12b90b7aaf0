-- The law is a lemma over the definitions alone.
use Rattle.reading_laws.proofs.OneRefusal.{one_code}
use Rattle.reading_laws.proofs.refusal.code_is_one.Goals as goal

pub returns : goal.returns
returns c = one_code

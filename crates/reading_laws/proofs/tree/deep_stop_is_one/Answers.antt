-- The law is a lemma over the definitions alone.
use Rattle.reading_laws.proofs.OneTree.{one_deep}
use Rattle.reading_laws.proofs.tree.deep_stop_is_one.Goals as goal

pub returns : goal.returns
returns c = one_deep

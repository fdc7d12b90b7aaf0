-- The law is a lemma over the definitions alone.
use Rattle.reading_laws.proofs.OneTree.{one_wrong}
use Rattle.reading_laws.proofs.tree.wrong_stop_is_one.Goals as goal

pub returns : goal.returns
returns c = one_wrong

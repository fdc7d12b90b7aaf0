-- The law is a lemma over the definitions alone.
use Rattle.reading_laws.proofs.OneTree.{not_deep}
use Rattle.reading_laws.proofs.tree.wrong_is_not_deep.Goals as goal

pub returns : goal.returns
returns c = not_deep

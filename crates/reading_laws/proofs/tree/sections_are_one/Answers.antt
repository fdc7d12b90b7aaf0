-- The law is a lemma over the definitions alone.
use Rattle.reading_laws.proofs.OneTree.{one_stub}
use Rattle.reading_laws.proofs.tree.sections_are_one.Goals as goal

pub returns : goal.returns
returns c = one_stub

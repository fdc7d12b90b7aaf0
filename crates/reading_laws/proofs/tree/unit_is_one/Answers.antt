-- The law is a lemma over the definitions alone.
use Rattle.reading_laws.proofs.OneTree.{one_unit}
use Rattle.reading_laws.proofs.tree.unit_is_one.Goals as goal

pub returns : goal.returns
returns c = one_unit

-- The law is a lemma over the definitions alone.
use Rattle.reading_laws.proofs.OneFront.{one_trees}
use Rattle.reading_laws.proofs.front.trees_are_one.Goals as goal

pub returns : goal.returns
returns c = one_trees

-- The law is a lemma over the definitions alone.
use Rattle.graph_limits.proofs.PairLaws.{same_cause}
use Rattle.graph_limits.proofs.laws.pairs_are_the_same.Goals as goal

pub returns : goal.returns
returns c = λ p b nodes rows pos stop graph. same_cause p b nodes rows graph pos stop

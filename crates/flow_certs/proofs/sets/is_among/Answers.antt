-- The test of the set.
use Rattle.flow_certs.specs.contracts.pair.PairPartialEq.TheImpl as pair_eq
use Rattle.flow_certs.proofs.EqLaws.{exact_pair, pair_self}
use Rattle.flow_certs.proofs.SetLaws.{found}
use Rattle.flow_certs.proofs.sets.is_among.Goals as goal

pub returns : goal.returns
returns c = found (pair_eq.ghosts).eq exact_pair pair_self c.args.pairs.now.keys c.args.pair.now c.contains.result c.contains.ensures

use Rattle.fact_pool.proofs.ListLemmas.{equal_at}
use Rattle.fact_pool.proofs.pool.Pool.is_same_value.Goals as goal

pub returns-clause-values : goal.returns-clause-values
returns-clause-values g c = rw (c.eq.ensures, ← c.self.view_is) (equal_at g.T.PartialEq.eq g.met.T.Eq.laws _ (c.self.invariant.distinct c.args.region.now) c.args.first.0 c.args.second.0)

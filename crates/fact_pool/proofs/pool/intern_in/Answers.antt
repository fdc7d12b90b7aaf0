use Rattle.fact_pool.proofs.ListLemmas.{interned}
use Rattle.fact_pool.proofs.pool.intern_in.Goals as goal

pub returns-in-Ok-clause-list : goal.returns-in-Ok-clause-list
returns-in-Ok-clause-list g c = interned g.T.PartialEq.eq c.args.list.now.keys c.args.value _ _ _ c.in-Ok.ensures.added c.in-Ok.ensures.keys c.in-Ok.ensures.index c.in-Ok.ensures.stored

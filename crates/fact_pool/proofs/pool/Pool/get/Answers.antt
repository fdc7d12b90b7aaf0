use Rattle.std.proofs.Common.{◌<◌, length, arith}
use Rattle.fact_pool.proofs.SlotLemmas.{has_set_at, list_of-set}
use Rattle.fact_pool.proofs.pool.Pool.get.Goals as goal

pub index-requires : goal.index-requires
index-requires g c = has_set_at c.self.inside.lists c.self.inside.begun c.region.inside.key c.args.handle.0 (rw (← c.self.view_is, ← c.region.view_is) at c.requires)

pub index-requires-2 : goal.index-requires-2
index-requires-2 g c =
    let within : c.args.handle.0 < length c.index.result.now.keys =
    rw (← c.self.view_is, ← c.region.view_is, list_of-set c.self.inside.lists c.self.inside.begun c.region.inside.key c.index.result.now c.index.ensures) at c.requires in
    omega arith

pub returns-clause-value : goal.returns-clause-value
returns-clause-value g c =
    rw (← c.self.view_is, ← c.region.view_is, list_of-set c.self.inside.lists c.self.inside.begun c.region.inside.key c.index.result.now c.index.ensures)
    c.index-2.ensures

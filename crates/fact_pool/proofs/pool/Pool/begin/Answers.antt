use Rattle.std.proofs.Common.{ap, []}
use Rattle.fact_pool.proofs.SlotLemmas.{lists_of-begun, sound-begun, not_live}
use Rattle.fact_pool.proofs.RegionLemmas.{IsLive-with_list, list_of-with_list}
use Rattle.fact_pool.specs.Layout.{regions_of}
use Rattle.fact_pool.proofs.pool.Pool.begin.Goals as goal

pub invariant_of-self-2 : goal.invariant_of-self-2
invariant_of-self-2 g c = sound-begun c.self.inside.lists c.reserve.new.self c.insert_reserved-key.new.self _ _ _ _ _ c.in_ok-reserve.ensures.rest_kept c.insert_reserved-key.ensures.updates c.new.ensures.empty c.self.invariant

pub returns-clause-fresh : goal.returns-clause-fresh
returns-clause-fresh g c =
    rw (← c.self.view_is, ← ap (λ l. l.slots) c.in_ok-reserve.ensures.rest_kept)
    (not_live c.reserve.new.self c.self.inside.begun c.insert_reserved-key.result c.insert_reserved-key.ensures.was_vacant)

pub returns-clause-lists : goal.returns-clause-lists
returns-clause-lists g c =
    rw (← c.self.view_is)
    (lists_of-begun c.self.inside.lists c.reserve.new.self c.insert_reserved-key.new.self _ c.new.result c.in_ok-reserve.ensures.rest_kept c.insert_reserved-key.ensures.updates c.new.ensures.empty)

pub returns-clause-sound : goal.returns-clause-sound
returns-clause-sound g c = invariant_of-self-2 g c

pub returns-clause-live : goal.returns-clause-live
returns-clause-live g c =
    rw (lists_of-begun c.self.inside.lists c.reserve.new.self c.insert_reserved-key.new.self _ c.new.result c.in_ok-reserve.ensures.rest_kept c.insert_reserved-key.ensures.updates c.new.ensures.empty)
    (IsLive-with_list (regions_of c.self.inside.lists.slots c.self.inside.begun) c.insert_reserved-key.result [])

pub returns-clause-empty : goal.returns-clause-empty
returns-clause-empty g c =
    rw (lists_of-begun c.self.inside.lists c.reserve.new.self c.insert_reserved-key.new.self _ c.new.result c.in_ok-reserve.ensures.rest_kept c.insert_reserved-key.ensures.updates c.new.ensures.empty)
    (list_of-with_list (regions_of c.self.inside.lists.slots c.self.inside.begun) c.insert_reserved-key.result [])

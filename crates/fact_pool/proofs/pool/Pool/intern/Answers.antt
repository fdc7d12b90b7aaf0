use Rattle.fact_pool.proofs.SlotLemmas.{has_set, list_of-set, interned-list, interned-others, interned-live, interned-sound, interned-err}
use Rattle.fact_pool.proofs.ListLemmas.{interned-within}
use Rattle.fact_pool.proofs.pool.Pool.intern.Goals as goal

pub index_mut-requires : goal.index_mut-requires
index_mut-requires g c = has_set c.self.inside.lists c.self.inside.begun c.region.inside.key (rw (← c.self.view_is, ← c.region.view_is) at c.requires.live)

pub intern_in-requires : goal.intern_in-requires
intern_in-requires g c =
    rw (← c.self.view_is, ← c.region.view_is, list_of-set c.self.inside.lists c.self.inside.begun c.region.inside.key c.index_mut.result.now c.index_mut.ensures.value) at c.requires.room

pub invariant_of-self : goal.invariant_of-self
invariant_of-self g c =
    interned-sound g.T.PartialEq.eq c.self.inside.lists c.self.inside.begun c.region.inside.key c.args.value c.index_mut.result.now c.intern_in.new.list c.intern_in.result c.index_mut.ensures.value c.intern_in.ensures.list c.intern_in.ensures.distinct
    (rw (← c.self.view_is, ← c.region.view_is, list_of-set c.self.inside.lists c.self.inside.begun c.region.inside.key c.index_mut.result.now c.index_mut.ensures.value) at c.requires.room)
    c.self.invariant

pub returns-clause-list : goal.returns-clause-list
returns-clause-list g c =
    rw (← c.self.view_is, ← c.region.view_is)
    (interned-list g.T.PartialEq.eq c.self.inside.lists c.self.inside.begun c.region.inside.key c.args.value c.index_mut.result.now c.intern_in.new.list c.intern_in.result c.index_mut.ensures.value c.intern_in.ensures.list)

pub returns-clause-others : goal.returns-clause-others
returns-clause-others g c =
    rw (← c.self.view_is, ← c.region.view_is)
    (interned-others g.T.PartialEq.eq c.self.inside.lists c.self.inside.begun c.region.inside.key c.args.value c.index_mut.result.now c.intern_in.new.list c.intern_in.result c.index_mut.ensures.value c.intern_in.ensures.list)

pub returns-clause-err : goal.returns-clause-err
returns-clause-err g c =
    rw (← c.self.view_is)
    (interned-err g.T.PartialEq.eq c.self.inside.lists c.self.inside.begun c.region.inside.key c.args.value c.index_mut.result.now c.intern_in.new.list c.intern_in.result c.index_mut.ensures.value c.intern_in.ensures.list)

pub returns-clause-sound : goal.returns-clause-sound
returns-clause-sound g c =
    interned-sound g.T.PartialEq.eq c.self.inside.lists c.self.inside.begun c.region.inside.key c.args.value c.index_mut.result.now c.intern_in.new.list c.intern_in.result c.index_mut.ensures.value c.intern_in.ensures.list c.intern_in.ensures.distinct
    (rw (← c.self.view_is, ← c.region.view_is, list_of-set c.self.inside.lists c.self.inside.begun c.region.inside.key c.index_mut.result.now c.index_mut.ensures.value) at c.requires.room)
    c.self.invariant

pub returns-clause-live : goal.returns-clause-live
returns-clause-live g c =
    rw (← c.region.view_is)
    (interned-live g.T.PartialEq.eq c.self.inside.lists c.self.inside.begun c.region.inside.key c.args.value c.index_mut.result.now c.intern_in.new.list c.intern_in.result c.index_mut.ensures.value c.intern_in.ensures.list)

pub returns-clause-place : goal.returns-clause-place
returns-clause-place g c =
    rw (← c.region.view_is)
    (interned-within g.T.PartialEq.eq _ _ c.args.value c.intern_in.result
    (interned-list g.T.PartialEq.eq c.self.inside.lists c.self.inside.begun c.region.inside.key c.args.value c.index_mut.result.now c.intern_in.new.list c.intern_in.result c.index_mut.ensures.value c.intern_in.ensures.list))

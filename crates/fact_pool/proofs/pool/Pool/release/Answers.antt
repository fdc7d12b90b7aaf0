use Rattle.std.proofs.Common.{arith, ap, sym, ◌∙◌, length}
use Rattle.fact_pool.proofs.SlotLemmas.{has_set, list_of-set, lists_of-emptied, sound-released}
use Rattle.fact_pool.proofs.pool.Pool.release.Goals as goal

pub remove-requires : goal.remove-requires
remove-requires g c = has_set c.self.inside.lists c.self.inside.begun c.region.inside.key (rw (← c.self.view_is, ← c.region.view_is) at c.requires)

pub overflow_cast-result : goal.overflow_cast-result
overflow_cast-result g c =
    let list = list_of-set c.self.inside.lists c.self.inside.begun c.region.inside.key c.remove.result c.remove.ensures.value in
    omega (arith, c.self.invariant.small c.region.inside.key, ap length list, c.len-2.ensures.len)

pub invariant_of-self : goal.invariant_of-self
invariant_of-self g c = sound-released c.self.inside.lists c.remove.new.self _ _ _ _ c.remove.ensures.updates c.self.invariant

pub returns-clause-len : goal.returns-clause-len
returns-clause-len g c =
    rw (← c.self.view_is, ← c.region.view_is)
    (c.len-2.ensures.len ∙ sym (ap length (list_of-set c.self.inside.lists c.self.inside.begun c.region.inside.key c.remove.result c.remove.ensures.value)))

pub returns-clause-lists : goal.returns-clause-lists
returns-clause-lists g c =
    rw (← c.self.view_is, ← c.region.view_is)
    (λ i. record { lists = lists_of-emptied c.self.inside.lists c.remove.new.self c.region.inside.key c.remove.ensures.updates i; begun = c.self.inside.begun })

pub returns-clause-sound : goal.returns-clause-sound
returns-clause-sound g c = sound-released c.self.inside.lists c.remove.new.self _ _ _ _ c.remove.ensures.updates c.self.invariant

use Rattle.fact_pool.proofs.SlotLemmas.{lists_of-none, sound-none}
use Rattle.fact_pool.proofs.pool.Pool.new.Goals as goal

pub invariant_of-result : goal.invariant_of-result
invariant_of-result g c = sound-none _ c.new.result.slots _ c.new.ensures.empty

pub returns-clause-lists : goal.returns-clause-lists
returns-clause-lists g c = lists_of-none c.new.result.slots c.new.ensures.empty

pub returns-clause-sound : goal.returns-clause-sound
returns-clause-sound g c = sound-none _ c.new.result.slots _ c.new.ensures.empty

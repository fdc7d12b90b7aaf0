use Rattle.std.proofs.Common.{◌≡◌, ◌∙◌, ◌+◌, ◌-◌, ◌∷◌, ◌++◌, [], None, Some, ap, false}
use Rattle.ledger_obligations.proofs.ReachLaws.{reach_alone, reach_further}
use Rattle.ledger_obligations.specs.Obligations.{finished_holder, owner_in, reached_within, stops}
use Rattle.ledger_state.specs.Heaps.{object_at, root}
use Rattle.ledger_obligations.proofs.resets.reached_from.Goals as goal

pub returns-in-None : goal.returns-in-None
returns-in-None c =
    let goes : stops c.args.heap.now c.upwards.seen.items (root c.args.heap.now c.upwards.number) ≡ false = cc in
    let alone : finished_holder c.args.heap.now (owner_in (object_at c.args.heap.now (root c.args.heap.now c.upwards.number))) ≡ None = cc in
    let made : c.push.new.self.items ≡ c.upwards.seen.items ++ root c.args.heap.now c.upwards.number ∷ [] = cc (c.in_ok-push.ensures.items) in
    made ∙ reach_alone c.args.heap.now (c.len-turn-end.result + 1) c.upwards._turn c.upwards.seen.items c.upwards.number _ c.upwards-test.true goes alone c.upwards.invariant

pub upwards-preserved : goal.upwards-preserved
upwards-preserved c =
    let goes : stops c.args.heap.now c.upwards.seen.items (root c.args.heap.now c.upwards.number) ≡ false = cc in
    let held : finished_holder c.args.heap.now (owner_in (object_at c.args.heap.now (root c.args.heap.now c.upwards.number))) ≡ Some c.in-Some.holder = cc in
    let made : c.push.new.self.items ≡ c.upwards.seen.items ++ root c.args.heap.now c.upwards.number ∷ [] = cc (c.in_ok-push.ensures.items) in
    ap (λ xs. reached_within (c.len-turn-end.result + 1 - (c.upwards._turn + 1)) c.args.heap.now xs c.in-Some.holder) made
    ∙ reach_further c.args.heap.now (c.len-turn-end.result + 1) c.upwards._turn c.upwards.seen.items c.upwards.number c.in-Some.holder _ c.upwards-test.true goes held c.upwards.invariant

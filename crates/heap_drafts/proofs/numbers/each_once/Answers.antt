use Rattle.std.proofs.Common.{sym, subst, refl, arith}
use Rattle.heap_drafts.proofs.RisingLaws.{Once, once_all, once_start, once_turn}
use Rattle.heap_drafts.proofs.numbers.each_once.Goals as goal

pub each-init : goal.each-init
each-init c = subst (λ ns. Once c.args.sorted.now 0 0 ns) (sym c.new-once.ensures.items) (once_start c.args.sorted.now)

pub each-preserved : goal.each-preserved
each-preserved c =
    once_turn c.args.sorted.now c.each.number-index c.each.last _ c.each.once.items _ _ c.requires c.each-test.true refl
    c.in_ok-last.ensures.once c.in_ok-last.ensures.last c.each.invariant

pub returns-clause-rises : goal.returns-clause-rises
returns-clause-rises c = c.each.invariant.rise

pub returns-clause-all : goal.returns-clause-all
returns-clause-all c = once_all c.args.sorted.now c.each.number-index c.each.last c.each.once.items (omega arith) c.each.invariant

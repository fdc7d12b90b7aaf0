use Rattle.std.proofs.Common.{◌≡◌, ap, sym, subst, length, None, Some, Option, arith}
use Rattle.std.specs.Prelude.{IfSome}
use Rattle.ledger_state.specs.Contents.{HeapContents}
use Rattle.object_index.specs.declared.index.ObjectIndex.{ObjectIndex}
use Rattle.object_index.specs.ObjectIndexes.{Indexed}
use Rattle.object_index.proofs.IndexLaws.{indexed_next, indexed_up_to}
use Rattle.object_index.proofs.building.heap_index.Goals as goal

pub each-preserved : goal.each-preserved
each-preserved c =
    indexed_next c.each.index c.add_number.new.index c.args.heap.now c.each.place c.each.invariant c.add_number.ensures.all
    (λ x found. c.in_ok-add_number.ensures.there c.if-not-branch.false x found)

pub returns : goal.returns
returns c = go c.found.result c.found.ensures
  where
    all : Indexed c.each.index c.args.heap.now
    all =
        let count = ap (λ (h : HeapContents). length h.objects) c.heap.view_is in
        indexed_up_to c.each.index c.args.heap.now c.each.place (omega (arith, count)) c.each.invariant

    go : (o : Option ObjectIndex) → IfSome o (λ i. i ≡ c.each.index) → IfSome o (λ i. Indexed i c.args.heap.now)
    go None h = h
    go (Some i) h = subst (λ (j : ObjectIndex). Indexed j c.args.heap.now) (sym h) all

use Rattle.std.proofs.Common.{◌∙◌, sym}
use Rattle.ledger_state.proofs.HeapLemmas.{root_step}
use Rattle.ledger_state.proofs.heap.Heap.root.Goals as goal

pub links-preserved : goal.links-preserved
links-preserved c =
    c.links.invariant
    ∙ root_step c.len-end.result c.links.counter c.args.self.now c.links.at c.in-Some.to c.links-test.true (sym c.in-Some.ensures)

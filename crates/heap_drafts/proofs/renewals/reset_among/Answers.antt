use Rattle.std.proofs.Common.{◌∙◌, ap}
use Rattle.heap_drafts.specs.Drafts.{put_back}
use Rattle.ledger_obligations.specs.Obligations.{reset_in}
use Rattle.heap_drafts.proofs.DraftLaws.{among_each, drafted_each, renewed_each}
use Rattle.heap_drafts.proofs.LinkLaws.{reset_link}
use Rattle.heap_drafts.proofs.renewals.reset_among.Goals as goal

pub returns-clause-heap : goal.returns-clause-heap
returns-clause-heap c =
    c.put_back.ensures ∙ ap (λ bs. put_back bs c.args.heap.now) (c.deref.ensures.value ∙ c.in_ok-left.ensures)
    ∙ renewed_each (reset_in c.args.p.now c.args.heap.now c.args.roots.now) c.args.heap.now c.args.numbers.now c.requires

pub returns-clause-among : goal.returns-clause-among
returns-clause-among c =
    among_each (reset_in c.args.p.now c.args.heap.now c.args.roots.now) c.args.heap.now c.put_back.new.heap c.args.numbers.now
    (c.put_back.ensures ∙ ap (λ bs. put_back bs c.args.heap.now) (c.deref.ensures.value ∙ c.in_ok-left.ensures)) c.requires (reset_link c.args.p.now c.args.heap.now c.args.roots.now)

pub returns-clause-drafted : goal.returns-clause-drafted
returns-clause-drafted c =
    drafted_each c.args.saved.now.items c.save.new.saved.items (reset_in c.args.p.now c.args.heap.now c.args.roots.now) c.args.heap.now c.put_back.new.heap c.args.numbers.now c.in_ok-save.ensures.ok
    (c.put_back.ensures ∙ ap (λ bs. put_back bs c.args.heap.now) (c.deref.ensures.value ∙ c.in_ok-left.ensures)) c.requires (reset_link c.args.p.now c.args.heap.now c.args.roots.now)

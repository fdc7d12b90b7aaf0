use Rattle.std.proofs.Common.{◌∙◌, ap}
use Rattle.heap_drafts.specs.Drafts.{put_back}
use Rattle.ledger_obligations.specs.Obligations.{given_up_by_holder}
use Rattle.heap_drafts.proofs.DraftLaws.{among_each, drafted_each, renewed_each}
use Rattle.heap_drafts.proofs.LinkLaws.{holder_link}
use Rattle.heap_drafts.proofs.renewals.end_holder_among.Goals as goal

pub returns-clause-heap : goal.returns-clause-heap
returns-clause-heap c =
    c.put_back.ensures ∙ ap (λ bs. put_back bs c.args.heap.now) (c.deref.ensures.value ∙ c.in_ok-left.ensures)
    ∙ renewed_each (given_up_by_holder c.args.holder) c.args.heap.now c.args.numbers.now c.requires

pub returns-clause-among : goal.returns-clause-among
returns-clause-among c =
    among_each (given_up_by_holder c.args.holder) c.args.heap.now c.put_back.new.heap c.args.numbers.now
    (c.put_back.ensures ∙ ap (λ bs. put_back bs c.args.heap.now) (c.deref.ensures.value ∙ c.in_ok-left.ensures)) c.requires (holder_link c.args.holder)

pub returns-clause-drafted : goal.returns-clause-drafted
returns-clause-drafted c =
    drafted_each c.args.saved.now.items c.save.new.saved.items (given_up_by_holder c.args.holder) c.args.heap.now c.put_back.new.heap c.args.numbers.now c.in_ok-save.ensures.ok
    (c.put_back.ensures ∙ ap (λ bs. put_back bs c.args.heap.now) (c.deref.ensures.value ∙ c.in_ok-left.ensures)) c.requires (holder_link c.args.holder)

use Rattle.std.proofs.Common.{◌≡◌, ◌∙◌, ap, sym, List, ◌++◌}
use Rattle.draft_lines.specs.Entries.{called_entries}
use Rattle.ledger_obligations.specs.Obligations.{noted}
use Rattle.ledger_state.specs.Contents.{HeapContents}
use Rattle.spread_notes.specs.declared.numbered.Numbered.{Numbered}
use Rattle.spread_notes.specs.SpreadNotes.{put_each}
use Rattle.draft_steps.proofs.NoteStages.{notes_put}
use Rattle.draft_steps.proofs.notes.draft_notes.Goals as goal

pub returns-in_ok-note_found-in-Some-clause-heap : goal.returns-in_ok-note_found-in-Some-clause-heap
returns-in_ok-note_found-in-Some-clause-heap c =
    λ e.
    c.in_ok-note_found-in-Some.ensures.heap
    ∙ ap (λ (bs : List Numbered). put_each bs c.args.heap.now) c.deref.ensures.value
    ∙ sym (notes_put c.args.p.now c.args.heap.now c.args.notes.now c.in-Some.found.objects.items (rw c.in-Some.is at c.in_ok-noted.ensures))

pub returns-in_ok-note_found-in-Some-clause-lines : goal.returns-in_ok-note_found-in-Some-clause-lines
returns-in_ok-note_found-in-Some-clause-lines c =
    λ e.
    let put : put_each c.deref.result.now c.args.heap.now ≡ noted c.args.p.now c.args.notes.now c.args.heap.now =
    ap (λ (bs : List Numbered). put_each bs c.args.heap.now) c.deref.ensures.value
    ∙ sym (notes_put c.args.p.now c.args.heap.now c.args.notes.now c.in-Some.found.objects.items (rw c.in-Some.is at c.in_ok-noted.ensures)) in
    c.in_ok-note_found-in-Some.ensures.lines
    ∙ ap (λ (i : HeapContents). c.args.lines.now.items ++ called_entries c.args.p.now c.args.pos c.args.heap.now i) put

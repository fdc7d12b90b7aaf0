use Rattle.std.proofs.Common.{◌≡◌, ◌∙◌, ap, List, ◌++◌}
use Rattle.program_model.specs.Lookups.{method_at}
use Rattle.heap_drafts.proofs.DraftLaws.{drafted_on}
use Rattle.ledger_calls.specs.Calls.{arguments_moved}
use Rattle.ledger_calls.specs.Conducts.{library_notes, object_made}
use Rattle.draft_lines.specs.Entries.{called_entries, owner_entries}
use Rattle.ledger_obligations.specs.declared.note.Note.{Note}
use Rattle.ledger_obligations.specs.Obligations.{noted}
use Rattle.ledger_state.specs.declared.entry.Owner.TheVariants as owners
use Rattle.draft_steps.specs.CallSteps.{library_made}
use Rattle.draft_calls.proofs.LibraryLaws.{drafted_three}
use Rattle.draft_calls.proofs.library.call_noted.Goals as goal

pub returns-in_err-make_one-clause-drafted : goal.returns-in_err-make_one-clause-drafted
returns-in_err-make_one-clause-drafted c =
    drafted_on c.args.saved.now.items c.args.heap.now c.draft_arguments.new.saved.items c.draft_arguments.new.heap c.make_one.new.saved.items c.make_one.new.heap c.draft_arguments.ensures.drafted c.make_one.ensures.drafted

pub returns-in_err-notes-clause-drafted : goal.returns-in_err-notes-clause-drafted
returns-in_err-notes-clause-drafted c =
    drafted_on c.args.saved.now.items c.args.heap.now c.draft_arguments.new.saved.items c.draft_arguments.new.heap c.make_one.new.saved.items c.make_one.new.heap c.draft_arguments.ensures.drafted c.make_one.ensures.drafted

pub returns-in_err-done-clause-drafted : goal.returns-in_err-done-clause-drafted
returns-in_err-done-clause-drafted c =
    drafted_three c.args.saved.now.items c.draft_arguments.new.saved.items c.make_one.new.saved.items c.draft_notes.new.saved.items c.args.heap.now c.draft_arguments.new.heap c.make_one.new.heap c.draft_notes.new.heap c.draft_arguments.ensures.drafted c.make_one.ensures.drafted c.draft_notes.ensures.drafted

pub returns-clause-drafted : goal.returns-clause-drafted
returns-clause-drafted c =
    drafted_three c.args.saved.now.items c.draft_arguments.new.saved.items c.make_one.new.saved.items c.draft_notes.new.saved.items c.args.heap.now c.draft_arguments.new.heap c.make_one.new.heap c.draft_notes.new.heap c.draft_arguments.ensures.drafted c.make_one.ensures.drafted c.draft_notes.ensures.drafted

pub returns-clause-heap : goal.returns-clause-heap
returns-clause-heap c =
    λ e.
    let p = c.args.p.now in
    let l = c.args.locals.now in
    let named = method_at p c.args.call.named in
    let m = method_at p c.args.call.method in
    let d = c.args.call.conduct in
    let made : c.make_one.new.heap ≡ library_made p l c.args.call.action named d c.args.heap.now = c.in_ok-make_one.ensures.heap ∙ ap (object_made d) c.in_ok-draft_arguments.ensures.heap in
    let notes : c.deref.result.now ≡ library_notes p c.make_one.new.heap l c.args.call.action named m c.next_number-number.result d = c.deref.ensures.value ∙ c.in_ok-notes.ensures in
    c.in_ok-done.ensures.heap e
    ∙ ap (λ ns. noted p ns c.make_one.new.heap) notes
    ∙ (λ i. noted p (library_notes p (made i) l c.args.call.action named m (c.next_number-number.ensures i) d) (made i))

pub returns-clause-lines : goal.returns-clause-lines
returns-clause-lines c =
    λ e.
    let p = c.args.p.now in
    let l = c.args.locals.now in
    let pos = c.args.call.pos in
    let named = method_at p c.args.call.named in
    let m = method_at p c.args.call.method in
    let d = c.args.call.conduct in
    let made : c.make_one.new.heap ≡ library_made p l c.args.call.action named d c.args.heap.now = c.in_ok-make_one.ensures.heap ∙ ap (object_made d) c.in_ok-draft_arguments.ensures.heap in
    let notes : c.deref.result.now ≡ library_notes p c.make_one.new.heap l c.args.call.action named m c.next_number-number.result d = c.deref.ensures.value ∙ c.in_ok-notes.ensures in
    c.in_ok-done.ensures.lines e
    ∙ ap (λ es. es ++ called_entries p pos c.make_one.new.heap (noted p c.deref.result.now c.make_one.new.heap)) c.in_ok-draft_arguments.ensures.lines
    ∙ ap (λ (ns : List Note). c.args.lines.now.items ++ owner_entries p pos c.args.heap.now (arguments_moved p owners.Library l c.args.call.action named c.args.heap.now) ++ called_entries p pos c.make_one.new.heap (noted p ns c.make_one.new.heap)) notes
    ∙ (λ i. c.args.lines.now.items ++ owner_entries p pos c.args.heap.now (arguments_moved p owners.Library l c.args.call.action named c.args.heap.now) ++ called_entries p pos (made i) (noted p (library_notes p (made i) l c.args.call.action named m (c.next_number-number.ensures i) d) (made i)))

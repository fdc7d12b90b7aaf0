use Rattle.std.proofs.Common.{◌≡◌, ◌∙◌, ◌+◌, ◌∷◌, ◌++◌, List, ap, map, reverse}
use Rattle.ledger_entries.specs.Entries.{leak_entries, owner_entries}
use Rattle.ledger_obligations.specs.Obligations.{end_frame, held_in}
use Rattle.ledger_state.specs.declared.entry.Entry.{Entry}
use Rattle.ledger_state.specs.declared.entry.LeakWord.TheVariants as words
use Rattle.ledger_state.specs.Contents.{HeapContents}
use Rattle.ledger_state.specs.Locals.{held}
use Rattle.ledger_steps.specs.Effects.{left}
use Rattle.ledger_steps.specs.Ends.{call_end_entries, call_ended, constructor_ended, frame_end_leaks, frame_gone, result_moved, returned_heap}
use Rattle.program_model.specs.Lookups.{method_at}
use Rattle.ledger_steps.proofs.call_ends.return_effect.Goals as goal

pub returns-clause-lines : goal.returns-clause-lines
returns-clause-lines c =
    let p = c.args.p.now in
    let h = c.args.heap.now in
    let l = c.args.locals.now in
    let a = c.args.action in
    let at = c.args.position in
    let end = c.args.end in
    let n = method_at c.args.p.now c.args.named in
    let runs = method_at c.args.p.now c.args.end.method in
    let moved : c.in_ok-moved.moved ≡ result_moved p at runs end.value end.thrown h = c.in_ok-moved.ensures in
    let gone : c.in_ok-gone.gone ≡ frame_gone p at end.this runs end.value end.thrown h =
    c.in_ok-gone.ensures.heap ∙ ap (λ x. constructor_ended end.this runs end.thrown (end_frame (at + 1) x)) moved in
    let after : c.in_ok-after.after ≡ returned_heap p at end.this l a runs n end.value end.thrown h =
    c.in_ok-after.ensures.heap ∙ ap (call_ended p at end.this l a n end.thrown) gone in
    let leaking : HeapContents → List Entry = λ x. leak_entries p words.Exit end.pos x (end_frame (at + 1) x)
    ++ leak_entries p words.ConstructorThrow end.pos (end_frame (at + 1) x) (constructor_ended end.this runs end.thrown (end_frame (at + 1) x)) in
    let leaks : c.frame_gone.new.leaks.items ≡ frame_end_leaks p end.pos at end.this runs end.value end.thrown h =
    c.in_ok-gone.ensures.leaks ∙ (λ i. (c.new-leaks.ensures.items i) ++ leaking (moved i)) in
    let lines : c.owner_entries.new.into.items ≡ call_end_entries p c.args.pos at end.this l a n end.thrown (frame_gone p at end.this runs end.value end.thrown h) ++ owner_entries p c.args.pos h (result_moved p at runs end.value end.thrown h) =
    c.in_ok-owner_entries.ensures
    ∙ ap (λ (xs : List Entry). xs ++ owner_entries p c.args.pos h c.in_ok-moved.moved) c.in_ok-after.ensures.lines
    ∙ (λ i. ((c.new-lines.ensures.items i) ++ call_end_entries p c.args.pos at end.this l a n end.thrown (gone i)) ++ owner_entries p c.args.pos h (moved i)) in
    c.in_ok-effect.ensures.lines ∙ (λ i. (left p c.args.pos (held c.args.top.now ∷ map held_in (reverse c.args.below.now)) (lines i) (leaks i) (after i)).lines)

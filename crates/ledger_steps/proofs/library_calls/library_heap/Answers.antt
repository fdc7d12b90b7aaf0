use Rattle.std.proofs.Common.{◌≡◌, ◌∙◌, ◌++◌, List, ap, ℕ}
use Rattle.ledger_calls.specs.Calls.{arguments_moved, reset_target}
use Rattle.ledger_calls.specs.Conducts.{library_birth, library_notes, object_made, positions}
use Rattle.ledger_entries.specs.Entries.{birth_entries, called_entries, owner_entries, reset_entries}
use Rattle.ledger_obligations.specs.Obligations.{noted, reached, reset_roots}
use Rattle.ledger_state.specs.declared.entry.Entry.{Entry}
use Rattle.ledger_state.specs.declared.entry.Owner.TheVariants as owners
use Rattle.ledger_state.specs.Contents.{HeapContents}
use Rattle.ledger_state.specs.Heaps.{next_number}
use Rattle.ledger_steps.specs.CallSteps.{library_made, library_reset}
use Rattle.ledger_steps.proofs.LineLaws.{in_turn}
use Rattle.program_model.specs.Lookups.{method_at}
use Rattle.ledger_steps.proofs.library_calls.library_heap.Goals as goal

pub returns-clause-heap : goal.returns-clause-heap
returns-clause-heap c =
    let p = c.args.p.now in
    let l = c.args.locals.now in
    let a = c.args.action in
    let n = method_at c.args.p.now c.args.named in
    let m = method_at c.args.p.now c.args.method in
    let d = c.args.conduct in
    let h = c.args.heap.now in
    let count : c.next_number-number.result ≡ next_number h = c.next_number-number.ensures in
    let made : c.in_ok-made.made ≡ library_made p l a n d h = c.in_ok-made.ensures ∙ ap (object_made d) c.in_ok-moved.ensures in
    let called : ℕ → HeapContents → HeapContents = λ k x. noted p (library_notes p x l a n m k d) x in
    let reset : c.in_ok-reset.reset ≡ library_reset p l a n m d h =
    c.in_ok-reset.ensures.heap ∙ (λ i. reset_roots p (reached (called (count i) (made i)) (reset_target (positions l a (count i) d) n)) (called (count i) (made i))) in
    c.in_ok-after.ensures.heap ∙ (λ i. library_birth p l a m c.args.position (count i) d (reset i))

pub returns-clause-lines : goal.returns-clause-lines
returns-clause-lines c =
    let p = c.args.p.now in
    let pos = c.args.pos in
    let l = c.args.locals.now in
    let a = c.args.action in
    let n = method_at c.args.p.now c.args.named in
    let m = method_at c.args.p.now c.args.method in
    let d = c.args.conduct in
    let h = c.args.heap.now in
    let old = c.args.lines.now.items in
    let count : c.next_number-number.result ≡ next_number h = c.next_number-number.ensures in
    let made : c.in_ok-made.made ≡ library_made p l a n d h = c.in_ok-made.ensures ∙ ap (object_made d) c.in_ok-moved.ensures in
    let called : ℕ → HeapContents → HeapContents = λ k x. noted p (library_notes p x l a n m k d) x in
    let roots : ℕ → HeapContents → List ℕ = λ k x. reached (called k x) (reset_target (positions l a k d) n) in
    let reset : c.in_ok-reset.reset ≡ library_reset p l a n m d h =
    c.in_ok-reset.ensures.heap ∙ (λ i. reset_roots p (roots (count i) (made i)) (called (count i) (made i))) in
    let starts : HeapContents → List Entry = λ x. owner_entries p pos h x in
    let calls : ℕ → HeapContents → List Entry = λ k x. called_entries p pos x (called k x) in
    let resets : ℕ → HeapContents → List Entry = λ k x. reset_entries p pos (roots k x) (called k x) in
    let births : ℕ → HeapContents → List Entry = λ k x. birth_entries p pos x (library_birth p l a m c.args.position k d x) in
    c.in_ok-after.ensures.lines
    ∙ ap (λ (xs : List Entry). xs ++ births c.next_number-number.result c.in_ok-reset.reset) c.in_ok-reset.ensures.lines
    ∙ ap (λ (xs : List Entry). (xs ++ (calls c.next_number-number.result c.in_ok-made.made ++ resets c.next_number-number.result c.in_ok-made.made)) ++ births c.next_number-number.result c.in_ok-reset.reset) c.in_ok-owner_entries.ensures
    ∙ (λ i. ((old ++ starts (c.in_ok-moved.ensures i)) ++ (calls (count i) (made i) ++ resets (count i) (made i))) ++ births (count i) (reset i))
    ∙ in_turn old (starts (arguments_moved p owners.Library l a n h)) (calls (next_number h) (library_made p l a n d h)) (resets (next_number h) (library_made p l a n d h)) (births (next_number h) (library_reset p l a n m d h))

use Rattle.std.proofs.Common.{◌≡◌, ◌∙◌, ◌++◌, List, ap, append_assoc}
use Rattle.ledger_calls.specs.Calls.{alias_target, operand_of, receiver_note, reset_target}
use Rattle.ledger_entries.specs.Entries.{birth_entries, called_entries, reset_entries}
use Rattle.ledger_obligations.specs.Obligations.{noted, reached, reset_roots}
use Rattle.ledger_state.specs.declared.entry.Entry.{Entry}
use Rattle.ledger_state.specs.Values.{number_of}
use Rattle.ledger_steps.specs.Ends.{call_ended, program_birth, returned_called, returned_reset, returned_roots}
use Rattle.program_model.specs.Lookups.{method_at}
use Rattle.ledger_steps.proofs.call_ends.call_ended.Goals as goal

pub returns-clause-lines : goal.returns-clause-lines
returns-clause-lines c =
    let p = c.args.p.now in
    let pos = c.args.pos in
    let l = c.args.locals.now in
    let a = c.args.action in
    let end = c.args.end in
    let n = method_at c.args.p.now c.args.named in
    let h = c.args.gone.now in
    let old = c.args.lines.now.items in
    let notes : c.deref.result.now ≡ receiver_note l a n = c.deref.ensures.value ∙ c.in_ok-notes.ensures in
    let target : c.reset_by-target.result ≡ reset_target (operand_of l a) n = c.reset_by-target.ensures in
    let alias : c.alias_by-alias.result ≡ alias_target (operand_of l a) n = c.alias_by-alias.ensures in
    let reset : c.in_ok-reset.reset ≡ returned_reset p l a n h =
    c.in_ok-reset.ensures.heap ∙ (λ i. reset_roots p (reached (noted p (notes i) h) (target i)) (noted p (notes i) h)) in
    let after : c.in_ok-after.after ≡ call_ended p c.args.position end.this l a n end.thrown h =
    c.in_ok-after.ensures ∙ (λ i. program_birth p c.args.position a n (number_of end.this) (alias i) end.thrown (reset i)) in
    c.in_ok-birth_entries.ensures
    ∙ ap (λ (xs : List Entry). xs ++ birth_entries p pos c.in_ok-reset.reset c.in_ok-after.after) c.in_ok-reset.ensures.lines
    ∙ (λ i. (old ++ (called_entries p pos h (noted p (notes i) h) ++ reset_entries p pos (reached (noted p (notes i) h) (target i)) (noted p (notes i) h))) ++ birth_entries p pos (reset i) (after i))
    ∙ append_assoc old (called_entries p pos h (returned_called p l a n h) ++ reset_entries p pos (returned_roots p l a n h) (returned_called p l a n h)) (birth_entries p pos (returned_reset p l a n h) (call_ended p c.args.position end.this l a n end.thrown h))

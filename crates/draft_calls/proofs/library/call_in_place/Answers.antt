use Rattle.std.proofs.Common.{◌≡◌, ◌∙◌, ap, ℕ, Option, List, [], ◌∷◌, ◌++◌, Vec, Global, map, reverse}
use Rattle.program_model.specs.Lookups.{method_at}
use Rattle.draft_lines.specs.declared.leaks.Leak.{Leak}
use Rattle.draft_lines.specs.DraftLines.{leak_entries_of}
use Rattle.heap_drafts.proofs.DraftLaws.{drafted_on}
use Rattle.ledger_calls.specs.Calls.{arguments_moved, position_of, reset_target}
use Rattle.ledger_calls.specs.Conducts.{positions}
use Rattle.draft_lines.specs.Entries.{by_number, called_entries, leak_entries, owner_entries}
use Rattle.ledger_obligations.specs.Obligations.{held_in, lose}
use Rattle.ledger_state.specs.declared.entry.Entry.{Entry}
use Rattle.ledger_state.specs.declared.entry.LeakWord.TheVariants as words
use Rattle.ledger_state.specs.declared.entry.Owner.TheVariants as owners
use Rattle.ledger_state.specs.Locals.{held}
use Rattle.draft_steps.specs.CallSteps.{library_called, library_done, library_entries, library_heap, library_made}
use Rattle.draft_calls.proofs.LibraryLaws.{call_born, call_lines, drafted_four, drafted_three, indexed_rest, library_rest, no_leaks, some_on}
use Rattle.draft_calls.proofs.library.call_in_place.Goals as goal

pub draft_reset-requires : goal.draft_reset-requires
draft_reset-requires c = indexed_rest c.args.index.now c.args.saved.now.items c.call_noted.new.saved.items c.args.heap.now c.call_noted.new.heap c.requires.indexed c.call_noted.ensures.drafted

pub draft_end-requires-clause-rest : goal.draft_end-requires-clause-rest
draft_end-requires-clause-rest c =
    library_rest c.args.saved.now.items c.born.new.saved.items c.args.heap.now c.born.new.heap (held c.args.locals.now) (held c.args.top.now) (map held_in (reverse c.args.below.now)) c.deref.result.now c.requires.settled
    (drafted_three c.args.saved.now.items c.call_noted.new.saved.items c.draft_reset.new.saved.items c.born.new.saved.items c.args.heap.now c.call_noted.new.heap c.draft_reset.new.heap c.born.new.heap c.call_noted.ensures.drafted c.draft_reset.ensures.drafted c.born.ensures.drafted)
    (c.deref.ensures.value ∙ c.in_ok-roots.ensures)

pub draft_end-requires-clause-leaks : goal.draft_end-requires-clause-leaks
draft_end-requires-clause-leaks c = no_leaks c.born.new.heap c.new-leaks.result.items c.new-leaks.ensures.items

pub returns-in_err-draft_reset-clause-drafted : goal.returns-in_err-draft_reset-clause-drafted
returns-in_err-draft_reset-clause-drafted c =
    drafted_on c.args.saved.now.items c.args.heap.now c.call_noted.new.saved.items c.call_noted.new.heap c.draft_reset.new.saved.items c.draft_reset.new.heap c.call_noted.ensures.drafted c.draft_reset.ensures.drafted

pub returns-in_err-born-clause-drafted : goal.returns-in_err-born-clause-drafted
returns-in_err-born-clause-drafted c =
    drafted_three c.args.saved.now.items c.call_noted.new.saved.items c.draft_reset.new.saved.items c.born.new.saved.items c.args.heap.now c.call_noted.new.heap c.draft_reset.new.heap c.born.new.heap c.call_noted.ensures.drafted c.draft_reset.ensures.drafted c.born.ensures.drafted

pub returns-in_err-every_line-clause-drafted : goal.returns-in_err-every_line-clause-drafted
returns-in_err-every_line-clause-drafted c =
    drafted_four c.args.saved.now.items c.call_noted.new.saved.items c.draft_reset.new.saved.items c.born.new.saved.items c.draft_end.new.saved.items c.args.heap.now c.call_noted.new.heap c.draft_reset.new.heap c.born.new.heap c.draft_end.new.heap c.call_noted.ensures.drafted c.draft_reset.ensures.drafted c.born.ensures.drafted c.draft_end.ensures.drafted

pub returns-clause-drafted : goal.returns-clause-drafted
returns-clause-drafted c =
    drafted_four c.args.saved.now.items c.call_noted.new.saved.items c.draft_reset.new.saved.items c.born.new.saved.items c.draft_end.new.saved.items c.args.heap.now c.call_noted.new.heap c.draft_reset.new.heap c.born.new.heap c.draft_end.new.heap c.call_noted.ensures.drafted c.draft_reset.ensures.drafted c.born.ensures.drafted c.draft_end.ensures.drafted

pub returns-clause-heap : goal.returns-clause-heap
returns-clause-heap c =
    let p = c.args.p.now in
    let l = c.args.locals.now in
    let a = c.args.call.action in
    let named = method_at p c.args.call.named in
    let m = method_at p c.args.call.method in
    let d = c.args.call.conduct in
    let list = held c.args.top.now ∷ map held_in (reverse c.args.below.now) in
    let aim : c.reset_target-target.result ≡ reset_target (positions l a c.next_number-number.result d) named = c.reset_target-target.ensures ∙ ap (λ (o : Option ℕ). reset_target (position_of o l a) named) c.made_by_new-made.ensures in
    let born : c.born.new.heap ≡ library_heap p l a named m d c.args.call.position c.args.heap.now = call_born p l a named m d c.args.call.position c.args.heap.now c.call_noted.new.heap c.draft_reset.new.heap c.born.new.heap c.reset_target-target.result c.next_number-number.result (c.in_ok-call_noted.ensures.heap c.if-not-branch.false) aim c.next_number-number.ensures (c.in_ok-draft_reset.ensures.heap c.if-not-branch-2.false) (c.in_ok-born.ensures.heap c.if-not-branch-3.false) in
    some_on c.in_ok-every_line.every_line (λ (v : Vec Entry Global). c.draft_end.new.heap ≡ lose list c.born.new.heap) (λ (v : Vec Entry Global). c.draft_end.new.heap ≡ lose list (library_heap p l a named m d c.args.call.position c.args.heap.now))
    (λ v e. e ∙ ap (lose list) born) c.in_ok-every_line.ensures.heap

pub returns-clause-lines : goal.returns-clause-lines
returns-clause-lines c =
    let p = c.args.p.now in
    let h = c.args.heap.now in
    let l = c.args.locals.now in
    let pos = c.args.call.pos in
    let a = c.args.call.action in
    let named = method_at p c.args.call.named in
    let m = method_at p c.args.call.method in
    let d = c.args.call.conduct in
    let j = c.args.call.position in
    let list = held c.args.top.now ∷ map held_in (reverse c.args.below.now) in
    let aim : c.reset_target-target.result ≡ reset_target (positions l a c.next_number-number.result d) named = c.reset_target-target.ensures ∙ ap (λ (o : Option ℕ). reset_target (position_of o l a) named) c.made_by_new-made.ensures in
    let first = c.in_ok-call_noted.ensures.heap c.if-not-branch.false in
    let second = c.in_ok-draft_reset.ensures.heap c.if-not-branch-2.false in
    let third = c.in_ok-born.ensures.heap c.if-not-branch-3.false in
    let born : c.born.new.heap ≡ library_heap p l a named m d j h = call_born p l a named m d j h c.call_noted.new.heap c.draft_reset.new.heap c.born.new.heap c.reset_target-target.result c.next_number-number.result first aim c.next_number-number.ensures second third in
    let owners' = owner_entries p pos h (arguments_moved p owners.Library l a named h) in
    let called' = called_entries p pos (library_made p l a named d h) (library_called p l a named m d h) in
    let begun : c.call_noted.new.lines.items ≡ owners' ++ called' = c.in_ok-call_noted.ensures.lines c.if-not-branch.false ∙ ap (λ (es : List Entry). es ++ owners' ++ called') c.new-lines.ensures.items in
    let lines : c.born.new.lines.items ≡ library_entries p pos l a named m d j h = call_lines p pos l a named m d j h c.call_noted.new.heap c.draft_reset.new.heap c.born.new.heap c.reset_target-target.result c.next_number-number.result c.call_noted.new.lines.items c.draft_reset.new.lines.items c.born.new.lines.items first aim c.next_number-number.ensures second third begun (c.in_ok-draft_reset.ensures.lines c.if-not-branch-2.false) (c.in_ok-born.ensures.lines c.if-not-branch-3.false) in
    let leaks : leak_entries_of c.new-leaks.result.items ≡ [] = ap (λ (ls : List Leak). leak_entries_of ls) c.new-leaks.ensures.items in
    some_on c.in_ok-every_line.every_line (λ (v : Vec Entry Global). v.items ≡ c.born.new.lines.items ++ by_number (lose list c.born.new.heap) (leak_entries_of c.new-leaks.result.items ++ leak_entries p words.Lost pos c.born.new.heap (lose list c.born.new.heap)))
    (λ (v : Vec Entry Global). v.items ≡ (library_done p h l a named m d j pos list).lines)
    (λ v e. e ∙ (λ i. lines i ++ by_number (lose list (born i)) (leaks i ++ leak_entries p words.Lost pos (born i) (lose list (born i))))) c.in_ok-every_line.ensures.lines

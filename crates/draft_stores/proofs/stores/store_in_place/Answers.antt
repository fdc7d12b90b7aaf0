use Rattle.std.proofs.Common.{◌≡◌, ◌∙◌, ◌∷◌, ◌++◌, Vec, Global, map, reverse}
use Rattle.draft_lines.specs.DraftLines.{leak_entries_of}
use Rattle.ledger_steps.specs.Entries.{by_number, leak_entries}
use Rattle.ledger_obligations.specs.Obligations.{held_in, lose}
use Rattle.ledger_state.specs.declared.entry.Entry.{Entry}
use Rattle.ledger_state.specs.declared.entry.LeakWord.TheVariants as words
use Rattle.ledger_state.specs.Locals.{held}
use Rattle.ledger_steps.specs.Effects.{left}
use Rattle.draft_stores.specs.OwningStores.{store_leaks, store_left, store_written}
use Rattle.draft_stores.proofs.StoreLaws.{some_on, store_rest}
use Rattle.draft_stores.proofs.stores.store_in_place.Goals as goal

pub draft_end-requires-clause-rest : goal.draft_end-requires-clause-rest
draft_end-requires-clause-rest c =
    store_rest c.args.saved.now.items c.changed_in_place.new.saved.items c.args.heap.now c.changed_in_place.new.heap (held c.args.locals.now) (held c.args.now.now) (map held_in (reverse c.args.below.now)) c.deref.result.now c.requires.settled c.changed_in_place.ensures.drafted (c.deref.ensures.value ∙ c.in_ok-roots.ensures)

pub returns-clause-lines : goal.returns-clause-lines
returns-clause-lines c =
    let p = c.args.p.now in
    let h = c.args.heap.now in
    let pos = c.args.pos in
    let g = c.changed_in_place.new.heap in
    let list = held c.args.now.now ∷ map held_in (reverse c.args.below.now) in
    let heap : g ≡ store_left p h c.args.s = rw c.in-Some.is at c.in_ok-changed.ensures.heap in
    let lines : c.in-Some.found.lines.items ≡ store_written p pos h c.args.s = rw c.in-Some.is at c.in_ok-changed.ensures.lines in
    let leaks : leak_entries_of c.in-Some.found.leaks.items ≡ store_leaks p pos h c.args.s = rw c.in-Some.is at c.in_ok-changed.ensures.leaks in
    some_on c.in_ok-every_line-in-Some.every_line
    (λ (v : Vec Entry Global). v.items ≡ c.in-Some.found.lines.items ++ by_number (lose list g) (leak_entries_of c.in-Some.found.leaks.items ++ leak_entries p words.Lost pos g (lose list g)))
    (λ (v : Vec Entry Global). v.items ≡ (left p pos list (store_written p pos h c.args.s) (store_leaks p pos h c.args.s) (store_left p h c.args.s)).lines)
    (λ v e. e ∙ (λ i. lines i ++ by_number (lose list (heap i)) (leaks i ++ leak_entries p words.Lost pos (heap i) (lose list (heap i)))))
    c.in_ok-every_line-in-Some.ensures.lines

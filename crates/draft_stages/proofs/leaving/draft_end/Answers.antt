use Rattle.std.proofs.Common.{◌≡◌, ◌∙◌, ap, sym, subst, ℕ, List, ◌∷◌, ◌++◌, length, map, reverse, true, arith}
use Rattle.draft_lines.specs.declared.change.ObjectChange.{ObjectChange}
use Rattle.draft_lines.specs.declared.leaks.Leak.{Leak}
use Rattle.draft_lines.specs.DraftLines.{AllOfHeap, Changes, leak_changes, leak_entries_of}
use Rattle.draft_lines.proofs.LeakLaws.{leak_between, leak_entries_append}
use Rattle.heap_drafts.specs.declared.saved.SavedObject.{SavedObject}
use Rattle.heap_drafts.specs.Drafts.{HasNumbers, numbers_rise}
use Rattle.draft_lines.specs.Entries.{by_number, leak_entries}
use Rattle.ledger_obligations.specs.Obligations.{held_in, lose}
use Rattle.ledger_state.specs.declared.entry.Entry.{Entry}
use Rattle.ledger_state.specs.declared.entry.LeakWord.TheVariants as words
use Rattle.ledger_state.specs.Contents.{HeapContents}
use Rattle.ledger_state.specs.Locals.{held}
use Rattle.draft_stages.specs.Stages.{saved_numbers}
use Rattle.draft_stages.proofs.StageLaws.{every_of_heap, rest_is_settled, rows_after}
use Rattle.draft_stages.proofs.leaving.draft_end.Goals as goal

pub lose_among-requires : goal.lose_among-requires
lose_among-requires c =
    let first : HasNumbers c.args.roots.now c.deref-2.result.now = subst (λ (ns : List ℕ). HasNumbers c.args.roots.now ns) (sym c.deref-2.ensures.value) c.in_ok-numbers.ensures.roots in
    let saved : HasNumbers (saved_numbers c.args.saved.now.items) c.in_ok-numbers.numbers.items = subst (λ (bs : List SavedObject). HasNumbers (saved_numbers bs) c.in_ok-numbers.numbers.items) c.deref.ensures.value c.in_ok-numbers.ensures.saved in
    let second : HasNumbers (saved_numbers c.args.saved.now.items) c.deref-2.result.now = subst (λ (ns : List ℕ). HasNumbers (saved_numbers c.args.saved.now.items) ns) (sym c.deref-2.ensures.value) saved in
    rest_is_settled c.args.heap.now (held c.args.top.now ∷ map held_in (reverse c.args.below.now)) c.args.saved.now.items c.args.roots.now c.deref-2.result.now first second c.requires.rest

pub returns-clause-lines : goal.returns-clause-lines
returns-clause-lines c =
    let p = c.args.p.now in
    let h = c.args.heap.now in
    let g = c.lose_among.new.heap in
    let list = held c.args.top.now ∷ map held_in (reverse c.args.below.now) in
    let rise : numbers_rise 0 c.deref-2.result.now ≡ true = ap (numbers_rise 0) c.deref-2.ensures.value ∙ c.in_ok-numbers.ensures.rise in
    let start : c.len-from.result ≡ length c.args.saved.now.items = omega arith in
    let changes : Changes h g c.in_ok-rows.rows.items = rows_after c.args.saved.now.items c.lose_among.new.saved.items h g c.deref-2.result.now c.in_ok-rows.rows.items c.len-from.result (c.in_ok-lose_among.ensures.saved c.if-not-branch.false) start c.in_ok-rows.ensures rise (c.in_ok-lose_among.ensures.among c.if-not-branch.false) in
    let lost : g ≡ lose list h = c.in_ok-lose_among.ensures.heap c.if-not-branch.false in
    let leaks : c.add_leaks.new.into.items ≡ c.args.leaks.items ++ leak_changes p words.Lost c.args.pos c.in_ok-rows.rows.items = c.in_ok-add_leaks.ensures ∙ ap (λ (rs : List ObjectChange). c.args.leaks.items ++ leak_changes p words.Lost c.args.pos rs) c.deref-3.ensures.value in
    let all : AllOfHeap g c.add_leaks.new.into.items = subst (λ (ls : List Leak). AllOfHeap g ls) (sym leaks) (every_of_heap p words.Lost c.args.pos h g c.args.leaks.items c.in_ok-rows.rows.items c.deref-2.result.now (c.in_ok-lose_among.ensures.among c.if-not-branch.false) changes c.requires.leaks) in
    let entries : leak_entries_of c.add_leaks.new.into.items ≡ leak_entries_of c.args.leaks.items ++ leak_entries p words.Lost c.args.pos h g = ap (λ (ls : List Leak). leak_entries_of ls) leaks ∙ leak_entries_append c.args.leaks.items (leak_changes p words.Lost c.args.pos c.in_ok-rows.rows.items) ∙ ap (λ (es : List Entry). leak_entries_of c.args.leaks.items ++ es) (sym (leak_between p words.Lost c.args.pos h g c.in_ok-rows.rows.items changes)) in
    c.in_ok-add_by_number.ensures g all
    ∙ ap (λ (es : List Entry). c.args.lines.items ++ by_number g es) entries
    ∙ ap (λ (i : HeapContents). c.args.lines.items ++ by_number i (leak_entries_of c.args.leaks.items ++ leak_entries p words.Lost c.args.pos h i)) lost

use Rattle.std.proofs.Common.{◌≡◌, ◌∙◌, ap, sym, subst, List, ◌++◌, length, arith}
use Rattle.program_model.specs.Lookups.{optional}
use Rattle.draft_lines.specs.declared.leaks.Leak.{Leak}
use Rattle.draft_lines.specs.DraftLines.{AllOfHeap, Changes, leak_changes, leak_entries_of}
use Rattle.draft_lines.proofs.LeakLaws.{leak_between, leaks_of_heap}
use Rattle.draft_stages.proofs.StageLaws.{rows_after}
use Rattle.heap_drafts.proofs.DraftLaws.{drafted_by}
use Rattle.ledger_steps.specs.Entries.{leak_entries}
use Rattle.ledger_state.specs.declared.entry.LeakWord.TheVariants as words
use Rattle.ledger_state.specs.Contents.{HeapContents}
use Rattle.draft_stores.proofs.StoreLaws.{released_among, root_rises}
use Rattle.draft_stores.proofs.stages.draft_release.Goals as goal

pub returns-in_err-rows-clause-drafted : goal.returns-in_err-rows-clause-drafted
returns-in_err-rows-clause-drafted c =
    drafted_by c.args.saved.now.items c.save_root.new.saved.items c.args.heap.now c.release.new.heap (optional c.args.root) c.in_ok-save_root.ensures.ok (released_among c.args.released c.args.root c.args.heap.now c.release.new.heap c.release.ensures)

pub returns-in_err-add_leaks-clause-drafted : goal.returns-in_err-add_leaks-clause-drafted
returns-in_err-add_leaks-clause-drafted c =
    drafted_by c.args.saved.now.items c.save_root.new.saved.items c.args.heap.now c.release.new.heap (optional c.args.root) c.in_ok-save_root.ensures.ok (released_among c.args.released c.args.root c.args.heap.now c.release.new.heap c.release.ensures)

pub returns-clause-drafted : goal.returns-clause-drafted
returns-clause-drafted c =
    drafted_by c.args.saved.now.items c.save_root.new.saved.items c.args.heap.now c.release.new.heap (optional c.args.root) c.in_ok-save_root.ensures.ok (released_among c.args.released c.args.root c.args.heap.now c.release.new.heap c.release.ensures)

pub returns-clause-leaks : goal.returns-clause-leaks
returns-clause-leaks c =
    let p = c.args.p.now in
    let h = c.args.heap.now in
    let g = c.release.new.heap in
    let start : c.len-from.result ≡ length c.args.saved.now.items = omega arith in
    let changes : Changes h g c.in_ok-rows.rows.items = rows_after c.args.saved.now.items c.save_root.new.saved.items h g (optional c.args.root) c.in_ok-rows.rows.items c.len-from.result c.in_ok-save_root.ensures.ok start c.in_ok-rows.ensures (root_rises c.args.root (sym c.is_zero.ensures ∙ c.if-is_zero.false)) (released_among c.args.released c.args.root h g c.release.ensures) in
    let leaks : c.add_leaks.new.into.items ≡ leak_changes p words.Overwritten c.args.pos c.in_ok-rows.rows.items = c.in_ok-add_leaks.ensures ∙ (λ i. c.new-leaks.ensures.items i ++ leak_changes p words.Overwritten c.args.pos (c.deref.ensures.value i)) in
    ap (λ (ls : List Leak). leak_entries_of ls) leaks
    ∙ sym (leak_between p words.Overwritten c.args.pos h g c.in_ok-rows.rows.items changes)
    ∙ ap (λ (i : HeapContents). leak_entries p words.Overwritten c.args.pos h i) c.release.ensures

pub returns-clause-all : goal.returns-clause-all
returns-clause-all c =
    let p = c.args.p.now in
    let h = c.args.heap.now in
    let g = c.release.new.heap in
    let start : c.len-from.result ≡ length c.args.saved.now.items = omega arith in
    let changes : Changes h g c.in_ok-rows.rows.items = rows_after c.args.saved.now.items c.save_root.new.saved.items h g (optional c.args.root) c.in_ok-rows.rows.items c.len-from.result c.in_ok-save_root.ensures.ok start c.in_ok-rows.ensures (root_rises c.args.root (sym c.is_zero.ensures ∙ c.if-is_zero.false)) (released_among c.args.released c.args.root h g c.release.ensures) in
    let leaks : c.add_leaks.new.into.items ≡ leak_changes p words.Overwritten c.args.pos c.in_ok-rows.rows.items = c.in_ok-add_leaks.ensures ∙ (λ i. c.new-leaks.ensures.items i ++ leak_changes p words.Overwritten c.args.pos (c.deref.ensures.value i)) in
    subst (λ (ls : List Leak). AllOfHeap g ls) (sym leaks) (leaks_of_heap p words.Overwritten c.args.pos h g c.in_ok-rows.rows.items changes.between)

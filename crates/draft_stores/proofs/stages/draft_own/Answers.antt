use Rattle.std.proofs.Common.{◌≡◌, ◌∙◌, ap, sym, List, ◌++◌, length, arith}
use Rattle.program_model.specs.Lookups.{optional}
use Rattle.draft_lines.specs.declared.change.ObjectChange.{ObjectChange}
use Rattle.draft_lines.specs.DraftLines.{Changes, owner_changes}
use Rattle.draft_lines.proofs.ChangedLines.{owner_between}
use Rattle.draft_stages.proofs.StageLaws.{rows_after}
use Rattle.heap_drafts.proofs.DraftLaws.{drafted_by}
use Rattle.ledger_steps.specs.Entries.{owner_entries}
use Rattle.ledger_state.specs.Contents.{HeapContents}
use Rattle.draft_stores.proofs.StoreLaws.{moved_among, root_rises}
use Rattle.draft_stores.proofs.stages.draft_own.Goals as goal

pub returns-in_err-rows-clause-drafted : goal.returns-in_err-rows-clause-drafted
returns-in_err-rows-clause-drafted c =
    drafted_by c.args.saved.now.items c.save_root.new.saved.items c.args.heap.now c.own.new.heap (optional c.args.root) c.in_ok-save_root.ensures.ok (moved_among c.args.moved c.args.root c.args.owner c.args.heap.now c.own.new.heap c.own.ensures)

pub returns-in_err-add_owner_lines-clause-drafted : goal.returns-in_err-add_owner_lines-clause-drafted
returns-in_err-add_owner_lines-clause-drafted c =
    drafted_by c.args.saved.now.items c.save_root.new.saved.items c.args.heap.now c.own.new.heap (optional c.args.root) c.in_ok-save_root.ensures.ok (moved_among c.args.moved c.args.root c.args.owner c.args.heap.now c.own.new.heap c.own.ensures)

pub returns-clause-drafted : goal.returns-clause-drafted
returns-clause-drafted c =
    drafted_by c.args.saved.now.items c.save_root.new.saved.items c.args.heap.now c.own.new.heap (optional c.args.root) c.in_ok-save_root.ensures.ok (moved_among c.args.moved c.args.root c.args.owner c.args.heap.now c.own.new.heap c.own.ensures)

pub returns-clause-lines : goal.returns-clause-lines
returns-clause-lines c =
    λ e.
    let p = c.args.p.now in
    let h = c.args.heap.now in
    let g = c.own.new.heap in
    let start : c.len-from.result ≡ length c.args.saved.now.items = omega arith in
    let changes : Changes h g c.in_ok-rows.rows.items = rows_after c.args.saved.now.items c.save_root.new.saved.items h g (optional c.args.root) c.in_ok-rows.rows.items c.len-from.result c.in_ok-save_root.ensures.ok start c.in_ok-rows.ensures (root_rises c.args.root (sym c.is_zero.ensures ∙ c.if-is_zero.false)) (moved_among c.args.moved c.args.root c.args.owner h g c.own.ensures) in
    c.in_ok-add_owner_lines.ensures
    ∙ ap (λ (rs : List ObjectChange). c.args.lines.now.items ++ owner_changes p c.args.pos rs) c.deref.ensures.value
    ∙ ap (λ es. c.args.lines.now.items ++ es) (sym (owner_between p c.args.pos h g c.in_ok-rows.rows.items changes))
    ∙ ap (λ (i : HeapContents). c.args.lines.now.items ++ owner_entries p c.args.pos h i) c.own.ensures

use Rattle.std.proofs.Common.{◌≡◌, ◌∙◌, ap, sym, List, ◌++◌, length, true, arith}
use Rattle.program_model.specs.Lookups.{method_at}
use Rattle.draft_lines.specs.declared.change.ObjectChange.{ObjectChange}
use Rattle.draft_lines.specs.DraftLines.{Changes, owner_changes}
use Rattle.draft_lines.proofs.ChangedLines.{owner_between}
use Rattle.heap_drafts.specs.Drafts.{ChangesAmong, numbers_rise}
use Rattle.heap_drafts.proofs.DraftLaws.{drafted_by}
use Rattle.draft_lines.specs.Entries.{owner_entries}
use Rattle.ledger_state.specs.Contents.{HeapContents}
use Rattle.draft_stages.proofs.MoveLaws.{moved_among}
use Rattle.draft_stages.proofs.StageLaws.{rows_after}
use Rattle.draft_stages.proofs.arguments.draft_arguments.Goals as goal

pub returns-in_err-rows-clause-drafted : goal.returns-in_err-rows-clause-drafted
returns-in_err-rows-clause-drafted c =
    drafted_by c.args.saved.now.items c.save.new.saved.items c.args.heap.now c.move_arguments.new.heap c.deref.result.now c.in_ok-save.ensures.ok
    (moved_among c.args.p.now c.args.owner c.args.locals.now c.args.action (method_at c.args.p.now c.args.named) c.args.heap.now c.move_arguments.new.heap c.deref.result.now c.in_ok-roots.roots.items c.deref.ensures.value c.in_ok-roots.ensures.all c.move_arguments.ensures)

pub returns-in_err-add_owner_lines-clause-drafted : goal.returns-in_err-add_owner_lines-clause-drafted
returns-in_err-add_owner_lines-clause-drafted c =
    drafted_by c.args.saved.now.items c.save.new.saved.items c.args.heap.now c.move_arguments.new.heap c.deref.result.now c.in_ok-save.ensures.ok
    (moved_among c.args.p.now c.args.owner c.args.locals.now c.args.action (method_at c.args.p.now c.args.named) c.args.heap.now c.move_arguments.new.heap c.deref.result.now c.in_ok-roots.roots.items c.deref.ensures.value c.in_ok-roots.ensures.all c.move_arguments.ensures)

pub returns-clause-drafted : goal.returns-clause-drafted
returns-clause-drafted c =
    drafted_by c.args.saved.now.items c.save.new.saved.items c.args.heap.now c.move_arguments.new.heap c.deref.result.now c.in_ok-save.ensures.ok
    (moved_among c.args.p.now c.args.owner c.args.locals.now c.args.action (method_at c.args.p.now c.args.named) c.args.heap.now c.move_arguments.new.heap c.deref.result.now c.in_ok-roots.roots.items c.deref.ensures.value c.in_ok-roots.ensures.all c.move_arguments.ensures)

pub returns-clause-lines : goal.returns-clause-lines
returns-clause-lines c =
    let p = c.args.p.now in
    let h = c.args.heap.now in
    let g = c.move_arguments.new.heap in
    let among : ChangesAmong c.deref.result.now h g = moved_among p c.args.owner c.args.locals.now c.args.action (method_at p c.args.named) h g c.deref.result.now c.in_ok-roots.roots.items c.deref.ensures.value c.in_ok-roots.ensures.all c.move_arguments.ensures in
    let rise : numbers_rise 0 c.deref.result.now ≡ true = ap (numbers_rise 0) c.deref.ensures.value ∙ c.in_ok-roots.ensures.rise in
    let start : c.len-from.result ≡ length c.args.saved.now.items = omega arith in
    let changes : Changes h g c.in_ok-rows.rows.items = rows_after c.args.saved.now.items c.save.new.saved.items h g c.deref.result.now c.in_ok-rows.rows.items c.len-from.result c.in_ok-save.ensures.ok start c.in_ok-rows.ensures rise among in
    c.in_ok-add_owner_lines.ensures
    ∙ ap (λ (rs : List ObjectChange). c.args.lines.now.items ++ owner_changes p c.args.pos rs) c.deref-2.ensures.value
    ∙ ap (λ es. c.args.lines.now.items ++ es) (sym (owner_between p c.args.pos h g c.in_ok-rows.rows.items changes))
    ∙ ap (λ (i : HeapContents). c.args.lines.now.items ++ owner_entries p c.args.pos h i) c.move_arguments.ensures

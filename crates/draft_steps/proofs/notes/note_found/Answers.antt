use Rattle.std.proofs.Common.{◌≡◌, ◌∙◌, ap, sym, List, ◌++◌, length, true, arith}
use Rattle.draft_lines.specs.declared.change.ObjectChange.{ObjectChange}
use Rattle.draft_lines.specs.DraftLines.{Changes, called_changes}
use Rattle.draft_lines.proofs.ChangedLines.{called_between}
use Rattle.draft_stages.proofs.StageLaws.{rows_after}
use Rattle.heap_drafts.specs.Drafts.{ChangesAmong, numbers_rise}
use Rattle.heap_drafts.proofs.DraftLaws.{drafted_by}
use Rattle.draft_lines.specs.Entries.{called_entries}
use Rattle.ledger_state.specs.Contents.{HeapContents}
use Rattle.draft_steps.proofs.NoteStages.{found_among, notes_rise}
use Rattle.draft_steps.proofs.notes.note_found.Goals as goal

pub returns-in_err-rows-clause-drafted : goal.returns-in_err-rows-clause-drafted
returns-in_err-rows-clause-drafted c =
    drafted_by c.args.saved.now.items c.save.new.saved.items c.args.heap.now c.put_each.new.heap c.deref.result.now c.in_ok-save.ensures.ok
    (found_among c.args.p.now c.args.heap.now c.put_each.new.heap c.args.notes.now c.args.objects.now c.deref.result.now c.in_ok-numbers.numbers.items c.requires c.deref.ensures.value c.in_ok-numbers.ensures c.put_each.ensures)

pub returns-in_err-add_called_lines-clause-drafted : goal.returns-in_err-add_called_lines-clause-drafted
returns-in_err-add_called_lines-clause-drafted c =
    drafted_by c.args.saved.now.items c.save.new.saved.items c.args.heap.now c.put_each.new.heap c.deref.result.now c.in_ok-save.ensures.ok
    (found_among c.args.p.now c.args.heap.now c.put_each.new.heap c.args.notes.now c.args.objects.now c.deref.result.now c.in_ok-numbers.numbers.items c.requires c.deref.ensures.value c.in_ok-numbers.ensures c.put_each.ensures)

pub returns-clause-drafted : goal.returns-clause-drafted
returns-clause-drafted c =
    drafted_by c.args.saved.now.items c.save.new.saved.items c.args.heap.now c.put_each.new.heap c.deref.result.now c.in_ok-save.ensures.ok
    (found_among c.args.p.now c.args.heap.now c.put_each.new.heap c.args.notes.now c.args.objects.now c.deref.result.now c.in_ok-numbers.numbers.items c.requires c.deref.ensures.value c.in_ok-numbers.ensures c.put_each.ensures)

pub returns-clause-lines : goal.returns-clause-lines
returns-clause-lines c =
    let p = c.args.p.now in
    let h = c.args.heap.now in
    let g = c.put_each.new.heap in
    let among : ChangesAmong c.deref.result.now h g = found_among p h g c.args.notes.now c.args.objects.now c.deref.result.now c.in_ok-numbers.numbers.items c.requires c.deref.ensures.value c.in_ok-numbers.ensures c.put_each.ensures in
    let rise : numbers_rise 0 c.deref.result.now ≡ true = ap (numbers_rise 0) (c.deref.ensures.value ∙ c.in_ok-numbers.ensures) ∙ notes_rise p h c.args.notes.now c.args.objects.now c.requires in
    let start : c.len-from.result ≡ length c.args.saved.now.items = omega arith in
    let changes : Changes h g c.in_ok-rows.rows.items = rows_after c.args.saved.now.items c.save.new.saved.items h g c.deref.result.now c.in_ok-rows.rows.items c.len-from.result c.in_ok-save.ensures.ok start c.in_ok-rows.ensures rise among in
    c.in_ok-add_called_lines.ensures
    ∙ ap (λ (rs : List ObjectChange). c.args.lines.now.items ++ called_changes p c.args.pos rs) c.deref-2.ensures.value
    ∙ ap (λ es. c.args.lines.now.items ++ es) (sym (called_between p c.args.pos h g c.in_ok-rows.rows.items changes))
    ∙ ap (λ (i : HeapContents). c.args.lines.now.items ++ called_entries p c.args.pos h i) c.put_each.ensures

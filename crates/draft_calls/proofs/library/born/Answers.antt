use Rattle.std.proofs.Common.{◌≡◌, ◌∙◌, ap, sym, List, [], ◌∷◌, ◌++◌, length, arith}
use Rattle.program_model.specs.Lookups.{method_at}
use Rattle.draft_lines.specs.declared.change.ObjectChange.{ObjectChange}
use Rattle.draft_lines.specs.DraftLines.{Changes, birth_changes}
use Rattle.draft_lines.proofs.ChangedLines.{birth_between}
use Rattle.draft_stages.proofs.StageLaws.{rows_after}
use Rattle.heap_drafts.specs.Drafts.{ChangesAmong}
use Rattle.heap_drafts.proofs.DraftLaws.{drafted_by}
use Rattle.draft_lines.specs.Entries.{birth_entries}
use Rattle.ledger_state.specs.Contents.{HeapContents}
use Rattle.draft_calls.proofs.LibraryLaws.{birth_drafted, one_rises}
use Rattle.draft_calls.proofs.library.born.Goals as goal

pub returns-in_err-rows-clause-drafted : goal.returns-in_err-rows-clause-drafted
returns-in_err-rows-clause-drafted c =
    drafted_by c.args.saved.now.items c.save_one.new.saved.items c.args.heap.now c.library_birth.new.heap (c.args.number ∷ []) c.in_ok-save_one.ensures.ok
    (birth_drafted c.args.p.now c.args.locals.now c.args.call.action (method_at c.args.p.now c.args.call.method) c.args.call.position c.args.number c.args.call.conduct c.args.heap.now c.library_birth.new.heap (sym c.has_link.ensures ∙ c.if-has_link.false) c.library_birth.ensures)

pub returns-in_err-add_birth_lines-clause-drafted : goal.returns-in_err-add_birth_lines-clause-drafted
returns-in_err-add_birth_lines-clause-drafted c =
    drafted_by c.args.saved.now.items c.save_one.new.saved.items c.args.heap.now c.library_birth.new.heap (c.args.number ∷ []) c.in_ok-save_one.ensures.ok
    (birth_drafted c.args.p.now c.args.locals.now c.args.call.action (method_at c.args.p.now c.args.call.method) c.args.call.position c.args.number c.args.call.conduct c.args.heap.now c.library_birth.new.heap (sym c.has_link.ensures ∙ c.if-has_link.false) c.library_birth.ensures)

pub returns-clause-drafted : goal.returns-clause-drafted
returns-clause-drafted c =
    drafted_by c.args.saved.now.items c.save_one.new.saved.items c.args.heap.now c.library_birth.new.heap (c.args.number ∷ []) c.in_ok-save_one.ensures.ok
    (birth_drafted c.args.p.now c.args.locals.now c.args.call.action (method_at c.args.p.now c.args.call.method) c.args.call.position c.args.number c.args.call.conduct c.args.heap.now c.library_birth.new.heap (sym c.has_link.ensures ∙ c.if-has_link.false) c.library_birth.ensures)

pub returns-clause-lines : goal.returns-clause-lines
returns-clause-lines c =
    λ e.
    let p = c.args.p.now in
    let h = c.args.heap.now in
    let g = c.library_birth.new.heap in
    let among : ChangesAmong (c.args.number ∷ []) h g = birth_drafted p c.args.locals.now c.args.call.action (method_at p c.args.call.method) c.args.call.position c.args.number c.args.call.conduct h g (sym c.has_link.ensures ∙ c.if-has_link.false) c.library_birth.ensures in
    let start : c.len-from.result ≡ length c.args.saved.now.items = omega arith in
    let changes : Changes h g c.in_ok-rows.rows.items = rows_after c.args.saved.now.items c.save_one.new.saved.items h g (c.args.number ∷ []) c.in_ok-rows.rows.items c.len-from.result c.in_ok-save_one.ensures.ok start c.in_ok-rows.ensures (one_rises c.args.number c.requires) among in
    c.in_ok-add_birth_lines.ensures
    ∙ ap (λ (rs : List ObjectChange). c.args.lines.now.items ++ birth_changes p c.args.call.pos rs) c.deref.ensures.value
    ∙ ap (λ es. c.args.lines.now.items ++ es) (sym (birth_between p c.args.call.pos h g c.in_ok-rows.rows.items changes))
    ∙ ap (λ (i : HeapContents). c.args.lines.now.items ++ birth_entries p c.args.call.pos h i) c.library_birth.ensures

use Rattle.std.proofs.Common.{◌≡◌, ◌∙◌, ap, List, ◌∷◌, [], ◌++◌, length, true, arith}
use Rattle.program_model.specs.Lookups.{method_at}
use Rattle.draft_lines.specs.declared.change.ObjectChange.{ObjectChange}
use Rattle.draft_lines.specs.DraftLines.{owner_changes}
use Rattle.heap_drafts.specs.Drafts.{ChangesAmong, numbers_rise, roots_of}
use Rattle.heap_drafts.proofs.DraftLaws.{drafted_by}
use Rattle.ledger_steps.specs.Ends.{result_moved}
use Rattle.draft_returns.proofs.ResultLaws.{numbers_as, owners_after, result_among}
use Rattle.draft_returns.proofs.results.draft_result.Goals as goal

pub returns-in_err-rows-clause-drafted : goal.returns-in_err-rows-clause-drafted
returns-in_err-rows-clause-drafted c =
    let has = numbers_as (roots_of c.args.heap.now (c.args.end.value ∷ [])) c.deref.result.now c.in_ok-roots.roots.items c.deref.ensures.value c.in_ok-roots.ensures.all in
    drafted_by c.args.saved.now.items c.save.new.saved.items c.args.heap.now c.move_result.new.heap c.deref.result.now c.in_ok-save.ensures.ok
    (result_among c.args.p.now c.args.position (method_at c.args.p.now c.args.end.method) c.args.end.value c.args.end.thrown c.args.heap.now c.move_result.new.heap c.deref.result.now has c.move_result.ensures)

pub returns-in_err-add_owner_lines-clause-drafted : goal.returns-in_err-add_owner_lines-clause-drafted
returns-in_err-add_owner_lines-clause-drafted c =
    let has = numbers_as (roots_of c.args.heap.now (c.args.end.value ∷ [])) c.deref.result.now c.in_ok-roots.roots.items c.deref.ensures.value c.in_ok-roots.ensures.all in
    drafted_by c.args.saved.now.items c.save.new.saved.items c.args.heap.now c.move_result.new.heap c.deref.result.now c.in_ok-save.ensures.ok
    (result_among c.args.p.now c.args.position (method_at c.args.p.now c.args.end.method) c.args.end.value c.args.end.thrown c.args.heap.now c.move_result.new.heap c.deref.result.now has c.move_result.ensures)

pub returns-clause-drafted : goal.returns-clause-drafted
returns-clause-drafted c =
    let has = numbers_as (roots_of c.args.heap.now (c.args.end.value ∷ [])) c.deref.result.now c.in_ok-roots.roots.items c.deref.ensures.value c.in_ok-roots.ensures.all in
    drafted_by c.args.saved.now.items c.save.new.saved.items c.args.heap.now c.move_result.new.heap c.deref.result.now c.in_ok-save.ensures.ok
    (result_among c.args.p.now c.args.position (method_at c.args.p.now c.args.end.method) c.args.end.value c.args.end.thrown c.args.heap.now c.move_result.new.heap c.deref.result.now has c.move_result.ensures)

pub returns-clause-lines : goal.returns-clause-lines
returns-clause-lines c =
    let has = numbers_as (roots_of c.args.heap.now (c.args.end.value ∷ [])) c.deref.result.now c.in_ok-roots.roots.items c.deref.ensures.value c.in_ok-roots.ensures.all in
    let among : ChangesAmong c.deref.result.now c.args.heap.now c.move_result.new.heap = result_among c.args.p.now c.args.position (method_at c.args.p.now c.args.end.method) c.args.end.value c.args.end.thrown c.args.heap.now c.move_result.new.heap c.deref.result.now has c.move_result.ensures in
    let rise : numbers_rise 0 c.deref.result.now ≡ true = ap (numbers_rise 0) c.deref.ensures.value ∙ c.in_ok-roots.ensures.rise in
    let start : c.len-from.result ≡ length c.args.saved.now.items = omega arith in
    owners_after c.args.p.now c.args.pos c.args.saved.now.items c.save.new.saved.items c.args.heap.now c.move_result.new.heap (result_moved c.args.p.now c.args.position (method_at c.args.p.now c.args.end.method) c.args.end.value c.args.end.thrown c.args.heap.now) c.deref.result.now c.in_ok-rows.rows.items c.len-from.result c.in_ok-save.ensures.ok start c.in_ok-rows.ensures rise among c.move_result.ensures c.args.lines.now.items c.add_owner_lines.new.into.items
    (c.in_ok-add_owner_lines.ensures ∙ ap (λ (rs : List ObjectChange). c.args.lines.now.items ++ owner_changes c.args.p.now c.args.pos rs) c.deref-2.ensures.value)

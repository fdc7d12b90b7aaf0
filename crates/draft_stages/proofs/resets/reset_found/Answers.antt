use Rattle.std.proofs.Common.{◌≡◌, ◌∙◌, ap, sym, List, ◌++◌, length, arith}
use Rattle.draft_lines.specs.declared.change.ObjectChange.{ObjectChange}
use Rattle.draft_lines.specs.DraftLines.{ResetBy, reset_changes}
use Rattle.draft_lines.proofs.ChangedLines.{reset_between}
use Rattle.draft_stages.proofs.StageLaws.{reset_after}
use Rattle.draft_stages.proofs.resets.reset_found.Goals as goal

pub returns-clause-lines : goal.returns-clause-lines
returns-clause-lines c =
    let p = c.args.p.now in
    let h = c.args.heap.now in
    let g = c.reset_among.new.heap in
    let start : c.len-from.result ≡ length c.args.saved.now.items = omega arith in
    let by : ResetBy h c.args.roots.now c.in_ok-rows.rows.items = reset_after p c.args.saved.now.items c.reset_among.new.saved.items h g c.args.roots.now c.args.numbers.now c.in_ok-rows.rows.items c.len-from.result c.in_ok-reset_among.ensures.saved start c.in_ok-rows.ensures c.requires c.in_ok-reset_among.ensures.heap c.in_ok-reset_among.ensures.among in
    c.in_ok-add_reset_lines.ensures
    ∙ ap (λ (rs : List ObjectChange). c.args.lines.now.items ++ reset_changes p c.args.pos rs) c.deref.ensures.value
    ∙ ap (λ es. c.args.lines.now.items ++ es) (sym (reset_between p c.args.pos h c.args.roots.now c.in_ok-rows.rows.items by))

use Rattle.std.proofs.Common.{ap, map, ◌∙◌}
use Rattle.std.proofs.lemmas.List.{take_all}
use Rattle.choices_file.specs.Lines.{meaning}
use Rattle.choices_file.proofs.LineLaws.{meanings_map}
use Rattle.choices_file.proofs.reading.meanings.Goals as goal

pub returns : goal.returns
returns c =
    let items = c.deref-line-items.result.now in
    c.each.invariant
    ∙ ap (map (λ line. meaning line.now)) (take_all c.each.line-index items c.each-test.false)
    ∙ meanings_map items
    ∙ ap (λ xs. map meaning (map (λ x. x.now) xs)) c.deref-line-items.ensures.value
    ∙ ap (map meaning) c.in_ok-lines.ensures

use Rattle.std.proofs.Common.{◌≡◌, get_or, false, sym, ◌∙◌, arith, refl}
use Rattle.std.proofs.lemmas.Grind.{common_steps}
use Rattle.std.specs.Option.{is_some}
use Rattle.toml.specs.Data.{as_str}
use Rattle.toml.specs.View.{view}
use Rattle.toml.proofs.Views.{items_view-drop}
use Rattle.settings_file.proofs.values.are_texts.Goals as goal

pub returns-then-not-is_str : goal.returns-then-not-is_str
returns-then-not-is_str c =
    let xs = c.deref-value-items.result.now in
    let i = c.each.value-index in
    let value = c.value-item.result in
    let bad : is_some (as_str (view value)) ≡ false = grind (arith, common_steps) in
    let at : get_or xs i value ≡ value = grind (arith, common_steps) in
    let step = items_view-drop xs i value c.each-test.true in
    rw (← c.deref-value-items.ensures.value) (sym (rw (step, at, bad) refl) ∙ c.each.invariant)

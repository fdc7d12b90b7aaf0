use Rattle.std.proofs.Common.{◌≡◌, ◌∙◌, ◌∷◌, ◌++◌, [], ℕ, ap, sym, map}
use Rattle.std.specs.List.{range_with_len}
use Rattle.control_actions.specs.declared.place.Place.TheVariants as places
use Rattle.ledger_state.specs.declared.value.Value.{Value}
use Rattle.ledger_frames.specs.Frames.{value_after}
use Rattle.ledger_frames.proofs.NumberLaws.{one_more}
use Rattle.ledger_frames.proofs.places.variables_after.Goals as goal

pub each-preserved : goal.each-preserved
each-preserved c =
    let f : ℕ → Value = λ i. value_after c.args.p.now c.args.heap.now c.args.method c.args.locals.now c.args.action c.args.edge c.args.made (places.Var i) in
    c.in_ok-push.ensures.items
    ∙ ap (λ xs. xs ++ c.value_after.result ∷ []) c.each.invariant
    ∙ ap (λ v. map f (range_with_len 0 c.each.number) ++ v ∷ []) c.value_after.ensures
    ∙ sym (one_more f c.each.number)

-- One class more is looked at.
use Rattle.std.proofs.Common.{◌≡◌, ◌∙◌, sym, ap}
use Rattle.std.specs.Prelude.{◌||◌}
use Rattle.std.proofs.lemmas.Bool.{or_left}
use Rattle.control_actions.specs.Exceptions.{class_with, is_heeded_under, some_heeded}
use Rattle.control_actions.proofs.LeavingLaws.{some_heeded_none, some_heeded_step}
use Rattle.control_actions.proofs.exceptions.some_heeded.Goals as goal
use Rattle.control_actions.proofs.exceptions.some_heeded.Goals.{then-some, else-some}

pub loop-k-init : goal.loop-k-init
loop-k-init c = some_heeded_none _ _

pub loop-k-preserved : goal.loop-k-preserved
loop-k-preserved c =
    let p = c.args.p.now in
    let t = c.args.t in
    let k = c.loop-k.k in
    let more : c.if-some.some ≡ (some_heeded p t k || is_heeded_under p t (class_with k)) = elim c.if-some.branch [
      | then-some w ↦ w.some-is ∙ w.if-some.true ∙ sym (or_left (some_heeded p t k) (is_heeded_under p t (class_with k)) (sym c.loop-k.invariant ∙ w.if-some.true))
      | else-some w ↦
          w.some-is ∙ c.is_heeded_under-heeded.ensures
          ∙ ap (λ b. b || is_heeded_under p t (class_with k)) (sym w.if-some.false ∙ c.loop-k.invariant)
    ] in
    more ∙ sym (some_heeded_step p t k)

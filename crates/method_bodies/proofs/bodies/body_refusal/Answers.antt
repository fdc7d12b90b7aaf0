-- One more.
use Rattle.std.proofs.Common.{◌∙◌, sym}
use Rattle.refusal_order.specs.Refusals.{lesser_of}
use Rattle.class_order.proofs.CaseLemmas.{least_more}
use Rattle.method_bodies.specs.MethodBodies.{unit_cases}
use Rattle.method_bodies.proofs.bodies.body_refusal.Goals as goal

pub loop-unit-preserved : goal.loop-unit-preserved
loop-unit-preserved c =
    c.lesser_of-found.ensures ∙ (λ j. lesser_of (c.loop-unit.invariant j) (c.unit_refusal.ensures j))
    ∙ sym (least_more unit_cases c.args.units.now c.loop-unit.unit-index c.unit-item.result c.loop-unit-test.true c.unit-item.is)

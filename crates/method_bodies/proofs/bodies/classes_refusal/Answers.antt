-- One more.
use Rattle.std.proofs.Common.{◌∙◌, sym}
use Rattle.refusal_order.specs.Refusals.{lesser_of}
use Rattle.class_order.proofs.CaseLemmas.{least_more}
use Rattle.method_bodies.specs.MethodBodies.{class_cases}
use Rattle.method_bodies.proofs.bodies.classes_refusal.Goals as goal

pub loop-class-preserved : goal.loop-class-preserved
loop-class-preserved c =
    c.lesser_of-found.ensures ∙ (λ j. lesser_of (c.loop-class.invariant j) (c.class_refusal.ensures j))
    ∙ sym (least_more class_cases c.args.classes.now c.loop-class.class-index c.class-item.result c.loop-class-test.true c.class-item.is)

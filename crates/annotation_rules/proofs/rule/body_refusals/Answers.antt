use Rattle.annotation_rules.specs.AnnotationCases.{body_cases}
use Rattle.annotation_rules.proofs.Folds.{least_turn}
use Rattle.annotation_rules.proofs.rule.body_refusals.Goals as goal

pub loop-body-preserved : goal.loop-body-preserved
loop-body-preserved c =
    least_turn (body_cases c.args.p.now) c.args.bodies.now _ c.body-item.result _ _ _ c.loop-body-test.true c.body-item.is c.loop-body.invariant c.body_refusal.ensures c.lesser_of-least.ensures

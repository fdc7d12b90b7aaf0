use Rattle.annotation_rules.specs.AnnotationCases.{method_cases}
use Rattle.annotation_rules.proofs.Folds.{least_turn}
use Rattle.annotation_rules.proofs.rule.method_refusals.Goals as goal

pub loop-method-preserved : goal.loop-method-preserved
loop-method-preserved c =
    least_turn (method_cases c.args.p.now) c.args.methods.now _ c.method-item.result _ _ _ c.loop-method-test.true c.method-item.is c.loop-method.invariant c.method_refusal.ensures c.lesser_of-least.ensures

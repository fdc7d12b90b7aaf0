use Rattle.annotation_rules.specs.AnnotationCases.{class_cases}
use Rattle.annotation_rules.proofs.Folds.{least_turn}
use Rattle.annotation_rules.proofs.rule.class_refusals.Goals as goal

pub loop-class-preserved : goal.loop-class-preserved
loop-class-preserved c =
    least_turn (class_cases c.args.p.now) c.args.classes.now _ c.class-item.result _ _ _ c.loop-class-test.true c.class-item.is c.loop-class.invariant c.class_refusal.ensures c.lesser_of-least.ensures

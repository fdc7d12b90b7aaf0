use Rattle.annotation_rules.specs.AnnotationCases.{field_cases}
use Rattle.annotation_rules.proofs.Folds.{least_turn}
use Rattle.annotation_rules.proofs.rule.field_refusals.Goals as goal

pub loop-field-preserved : goal.loop-field-preserved
loop-field-preserved c =
    least_turn field_cases c.args.fields.now _ c.field-item.result _ _ _ c.loop-field-test.true c.field-item.is c.loop-field.invariant c.field_refusal.ensures c.lesser_of-least.ensures

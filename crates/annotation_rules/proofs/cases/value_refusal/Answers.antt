use Rattle.std.proofs.Common.{◌∙◌, ap}
use Rattle.program_model.specs.declared.program.RawAnno.{RawAnno}
use Rattle.refusal_order.specs.Refusals.{least}
use Rattle.annotation_rules.specs.AnnotationCases.{has_bad_value}
use Rattle.annotation_rules.specs.Declarations.{bad_annotation}
use Rattle.annotation_rules.proofs.Folds.{least_turn}
use Rattle.annotation_rules.proofs.cases.value_refusal.Goals as goal

pub loop-annotation-preserved : goal.loop-annotation-preserved
loop-annotation-preserved c =
    let f = λ (a : RawAnno). bad_annotation (has_bad_value c.args.p.now c.args.method.now a) a in
    least_turn f c.args.annotations.now _ c.annotation-item.result _ _ _ c.loop-annotation-test.true c.annotation-item.is c.loop-annotation.invariant
    (c.bad_annotation-refusal.ensures ∙ ap (λ b. least (bad_annotation b c.annotation-item.result)) c.has_bad_value.ensures) c.lesser_of-least.ensures

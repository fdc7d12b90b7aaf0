use Rattle.std.proofs.Common.{◌∙◌, ap}
use Rattle.program_model.specs.declared.program.ParamSig.{ParamSig}
use Rattle.refusal_order.specs.Refusals.{least}
use Rattle.annotation_rules.specs.declared.declaration.Declaration.TheVariants as declarations
use Rattle.annotation_rules.specs.Declarations.{declaration_cases}
use Rattle.annotation_rules.proofs.Folds.{least_turn}
use Rattle.annotation_rules.proofs.cases.parameter_refusal.Goals as goal

pub loop-parameter-preserved : goal.loop-parameter-preserved
loop-parameter-preserved c =
    let f = λ (x : ParamSig). declaration_cases declarations.Parameter x.annos.items in
    least_turn f c.args.parameters.now _ c.parameter-item.result _ _ _ c.loop-parameter-test.true c.parameter-item.is c.loop-parameter.invariant
    (c.declaration_refusal-refusal.ensures ∙ ap (λ annos. least (declaration_cases declarations.Parameter annos)) c.deref.ensures.value) c.lesser_of-least.ensures

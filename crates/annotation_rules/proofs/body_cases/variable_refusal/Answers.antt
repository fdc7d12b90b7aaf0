use Rattle.std.proofs.Common.{◌∙◌, ap}
use Rattle.program_model.specs.declared.tree.Var.{Var}
use Rattle.refusal_order.specs.Refusals.{least}
use Rattle.annotation_rules.specs.declared.declaration.Declaration.TheVariants as declarations
use Rattle.annotation_rules.specs.Declarations.{declaration_cases}
use Rattle.annotation_rules.proofs.Folds.{least_turn}
use Rattle.annotation_rules.proofs.body_cases.variable_refusal.Goals as goal

pub loop-variable-preserved : goal.loop-variable-preserved
loop-variable-preserved c =
    let f = λ (v : Var). declaration_cases declarations.Variable v.annos.items in
    least_turn f c.args.variables.now _ c.variable-item.result _ _ _ c.loop-variable-test.true c.variable-item.is c.loop-variable.invariant
    (c.declaration_refusal-refusal.ensures ∙ ap (λ annos. least (declaration_cases declarations.Variable annos)) c.deref.ensures.value) c.lesser_of-least.ensures

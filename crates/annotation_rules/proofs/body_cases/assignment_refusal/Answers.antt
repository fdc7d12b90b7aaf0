use Rattle.std.proofs.Common.{◌∙◌, ap}
use Rattle.std.specs.Option.{option_copied}
use Rattle.program_model.specs.declared.tree.TExpr.{TExpr}
use Rattle.refusal_order.specs.Refusals.{least}
use Rattle.must_call_sets.specs.Assigned.{assigned_variable}
use Rattle.annotation_rules.specs.AnnotationCases.{assigned_cases}
use Rattle.annotation_rules.proofs.Folds.{least_turn}
use Rattle.annotation_rules.proofs.body_cases.assignment_refusal.Goals as goal

pub loop-expression-preserved : goal.loop-expression-preserved
loop-expression-preserved c =
    let m = option_copied c.args.method in
    let f = λ (e : TExpr). assigned_cases m c.args.body.now (assigned_variable c.args.body.now e.kind) in
    least_turn f c.args.expressions.now _ c.expression-item.result _ _ _ c.loop-expression-test.true c.expression-item.is c.loop-expression.invariant
    (c.assigned_refusal-refusal.ensures ∙ ap (λ v. least (assigned_cases m c.args.body.now v)) c.assigned_variable-variable.ensures) c.lesser_of-least.ensures

use Rattle.std.proofs.Common.{◌≡◌, take}
use Rattle.std.specs.List.{flat_map}
use Rattle.std.specs.Option.{option_copied}
use Rattle.refusal_order.specs.Refusals.{least}
use Rattle.program_model.specs.declared.tree.TExpr.{TExpr}
use Rattle.must_call_sets.specs.Assigned.{assigned_variable}
use Rattle.annotation_rules.specs.AnnotationCases.{assigned_cases}
use Rattle.annotation_rules.proofs.body_cases.assignment_refusal.Given as goal

abbrev pub invariant-loop-expression : goal.invariant-loop-expression
invariant-loop-expression l =
    l.least ≡ least (flat_map (λ (e : TExpr). assigned_cases (option_copied l.method) l.body (assigned_variable l.body e.kind)) (take l.expression-index l.expressions))

use Rattle.std.proofs.Common.{◌∙◌, ap, ap₂, ℕ, List, drop}
use Rattle.std.specs.List.{flat_map}
use Rattle.std.specs.Option.{option_copied}
use Rattle.program_model.specs.declared.tree.Var.{Var}
use Rattle.program_model.specs.declared.tree.TExpr.{TExpr}
use Rattle.refusal_order.specs.Refusals.{least}
use Rattle.annotation_rules.specs.declared.declaration.Declaration.TheVariants as declarations
use Rattle.must_call_sets.specs.Assigned.{assigned_variable}
use Rattle.annotation_rules.specs.AnnotationCases.{assigned_cases, assignment_cases, variable_cases}
use Rattle.annotation_rules.specs.Declarations.{declaration_cases}
use Rattle.annotation_rules.proofs.Folds.{joined}
use Rattle.annotation_rules.proofs.body_cases.refusal_in_body.Goals as goal

pub returns : goal.returns
returns c =
    let m = option_copied c.args.method in
    let b = c.args.body.now in
    let one = λ (v : Var). declaration_cases declarations.Variable v.annos.items in
    let other = λ (e : TExpr). assigned_cases m b (assigned_variable b e.kind) in
    joined (variable_cases m b) (assignment_cases m b) _ _ _ c.lesser_of.ensures
    (c.variable_refusal.ensures
    ∙ ap (λ vs. least (flat_map one vs)) (c.behind-others.ensures ∙ ap₂ (λ (n : ℕ) (vs : List Var). drop n vs) c.parameter_count.ensures c.deref.ensures.value))
    (c.assignment_refusal.ensures ∙ ap (λ es. least (flat_map other es)) c.deref-2.ensures.value)

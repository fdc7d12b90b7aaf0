use Rattle.std.proofs.Common.{◌∙◌, ◌++◌, ap, List}
use Rattle.std.specs.List.{flat_map}
use Rattle.program_model.specs.declared.program.RawAnno.{RawAnno}
use Rattle.refusal_order.specs.Refusals.{least}
use Rattle.annotation_rules.specs.AnnotationCases.{has_bad_value, place_cases, private_cases, value_cases}
use Rattle.annotation_rules.specs.Declarations.{bad_annotation}
use Rattle.annotation_rules.proofs.Folds.{joined}
use Rattle.annotation_rules.proofs.cases.method_refusal.Goals as goal

pub returns : goal.returns
returns c =
    let places = place_cases c.args.p.now c.args.method.now in
    let values = value_cases c.args.p.now c.args.method.now in
    let f = λ (annos : List RawAnno). least (flat_map (λ a. bad_annotation (has_bad_value c.args.p.now c.args.method.now a) a) annos) in
    joined (places ++ values) (private_cases c.args.p.now c.args.method.now) _ _ _ c.lesser_of-2.ensures
    (joined places values _ _ _ c.lesser_of.ensures c.place_refusal.ensures (c.value_refusal-values.ensures ∙ ap f c.deref.ensures.value))
    c.private_refusal.ensures

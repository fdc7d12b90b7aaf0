use Rattle.std.proofs.Common.{◌∙◌, ◌++◌, ap}
use Rattle.std.specs.List.{flat_map}
use Rattle.refusal_order.specs.Refusals.{least}
use Rattle.annotation_rules.specs.AnnotationCases.{body_cases, class_cases, field_cases, method_cases}
use Rattle.annotation_rules.proofs.Folds.{joined}
use Rattle.annotation_rules.proofs.rule.annotation_refusal.Goals as goal

pub returns : goal.returns
returns c =
    let p = c.args.p.now in
    let classes = flat_map (class_cases p) p.classes.items in
    let fields = flat_map field_cases p.fields.items in
    let methods = flat_map (method_cases p) p.methods.items in
    let bodies = flat_map (body_cases p) p.bodies.items in
    joined (classes ++ fields ++ methods) bodies _ _ _ c.lesser_of-3.ensures
    (joined (classes ++ fields) methods _ _ _ c.lesser_of-2.ensures
    (joined classes fields _ _ _ c.lesser_of.ensures
    (c.class_refusals-classes.ensures ∙ ap (λ xs. least (flat_map (class_cases p) xs)) c.deref.ensures.value)
    (c.field_refusals-fields.ensures ∙ ap (λ xs. least (flat_map field_cases xs)) c.deref-2.ensures.value))
    (c.method_refusals-methods.ensures ∙ ap (λ xs. least (flat_map (method_cases p) xs)) c.deref-3.ensures.value))
    (c.body_refusals-bodies.ensures ∙ ap (λ xs. least (flat_map (body_cases p) xs)) c.deref-4.ensures.value)

use Rattle.std.proofs.Common.{◌∙◌, ap₂, sym}
use Rattle.refusal_order.specs.Refusals.{lesser_of}
use Rattle.annotation_kinds.specs.declared.annotation.AnnotationKind.{AnnotationKind}
use Rattle.annotation_kinds.specs.Annotations.{is_of, kinds}
use Rattle.annotation_rules.specs.Declarations.{repeats}
use Rattle.annotation_rules.proofs.Folds.{least_more}
use Rattle.annotation_rules.proofs.declaration.repeated_kinds.Goals as goal

pub loop-kind-preserved : goal.loop-kind-preserved
loop-kind-preserved c =
    let f = λ (kind : AnnotationKind). repeats (is_of kind) c.args.annotations.now in
    c.lesser_of-least.ensures ∙ ap₂ lesser_of c.loop-kind.invariant c.repeated.ensures ∙ sym (least_more f kinds c.loop-kind.kind-index _ c.loop-kind-test.true)

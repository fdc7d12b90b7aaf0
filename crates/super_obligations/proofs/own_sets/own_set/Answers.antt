-- The annotation is read, and then the first of its kind taken.
use Rattle.std.proofs.Common.{◌∙◌, sym, ap}
use Rattle.std.specs.Option.{option_map}
use Rattle.std.specs.Str.{bytes_eq}
use Rattle.annotation_kinds.specs.Annotations.{first_of, name_of}
use Rattle.annotation_kinds.specs.declared.annotation.AnnotationKind.TheVariants as annotations
use Rattle.java_annotations.specs.Annotations.{Annotation, annotation_in, annotations_of, first_of_kind}
use Rattle.super_obligations.specs.Obligations.{own_set_by}
use Rattle.super_obligations.proofs.ObligationLemmas.{find_mapped}
use Rattle.super_obligations.proofs.own_sets.own_set.Goals as goal

pub returns : goal.returns
returns c =
    let kind = annotations.InheritableMustCall in
    let read = c.in_ok-annotations.annotations.items in
    c.own_set_by.ensures
    ∙ ap (λ o. own_set_by (option_map annotation_in o)) (c.first_of.ensures ∙ ap (first_of kind) c.deref-2.ensures.value)
    ∙ ap own_set_by (sym (find_mapped annotation_in (λ (a : Annotation). bytes_eq a.name (name_of kind)) read))
    ∙ ap (λ all. own_set_by (first_of_kind kind all)) (c.in_ok-annotations.ensures ∙ ap annotations_of c.deref.ensures.value)

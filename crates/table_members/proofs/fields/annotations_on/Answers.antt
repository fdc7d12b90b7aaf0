use Rattle.std.proofs.Common.{◌∙◌, ap, map}
use Rattle.annotation_kinds.specs.declared.annotation.AnnotationKind.TheVariants as annotations
use Rattle.java_annotations.specs.Annotations.{annotation_in, is_annotated}
use Rattle.java_annotations.proofs.Marks.{marked_is_annotated}
use Rattle.table_members.proofs.fields.annotations_on.Goals as goal

pub returns-clause-owning : goal.returns-clause-owning
returns-clause-owning c =
    c.is_marked-owning.ensures ∙ marked_is_annotated annotations.Owning c.deref.result.now
    ∙ ap (is_annotated annotations.Owning) (ap (map annotation_in) c.deref.ensures.value ∙ c.in_ok-annos.ensures)

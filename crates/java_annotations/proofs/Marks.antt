-- Annotations of a kind, as they are kept and as they are written.
use Rattle.std.proofs.Common.{◌≡◌, ◌||◌, List, [], ◌∷◌, map, ap, refl}
use Rattle.program_model.specs.declared.program.RawAnno.{RawAnno}
use Rattle.annotation_kinds.specs.declared.annotation.AnnotationKind.{AnnotationKind}
use Rattle.annotation_kinds.specs.Annotations.{is_marked, is_of}
use Rattle.java_annotations.specs.Annotations.{annotation_in, is_annotated}

pub marked_is_annotated : (kind : AnnotationKind) (annos : List RawAnno) → is_marked kind annos ≡ is_annotated kind (map annotation_in annos)
marked_is_annotated kind [] = refl
marked_is_annotated kind (a ∷ more) = ap (λ b. is_of kind a || b) (marked_is_annotated kind more)

use Rattle.std.proofs.Common.{◌≡◌, List, map, subst}
use Rattle.std.specs.Prelude.{IfOk}
use Rattle.java_annotations.specs.Annotations.{Annotation, annotation_in}
use Rattle.body_variables.proofs.Annotations.{annotations_are_among}
use Rattle.body_variables.proofs.declarations.annotations_among.Goals as goal

pub returns : goal.returns
returns c =
    let P : List Annotation → Type 0 = λ found. IfOk c.raw_annotations.result (λ v. map annotation_in v.items ≡ found) in
    subst P (annotations_are_among c.args.modifiers.now) c.raw_annotations.ensures

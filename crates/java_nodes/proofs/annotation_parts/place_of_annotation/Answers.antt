use Rattle.std.specs.Prelude.{◌≡◌, refl}
use Rattle.java_syntax.specs.declared.annotation_trees.Anno as anno
use Rattle.java_syntax.specs.AnnotationTrees.{anno_of}
use Rattle.java_nodes.specs.StatementParts.{place_of_annotation}
use Rattle.java_nodes.proofs.annotation_parts.place_of_annotation.Goals as goal

place : (a : anno.Anno) → (anno.out-Anno a).pos ≡ place_of_annotation (anno_of a)
unfolding anno.out-Anno denote.Hole.Carrier.out
place (anno.Anno' name shape all pos) = refl

pub returns : goal.returns
returns c = place c.args.annotation.now

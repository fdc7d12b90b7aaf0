use Rattle.std.proofs.Common.{◌≡◌, map, take}
use Rattle.java_annotations.specs.Annotations.{annotation_in, annotations_of}
use Rattle.java_annotations.proofs.annotations.raw_annotations.Given as goal

abbrev pub invariant-each : goal.invariant-each
invariant-each l = map annotation_in l.made.items ≡ annotations_of (take l.modifier-index l.modifiers)

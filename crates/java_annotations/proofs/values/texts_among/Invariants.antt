use Rattle.std.proofs.Common.{◌≡◌, map, take}
use Rattle.java_syntax.specs.AnnotationTrees.{anno_value_of}
use Rattle.java_annotations.specs.Forms.{texts_among}
use Rattle.java_annotations.proofs.values.texts_among.Given as goal

abbrev pub invariant-each : goal.invariant-each
invariant-each l = l.found.items ≡ texts_among (map anno_value_of (take l.value-index l.values))

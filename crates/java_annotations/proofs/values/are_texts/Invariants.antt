use Rattle.std.proofs.Common.{◌≡◌, map, drop}
use Rattle.java_syntax.specs.AnnotationTrees.{anno_value_of}
use Rattle.java_annotations.specs.Forms.{are_texts}
use Rattle.java_annotations.proofs.values.are_texts.Given as goal

-- whether the values to come are texts decides
abbrev pub invariant-each : goal.invariant-each
invariant-each l = are_texts (map anno_value_of (drop l.value-index l.values)) ≡ are_texts (map anno_value_of l.values)

use Rattle.std.proofs.Common.{◌≡◌, map, take}
use Rattle.java_syntax.specs.AnnotationTrees as trees
use Rattle.java_annotations.specs.Annotations.{argument_in, argument_of}
use Rattle.java_annotations.proofs.annotations.raw_arguments.Given as goal

abbrev pub invariant-each : goal.invariant-each
invariant-each l = map argument_in l.made.items ≡ map (λ a. argument_of (trees.argument_of a)) (take l.argument-index l.arguments)

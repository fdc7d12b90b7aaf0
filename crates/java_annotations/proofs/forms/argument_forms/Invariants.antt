use Rattle.std.proofs.Common.{◌≡◌, map, take}
use Rattle.java_syntax.specs.AnnotationTrees.{argument_of}
use Rattle.java_annotations.specs.Forms.{argument_form}
use Rattle.java_annotations.proofs.forms.argument_forms.Given as goal

abbrev pub invariant-each : goal.invariant-each
invariant-each l = l.found.items ≡ map (λ a. argument_form (argument_of a)) (take l.argument-index l.arguments)

use Rattle.std.proofs.Common.{◌≡◌, map}
use Rattle.source_classes.specs.SourceClasses.{source_class_of}
use Rattle.field_initializers.specs.FieldConstants.{up_to_height}
use Rattle.field_initializers.proofs.constants.field_constants.Given as goal

abbrev pub invariant-loop-below : goal.invariant-loop-below
invariant-loop-below l = l.constants.items ≡ up_to_height l.p l.names (map source_class_of l.classes) l.below

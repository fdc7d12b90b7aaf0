use Rattle.std.proofs.Common.{◌≡◌, map, take}
use Rattle.source_classes.specs.SourceClasses.{source_class_of}
use Rattle.field_initializers.specs.FieldConstants.{greatest_height}
use Rattle.field_initializers.proofs.constants.greatest_height.Given as goal

abbrev pub invariant-loop-class : goal.invariant-loop-class
invariant-loop-class l = l.greatest ≡ greatest_height l.p (map source_class_of (take l.class-index l.classes))

use Rattle.std.proofs.Common.{◌≡◌, map, take}
use Rattle.source_classes.specs.SourceClasses.{source_class_of}
use Rattle.field_initializers.specs.FieldConstants.{with_height}
use Rattle.field_initializers.proofs.constants.put_height.Given as goal

abbrev pub invariant-loop-class : goal.invariant-loop-class
invariant-loop-class l = l.constants.items ≡ with_height l.p l.names (map source_class_of (take l.class-index l.classes)) l.fn.constants.items l.wanted

use Rattle.std.proofs.Common.{◌≡◌, map, take}
use Rattle.std.specs.Prelude.{fold}
use Rattle.source_classes.specs.Members.{numbered_field_of}
use Rattle.source_classes.specs.SourceClasses.{source_class_of}
use Rattle.field_initializers.specs.FieldConstants.{with_field_of}
use Rattle.field_initializers.proofs.constants.put_fields.Given as goal

abbrev pub invariant-loop-field : goal.invariant-loop-field
invariant-loop-field l = l.constants.items ≡ fold (with_field_of l.p l.names (source_class_of l.class)) l.fn.constants.items (map numbered_field_of (take l.field-index l.fields))

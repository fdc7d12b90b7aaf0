use Rattle.std.proofs.Common.{◌≡◌, ◌++◌, map, take}
use Rattle.std.specs.Prelude.{flat_map}
use Rattle.java_typed_expressions.specs.Surroundings.{surroundings_of}
use Rattle.source_classes.specs.Members.{numbered_field_of}
use Rattle.field_initializers.specs.FieldInitializers.{static_cases_of_field}
use Rattle.field_initializers.proofs.static_fields.count_each.Given as goal

abbrev pub invariant-loop-field : goal.invariant-loop-field
invariant-loop-field l = l.refusals.items ≡ l.fn.refusals.items ++ flat_map (static_cases_of_field (surroundings_of l.scope)) (map numbered_field_of (take l.field-index l.fields))

use Rattle.std.proofs.Common.{◌≡◌, ◌++◌, map, take}
use Rattle.std.specs.Prelude.{flat_map}
use Rattle.java_typed_trees.specs.StatementTrees.{statement_of}
use Rattle.java_typed_expressions.specs.Surroundings.{surroundings_of}
use Rattle.source_classes.specs.Members.{numbered_field_of}
use Rattle.field_initializers.specs.FieldInitializers.{cases_of_field, statements_of_field}
use Rattle.field_initializers.proofs.initializers.push_each.Given as goal

abbrev pub invariant-loop-field : goal.invariant-loop-field
invariant-loop-field l = record {
  trees : map statement_of l.statements.items ≡ map statement_of l.fn.statements.items ++ flat_map (statements_of_field (surroundings_of l.scope)) (map numbered_field_of (take l.field-index l.fields));
  cases : l.refusals.items ≡ l.fn.refusals.items ++ flat_map (cases_of_field (surroundings_of l.scope)) (map numbered_field_of (take l.field-index l.fields));
}

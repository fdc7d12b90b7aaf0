use Rattle.std.proofs.Common.{◌≡◌, ◌++◌, map, take, flat_map}
use Rattle.program_model.specs.declared.program.Field.{Field}
use Rattle.must_call_types.proofs.names.put_of_fields.Given as goal

abbrev pub invariant-loop-field : goal.invariant-loop-field
invariant-loop-field l = map (λ a. a.now) l.list.items ≡ map (λ a. a.now) l.initial.list.items ++ flat_map (λ (x : Field). x.annos.items) (take l.field-index l.fields)

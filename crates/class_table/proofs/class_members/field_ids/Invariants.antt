use Rattle.std.proofs.Common.{◌≡◌, map, take}
use Rattle.program_model.specs.declared.kinds.FieldId.{FieldId}
use Rattle.class_table.proofs.class_members.field_ids.Given as goal

abbrev pub invariant-loop-number : goal.invariant-loop-number
invariant-loop-number l = map (λ (f : FieldId). f.0) l.ids.items ≡ take l.number-index l.numbers

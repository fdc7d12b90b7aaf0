use Rattle.std.proofs.Common.{◌≡◌, map, take}
use Rattle.program_model.specs.declared.kinds.MethodId.{MethodId}
use Rattle.class_table.proofs.class_members.method_ids.Given as goal

abbrev pub invariant-loop-number : goal.invariant-loop-number
invariant-loop-number l = map (λ (m : MethodId). m.0) l.ids.items ≡ take l.number-index l.numbers

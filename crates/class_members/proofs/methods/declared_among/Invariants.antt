use Rattle.std.proofs.Common.{◌≡◌, take}
use Rattle.std.specs.List.{flat_map}
use Rattle.class_members.specs.Members.{declared_methods}
use Rattle.class_members.proofs.methods.declared_among.Given as goal

abbrev pub invariant-loop-declaring : goal.invariant-loop-declaring
invariant-loop-declaring l = l.found.items ≡ flat_map (declared_methods l.p l.from l.class l.name) (take l.declaring-index l.above)

use Rattle.std.proofs.Common.{◌≡◌, ◌++◌, map, take, flat_map}
use Rattle.program_model.specs.declared.program.Class.{Class}
use Rattle.must_call_types.proofs.names.put_of_classes.Given as goal

abbrev pub invariant-loop-class : goal.invariant-loop-class
invariant-loop-class l = map (λ a. a.now) l.list.items ≡ map (λ a. a.now) l.initial.list.items ++ flat_map (λ (x : Class). x.annos.items) (take l.class-index l.classes)

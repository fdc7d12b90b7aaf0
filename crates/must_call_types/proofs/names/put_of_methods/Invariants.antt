use Rattle.std.proofs.Common.{◌≡◌, ◌++◌, map, take, flat_map}
use Rattle.must_call_types.specs.NameTable.{annotations_of}
use Rattle.must_call_types.proofs.names.put_of_methods.Given as goal

abbrev pub invariant-loop-method : goal.invariant-loop-method
invariant-loop-method l = map (λ a. a.now) l.list.items ≡ map (λ a. a.now) l.initial.list.items ++ flat_map annotations_of (take l.method-index l.methods)

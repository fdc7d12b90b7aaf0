use Rattle.std.proofs.Common.{◌≡◌, ◌++◌, map, take}
use Rattle.must_call_types.proofs.names.put_annotations.Given as goal

abbrev pub invariant-loop-annotation : goal.invariant-loop-annotation
invariant-loop-annotation l = map (λ a. a.now) l.list.items ≡ map (λ a. a.now) l.initial.list.items ++ take l.annotation-index l.annotations

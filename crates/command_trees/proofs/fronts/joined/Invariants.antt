use Rattle.std.proofs.Common.{◌≡◌, flat_map}
use Rattle.command_trees.proofs.fronts.joined.Given as goal

abbrev pub invariant-loop-sections : goal.invariant-loop-sections
invariant-loop-sections l = l.all.items ≡ flat_map (λ sections. sections.items) l.yielded

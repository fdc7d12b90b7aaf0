use Rattle.std.proofs.Common.{◌≡◌, ◌-◌, ◌++◌}
use Rattle.program_model.specs.Overrides.{chain_behind, chain_of, super_classes}
use Rattle.class_members.proofs.classes.super_classes.Given as goal

-- what is found and what the rest of the chain gives are the whole chain
abbrev pub invariant-loop-step : goal.invariant-loop-step
invariant-loop-step l = l.found.items ++ chain_behind l.next (chain_of l.p (l.step-end - l.step)) ≡ super_classes l.p l.fn.class

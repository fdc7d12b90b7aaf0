use Rattle.std.proofs.Common.{◌≡◌, ◌-◌}
use Rattle.std.specs.List.{find, flat_map}
use Rattle.program_model.specs.Overrides.{is_alike, methods_of, super_classes}
use Rattle.class_overrides.proofs.Walks.{found_from}
use Rattle.class_overrides.proofs.runs.nearest.Given as goal

-- what the rest of the walk finds is what the whole walk finds
abbrev pub invariant-loop-step : goal.invariant-loop-step
invariant-loop-step l = found_from l.p (is_alike l.p l.n) (methods_of l.p) (l.step-end - l.step) l.next ≡ find (is_alike l.p l.n) (flat_map (methods_of l.p) (super_classes l.p l.fn.class))

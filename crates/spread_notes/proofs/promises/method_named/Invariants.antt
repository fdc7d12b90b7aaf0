use Rattle.std.proofs.Common.{◌≡◌, ◌-◌}
use Rattle.std.specs.List.{find, flat_map}
use Rattle.program_model.specs.Overrides.{methods_of, super_classes}
use Rattle.ledger_obligations.proofs.Walks.{found_from}
use Rattle.ledger_obligations.specs.Obligations.{is_named}
use Rattle.spread_notes.proofs.promises.method_named.Given as goal

-- what the rest of the walk finds is what the whole walk finds
abbrev pub invariant-loop-step : goal.invariant-loop-step
invariant-loop-step l = found_from l.p (is_named l.p l.name) (methods_of l.p) (l.step-end - l.step) l.next ≡ find (is_named l.p l.name) (flat_map (methods_of l.p) (super_classes l.p l.fn.class))

use Rattle.std.proofs.Common.{◌≡◌, take}
use Rattle.refusal_order.specs.Refusals.{least}
use Rattle.class_names.specs.Meanings.{unit_of}
use Rattle.class_order.specs.UnknownNames.{unknown_names}
use Rattle.class_order.proofs.unknown.unknown_names.Given as goal

abbrev pub invariant-loop-name : goal.invariant-loop-name
invariant-loop-name l = l.found ≡ least (unknown_names l.names (unit_of l.scope) (take l.name-index l.written))

use Rattle.std.proofs.Common.{◌≡◌, drop}
use Rattle.control_actions.specs.Exceptions.{heeded, with_classes}
use Rattle.control_actions.proofs.exceptions.add_heeded.Given as goal

abbrev pub invariant-loop-class : goal.invariant-loop-class
invariant-loop-class l = with_classes l.classes.items (heeded l.p (drop l.class-index l.more)) ≡ with_classes l.fn.classes.items (heeded l.p l.more)

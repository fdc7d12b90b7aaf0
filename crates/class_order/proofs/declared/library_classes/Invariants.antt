use Rattle.std.proofs.Common.{◌≡◌, map, take}
use Rattle.std.specs.Prelude.{filter}
use Rattle.class_order.specs.Declarations.{declaration_of, is_kept}
use Rattle.class_order.proofs.declared.library_classes.Given as goal

abbrev pub invariant-loop-stub : goal.invariant-loop-stub
invariant-loop-stub l = map declaration_of l.kept.items ≡ filter (is_kept l.core (map declaration_of l.stubs)) (map declaration_of (take l.stub-index l.stubs))

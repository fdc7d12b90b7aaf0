use Rattle.std.proofs.Common.{◌≡◌, ℕ, List, map, take}
use Rattle.rlc_base.specs.Names.{texts}
use Rattle.class_names.specs.ClassNames.{is_among}
use Rattle.class_order.specs.Declarations.{declaration_of, is_replaced}
use Rattle.class_order.proofs.declared.replacing_names.Given as goal

abbrev pub invariant-loop-stub : goal.invariant-loop-stub
invariant-loop-stub l = (q : List ℕ) → is_among (texts l.names.keys) q ≡ is_replaced (map declaration_of (take l.stub-index l.stubs)) q

use Rattle.std.proofs.Common.{◌≡◌, map, take}
use Rattle.class_order.specs.Declarations.{declaration_of}
use Rattle.super_obligations.specs.Obligations.{own_sets}
use Rattle.super_obligations.proofs.own_sets.own_sets.Given as goal

abbrev pub invariant-loop-class : goal.invariant-loop-class
invariant-loop-class l = l.owns.items ≡ own_sets (map declaration_of (take l.class-index l.order))

use Rattle.std.proofs.Common.{◌≡◌, map}
use Rattle.std.specs.Prelude.{flat_map}
use Rattle.std.specs.List.{range_with_len}
use Rattle.refusal_order.specs.Refusals.{least}
use Rattle.class_headers.specs.Cases.{bad_super_case}
use Rattle.class_order.specs.Declarations.{declaration_of}
use Rattle.class_headers.specs.SuperTypes.{supers_of}
use Rattle.class_headers.proofs.kinds.bad_supers.Given as goal

abbrev pub invariant-loop-number : goal.invariant-loop-number
invariant-loop-number l = l.found ≡ least (flat_map (bad_super_case (map declaration_of l.order) (map supers_of l.supers)) (range_with_len 0 l.number))

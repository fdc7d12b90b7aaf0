use Rattle.std.proofs.Common.{◌≡◌, take}
use Rattle.std.specs.List.{flat_map}
use Rattle.refusal_order.specs.Refusals.{least}
use Rattle.annotation_kinds.specs.Annotations.{is_of, kinds}
use Rattle.annotation_rules.specs.Declarations.{repeats}
use Rattle.annotation_rules.proofs.declaration.repeated_kinds.Given as goal

abbrev pub invariant-loop-kind : goal.invariant-loop-kind
invariant-loop-kind l = l.least ≡ least (flat_map (λ kind. repeats (is_of kind) l.annotations) (take l.kind-index kinds))

use Rattle.std.proofs.Common.{◌≡◌, take}
use Rattle.std.specs.List.{flat_map}
use Rattle.refusal_order.specs.Refusals.{least}
use Rattle.annotation_rules.specs.Declarations.{bad_annotation, speaks_of_owning}
use Rattle.annotation_rules.proofs.declaration.any_owning.Given as goal

abbrev pub invariant-loop-annotation : goal.invariant-loop-annotation
invariant-loop-annotation l = l.least ≡ least (flat_map (λ a. bad_annotation (speaks_of_owning a) a) (take l.annotation-index l.annotations))

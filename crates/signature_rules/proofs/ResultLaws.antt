-- The least refusal of each class.
use Rattle.std.proofs.Common.{◌≡◌, List}
use Rattle.std.specs.List.{flat_map}
use Rattle.rlc_base.specs.declared.faults.Refusal.{Refusal}
use Rattle.refusal_order.specs.Refusals.{least, least_of_all}
use Rattle.refusal_order.proofs.LeastLaws.{least-flat_map}

pub of_each : {X : Type 0} (g : X → List Refusal) (xs : List X) → least (flat_map g xs) ≡ least_of_all (λ x. least (g x)) xs
of_each g xs = least-flat_map g xs

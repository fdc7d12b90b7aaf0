use Rattle.std.proofs.Common.{◌≡◌, ◌-◌, length}
use Rattle.std.specs.List.{range_with_len, flat_map}
use Rattle.refusal_order.specs.Refusals.{least, least_of_all, lesser_of}
use Rattle.program_model.specs.Lookups.{class_at}
use Rattle.must_call_sets.specs.Overridings.{class_ids}
use Rattle.signature_rules.specs.OwnerCases.{owner_cases_in}
use Rattle.signature_rules.proofs.owners.refusal_of.Given as goal

abbrev pub invariant-loop-number : goal.invariant-loop-number
invariant-loop-number l =
    lesser_of l.least (least_of_all (λ k. least (owner_cases_in l.p (record { 0 = k }) (class_at l.p (record { 0 = k })))) (range_with_len l.number (length l.p.classes.items - l.number)))
    ≡ least (flat_map (λ c. owner_cases_in l.p c (class_at l.p c)) (class_ids l.p))

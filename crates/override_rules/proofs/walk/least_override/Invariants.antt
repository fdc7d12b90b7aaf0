use Rattle.std.proofs.Common.{◌≡◌, ◌-◌, length}
use Rattle.std.specs.List.{range_with_len, flat_map}
use Rattle.refusal_order.specs.Refusals.{least, least_of_all, lesser_of}
use Rattle.program_model.specs.Overrides.{overrides_in}
use Rattle.must_call_sets.specs.Overridings.{overridings}
use Rattle.override_rules.specs.Rules.{case_of, cases_of}
use Rattle.override_rules.proofs.walk.least_override.Given as goal

abbrev pub invariant-loop-number : goal.invariant-loop-number
invariant-loop-number l =
    lesser_of l.least (least_of_all (λ k. least_of_all (case_of l.rule l.p) (overrides_in l.p (record { 0 = k }))) (range_with_len l.number (length l.p.classes.items - l.number)))
    ≡ least (flat_map (cases_of l.rule l.p) (overridings l.p))

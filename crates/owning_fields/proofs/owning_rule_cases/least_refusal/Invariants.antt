use Rattle.std.proofs.Common.{◌≡◌, ◌-◌}
use Rattle.std.specs.List.{range_with_len}
use Rattle.must_call_sets.specs.OwningCases.{owning_cases}
use Rattle.refusal_order.specs.Refusals.{least, least_of_all, lesser_of}
use Rattle.owning_fields.proofs.OwningLaws.{refusal_of_field}
use Rattle.owning_fields.proofs.owning_rule_cases.least_refusal.Given as goal

abbrev pub invariant-loop-f : goal.invariant-loop-f
invariant-loop-f l = lesser_of l.found (least_of_all (refusal_of_field l.p) (range_with_len l.f (l.count - l.f))) ≡ least (owning_cases l.p)

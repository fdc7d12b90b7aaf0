use Rattle.std.proofs.Common.{◌≡◌, take}
use Rattle.must_call_sets.specs.ResetCases.{reset_cases_of_method}
use Rattle.refusal_order.specs.Refusals.{least, least_of_all}
use Rattle.must_call_reset.proofs.reset_rule_cases.least_of_methods.Given as goal

abbrev pub invariant-loop-method : goal.invariant-loop-method
invariant-loop-method l = l.found ≡ least_of_all (λ m. least (reset_cases_of_method l.p m)) (take l.method-index l.methods)

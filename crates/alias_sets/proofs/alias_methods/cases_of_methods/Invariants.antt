use Rattle.std.proofs.Common.{◌≡◌, take}
use Rattle.refusal_order.specs.Refusals.{least, least_of_all}
use Rattle.must_call_sets.specs.AliasCases.{alias_cases_of_method}
use Rattle.alias_sets.proofs.alias_methods.cases_of_methods.Given as goal

abbrev pub invariant-loop-method : goal.invariant-loop-method
invariant-loop-method l = l.least ≡ least_of_all (λ m. least (alias_cases_of_method l.p m)) (take l.method-index l.methods)

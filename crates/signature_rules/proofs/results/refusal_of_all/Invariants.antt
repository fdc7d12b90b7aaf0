use Rattle.std.proofs.Common.{◌≡◌, take}
use Rattle.refusal_order.specs.Refusals.{least, least_of_all}
use Rattle.signature_rules.specs.ResultCases.{result_cases_in}
use Rattle.signature_rules.proofs.results.refusal_of_all.Given as goal

abbrev pub invariant-loop-class : goal.invariant-loop-class
invariant-loop-class l = l.least ≡ least_of_all (λ k. least (result_cases_in l.p k)) (take l.class-index l.classes)

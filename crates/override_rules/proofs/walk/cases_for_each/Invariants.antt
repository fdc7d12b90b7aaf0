use Rattle.std.proofs.Common.{◌≡◌, take}
use Rattle.refusal_order.specs.Refusals.{least_of_all}
use Rattle.program_model.specs.Lookups.{method_at}
use Rattle.program_model.specs.Overrides.{overrides_of}
use Rattle.override_rules.specs.Rules.{case_of}
use Rattle.override_rules.proofs.walk.cases_for_each.Given as goal

abbrev pub invariant-loop-method : goal.invariant-loop-method
invariant-loop-method l = l.least ≡ least_of_all (λ n. least_of_all (case_of l.rule l.p) (overrides_of l.p l.class (method_at l.p n))) (take l.method-index l.methods)

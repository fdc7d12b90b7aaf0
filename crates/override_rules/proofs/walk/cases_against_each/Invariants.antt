use Rattle.std.proofs.Common.{◌≡◌, take, not, None}
use Rattle.std.specs.Prelude.{if◌then◌else◌}
use Rattle.refusal_order.specs.Refusals.{least_of_all}
use Rattle.program_model.specs.Lookups.{method_at}
use Rattle.program_model.specs.SuperTests.{is_class}
use Rattle.program_model.specs.Overrides.{methods_of, overrides_of}
use Rattle.override_rules.specs.Rules.{case_of}
use Rattle.override_rules.proofs.walk.cases_against_each.Given as goal

abbrev pub invariant-loop-other : goal.invariant-loop-other
invariant-loop-other l = l.least ≡ least_of_all (λ d. if not (is_class d l.class) then least_of_all (λ n. least_of_all (case_of l.rule l.p) (overrides_of l.p l.class (method_at l.p n))) (methods_of l.p d) else None) (take l.other-index l.above)

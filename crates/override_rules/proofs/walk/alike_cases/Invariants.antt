use Rattle.std.proofs.Common.{◌≡◌, take, None}
use Rattle.std.specs.Prelude.{if◌then◌else◌}
use Rattle.refusal_order.specs.Refusals.{least_of_all}
use Rattle.program_model.specs.Lookups.{method_at}
use Rattle.program_model.specs.Overrides.{is_alike, override_at}
use Rattle.override_rules.specs.Rules.{case_of}
use Rattle.override_rules.proofs.walk.alike_cases.Given as goal

abbrev pub invariant-loop-m : goal.invariant-loop-m
invariant-loop-m l = l.least ≡ least_of_all (λ m. if is_alike l.p l.n m then least_of_all (case_of l.rule l.p) (override_at l.n (method_at l.p m)) else None) (take l.m-index l.methods)

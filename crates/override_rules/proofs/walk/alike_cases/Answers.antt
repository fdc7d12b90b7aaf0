use Rattle.std.proofs.Common.{Option, None}
use Rattle.std.specs.Prelude.{if◌then◌else◌}
use Rattle.rlc_base.specs.declared.faults.Refusal.{Refusal}
use Rattle.refusal_order.specs.Refusals.{least_of_all}
use Rattle.refusal_order.proofs.LeastLaws.{least_next}
use Rattle.program_model.specs.declared.kinds.MethodId.{MethodId}
use Rattle.program_model.specs.Lookups.{method_at}
use Rattle.program_model.specs.Overrides.{is_alike, override_at}
use Rattle.override_rules.specs.Rules.{case_of}
use Rattle.override_rules.proofs.walk.alike_cases.Goals as goal

pub loop-m-preserved : goal.loop-m-preserved
loop-m-preserved c =
    let f : MethodId → Option Refusal = λ m. if is_alike c.args.p.now c.args.n.now m then least_of_all (case_of c.args.rule c.args.p.now) (override_at c.args.n.now (method_at c.args.p.now m)) else None in
    let next = least_next f c.args.methods.now c.loop-m.m-index (record { 0 = 0 }) c.loop-m-test.true in
    cc

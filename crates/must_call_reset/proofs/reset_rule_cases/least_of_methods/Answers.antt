use Rattle.std.proofs.Common.{Option}
use Rattle.rlc_base.specs.declared.faults.Refusal.{Refusal}
use Rattle.program_model.specs.declared.program.Method.{Method}
use Rattle.must_call_sets.specs.ResetCases.{reset_cases_of_method}
use Rattle.refusal_order.specs.Refusals.{least}
use Rattle.refusal_order.proofs.LeastLaws.{least_more}
use Rattle.must_call_reset.proofs.reset_rule_cases.least_of_methods.Goals as goal

pub loop-method-preserved : goal.loop-method-preserved
loop-method-preserved c =
    let f : Method → Option Refusal = λ m. least (reset_cases_of_method c.args.p.now m) in
    let more = least_more f c.args.methods.now c.loop-method.method-index c.method-item.result c.loop-method-test.true c.method-item.is in
    cc

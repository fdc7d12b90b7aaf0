use Rattle.std.proofs.Common.{◌∙◌, ap₂, Option}
use Rattle.rlc_base.specs.declared.faults.Refusal.{Refusal}
use Rattle.refusal_order.specs.Refusals.{least, lesser_of}
use Rattle.refusal_order.proofs.LeastLaws.{least_more}
use Rattle.program_model.specs.declared.program.Method.{Method}
use Rattle.must_call_sets.specs.AliasCases.{alias_cases_of_method}
use Rattle.alias_sets.proofs.alias_methods.cases_of_methods.Goals as goal

pub loop-method-preserved : goal.loop-method-preserved
loop-method-preserved c =
    let f : Method → Option Refusal = λ m. least (alias_cases_of_method c.args.p.now m) in
    c.lesser_of-least.ensures ∙ ap₂ lesser_of c.loop-method.invariant c.method_case.ensures
    ∙ least_more f c.args.methods.now c.loop-method.method-index c.method-item.result c.loop-method-test.true c.method-item.is

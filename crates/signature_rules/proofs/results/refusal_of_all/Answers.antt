use Rattle.std.proofs.Common.{◌∙◌, ap₂, Option}
use Rattle.rlc_base.specs.declared.faults.Refusal.{Refusal}
use Rattle.refusal_order.specs.Refusals.{least, lesser_of}
use Rattle.refusal_order.proofs.LeastLaws.{least_more}
use Rattle.program_model.specs.declared.program.Class.{Class}
use Rattle.signature_rules.specs.ResultCases.{result_cases_in}
use Rattle.signature_rules.proofs.results.refusal_of_all.Goals as goal

pub loop-class-preserved : goal.loop-class-preserved
loop-class-preserved c =
    let f : Class → Option Refusal = λ k. least (result_cases_in c.args.p.now k) in
    c.lesser_of-least.ensures ∙ ap₂ lesser_of c.loop-class.invariant c.refusal_of.ensures
    ∙ least_more f c.args.classes.now c.loop-class.class-index c.class-item.result c.loop-class-test.true c.class-item.is

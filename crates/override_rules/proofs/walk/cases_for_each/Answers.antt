use Rattle.std.proofs.Common.{◌∙◌, ap₂, Option}
use Rattle.rlc_base.specs.declared.faults.Refusal.{Refusal}
use Rattle.refusal_order.specs.Refusals.{least_of_all, lesser_of}
use Rattle.refusal_order.proofs.LeastLaws.{least_next}
use Rattle.program_model.specs.declared.kinds.MethodId.{MethodId}
use Rattle.program_model.specs.Lookups.{method_at}
use Rattle.program_model.specs.Overrides.{overrides_of}
use Rattle.override_rules.specs.Rules.{case_of}
use Rattle.override_rules.proofs.walk.cases_for_each.Goals as goal

pub loop-method-preserved : goal.loop-method-preserved
loop-method-preserved c =
    let f : MethodId → Option Refusal = λ n. least_of_all (case_of c.args.rule c.args.p.now) (overrides_of c.args.p.now c.args.class (method_at c.args.p.now n)) in
    let next = least_next f c.args.methods.now c.loop-method.method-index (record { 0 = 0 }) c.loop-method-test.true in
    c.lesser_of-least.ensures ∙ ap₂ lesser_of c.loop-method.invariant c.cases_for.ensures ∙ next

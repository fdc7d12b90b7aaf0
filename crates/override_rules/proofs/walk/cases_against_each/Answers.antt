use Rattle.std.proofs.Common.{◌∙◌, ap₂, Option, None, not}
use Rattle.std.specs.Prelude.{if◌then◌else◌}
use Rattle.rlc_base.specs.declared.faults.Refusal.{Refusal}
use Rattle.refusal_order.specs.Refusals.{least_of_all, lesser_of}
use Rattle.refusal_order.proofs.LeastLaws.{least_next}
use Rattle.program_model.specs.declared.kinds.ClassId.{ClassId}
use Rattle.program_model.specs.Lookups.{method_at}
use Rattle.program_model.specs.SuperTests.{is_class}
use Rattle.program_model.specs.Overrides.{methods_of, overrides_of}
use Rattle.override_rules.specs.Rules.{case_of}
use Rattle.override_rules.proofs.walk.cases_against_each.Goals as goal

pub loop-other-preserved : goal.loop-other-preserved
loop-other-preserved c =
    let f : ClassId → Option Refusal = λ d. if not (is_class d c.args.class) then least_of_all (λ n. least_of_all (case_of c.args.rule c.args.p.now) (overrides_of c.args.p.now c.args.class (method_at c.args.p.now n))) (methods_of c.args.p.now d) else None in
    let next = least_next f c.args.above.now c.loop-other.other-index (record { 0 = 0 }) c.loop-other-test.true in
    c.lesser_of-least.ensures ∙ ap₂ lesser_of c.loop-other.invariant c.cases_against.ensures ∙ next

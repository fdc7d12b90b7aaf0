use Rattle.std.proofs.Common.{ap, ap₂, ◌∙◌}
use Rattle.refusal_order.specs.Refusals.{least_of_all, lesser_of}
use Rattle.must_call_reset.proofs.ResetLaws.{all_resets, case_of_method}
use Rattle.must_call_reset.proofs.reset_rule_cases.least_refusal.Goals as goal

pub returns : goal.returns
returns c =
    let p = c.args.p.now in
    c.lesser_of.ensures
    ∙ ap₂ lesser_of (c.least_of_methods.ensures ∙ ap (least_of_all (case_of_method p)) c.deref.ensures.value) c.least_override.ensures
    ∙ all_resets p

use Rattle.std.proofs.Common.{◌≡◌, ◌∙◌, ◌+◌, ◌-◌, ◌<◌, ℕ, Option, length, sym, ap, arith}
use Rattle.rlc_base.specs.declared.faults.Refusal.{Refusal}
use Rattle.refusal_order.specs.Refusals.{least_of_all, lesser_of}
use Rattle.refusal_order.proofs.LeastLaws.{least_from}
use Rattle.std.specs.List.{range_with_len}
use Rattle.program_model.specs.Overrides.{overrides_in}
use Rattle.override_rules.specs.Rules.{case_of, cases_of}
use Rattle.override_rules.proofs.WalkLaws.{program_law}
use Rattle.override_rules.proofs.walk.least_override.Goals as goal

pub loop-number-init : goal.loop-number-init
loop-number-init c =
    let f : ℕ → Option Refusal = λ k. least_of_all (case_of c.args.rule c.args.p.now) (overrides_in c.args.p.now (record { 0 = k })) in
    let all : length c.args.p.now.classes.items - 0 ≡ length c.args.p.now.classes.items = omega arith in
    ap (λ n. least_of_all f (range_with_len 0 n)) all ∙ sym (program_law c.args.p.now (cases_of c.args.rule c.args.p.now))

pub loop-number-preserved : goal.loop-number-preserved
loop-number-preserved c =
    let f : ℕ → Option Refusal = λ k. least_of_all (case_of c.args.rule c.args.p.now) (overrides_in c.args.p.now (record { 0 = k })) in
    let count : ℕ = length c.args.p.now.classes.items in
    let below : c.loop-number.number < length c.args.p.now.classes.items = omega (arith, c.len-number-end.ensures) in
    let more : c.lesser_of-least.result ≡ lesser_of c.loop-number.least (f c.loop-number.number) = c.lesser_of-least.ensures ∙ ap (lesser_of c.loop-number.least) c.class_case.ensures in
    ap (λ x. lesser_of x (least_of_all f (range_with_len (c.loop-number.number + 1) (count - (c.loop-number.number + 1))))) more
    ∙ least_from f c.loop-number.least c.loop-number.number count below
    ∙ c.loop-number.invariant

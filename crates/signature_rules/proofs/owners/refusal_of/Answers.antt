use Rattle.std.proofs.Common.{◌≡◌, ◌∙◌, ◌+◌, ◌-◌, ◌<◌, ℕ, Option, List, length, sym, ap, arith}
use Rattle.std.specs.List.{range_with_len}
use Rattle.rlc_base.specs.declared.faults.Refusal.{Refusal}
use Rattle.refusal_order.specs.Refusals.{least, least_of_all, lesser_of}
use Rattle.refusal_order.proofs.LeastLaws.{least_from}
use Rattle.program_model.specs.declared.kinds.ClassId.{ClassId}
use Rattle.program_model.specs.Lookups.{class_at}
use Rattle.signature_rules.specs.OwnerCases.{owner_cases_in}
use Rattle.alias_sets.proofs.AliasLaws.{of_classes}
use Rattle.signature_rules.proofs.owners.refusal_of.Goals as goal

pub loop-number-init : goal.loop-number-init
loop-number-init c =
    let g : ClassId → List Refusal = λ k. owner_cases_in c.args.p.now k (class_at c.args.p.now k) in
    let f : ℕ → Option Refusal = λ k. least (g (record { 0 = k })) in
    let all : length c.args.p.now.classes.items - 0 ≡ length c.args.p.now.classes.items = omega arith in
    ap (λ n. least_of_all f (range_with_len 0 n)) all ∙ sym (of_classes c.args.p.now g)

pub loop-number-preserved : goal.loop-number-preserved
loop-number-preserved c =
    let f : ℕ → Option Refusal = λ k. least (owner_cases_in c.args.p.now (record { 0 = k }) (class_at c.args.p.now (record { 0 = k }))) in
    let count : ℕ = length c.args.p.now.classes.items in
    let below : c.loop-number.number < length c.args.p.now.classes.items = omega (arith, c.len-number-end.ensures) in
    let more : c.lesser_of-least.result ≡ lesser_of c.loop-number.least (f c.loop-number.number) = c.lesser_of-least.ensures ∙ ap (lesser_of c.loop-number.least) c.class_case.ensures in
    ap (λ x. lesser_of x (least_of_all f (range_with_len (c.loop-number.number + 1) (count - (c.loop-number.number + 1))))) more
    ∙ least_from f c.loop-number.least c.loop-number.number count below
    ∙ c.loop-number.invariant

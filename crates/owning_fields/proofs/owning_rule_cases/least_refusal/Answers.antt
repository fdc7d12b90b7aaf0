use Rattle.std.proofs.Common.{◌≡◌, ◌+◌, ◌-◌, length, ap, ◌∙◌, arith}
use Rattle.std.specs.List.{range_with_len}
use Rattle.refusal_order.specs.Refusals.{least_of_all, lesser_of}
use Rattle.refusal_order.proofs.LeastLaws.{least_from}
use Rattle.owning_fields.proofs.OwningLaws.{all_fields, refusal_of_field}
use Rattle.owning_fields.proofs.owning_rule_cases.least_refusal.Goals as goal

pub loop-f-init : goal.loop-f-init
loop-f-init c =
    let all : c.len-count.result - 0 ≡ length c.args.p.now.fields.items = omega arith in
    ap (λ n. least_of_all (refusal_of_field c.args.p.now) (range_with_len 0 n)) all ∙ all_fields c.args.p.now

pub loop-f-preserved : goal.loop-f-preserved
loop-f-preserved c =
    let p = c.args.p.now in
    let f = c.loop-f.f in
    let count = c.len-count.result in
    let given : c.lesser_of-found.result ≡ lesser_of c.loop-f.found (refusal_of_field p f) = c.lesser_of-found.ensures ∙ ap (lesser_of c.loop-f.found) c.refusal_at.ensures in
    ap (λ r. lesser_of r (least_of_all (refusal_of_field p) (range_with_len (f + 1) (count - (f + 1))))) given
    ∙ least_from (refusal_of_field p) c.loop-f.found f count c.loop-f-test.true ∙ c.loop-f.invariant

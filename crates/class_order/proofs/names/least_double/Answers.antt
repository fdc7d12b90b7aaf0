-- One class more.
use Rattle.std.proofs.Common.{◌∙◌, sym, map, get_or}
use Rattle.std.proofs.lemmas.List.{get_or_default}
use Rattle.refusal_order.specs.Refusals.{lesser_of}
use Rattle.class_order.specs.Cases.{double_case}
use Rattle.class_order.specs.Declarations.{declaration_of}
use Rattle.class_order.proofs.CaseLemmas.{least_more}
use Rattle.class_order.proofs.names.least_double.Goals as goal

pub loop-number-preserved : goal.loop-number-preserved
loop-number-preserved c =
    let i = c.loop-number.number-index in
    let doubles = c.args.doubles.now in
    let all = least_more (double_case (map declaration_of c.args.order.now)) doubles i (get_or doubles i 0) c.loop-number-test.true (get_or_default doubles i 0 (get_or doubles i 0) c.loop-number-test.true) in
    c.lesser_of-found.ensures ∙ (λ j. lesser_of (c.loop-number.invariant j) (c.double_case.ensures j)) ∙ sym all

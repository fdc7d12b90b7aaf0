-- One class more.
use Rattle.std.proofs.Common.{◌∙◌, sym}
use Rattle.refusal_order.specs.Refusals.{lesser_of}
use Rattle.class_order.specs.Declarations.{declaration_of}
use Rattle.class_order.proofs.CaseLemmas.{least_more_of}
use Rattle.class_checks.specs.TypeCases.{type_cases}
use Rattle.class_checks.proofs.types.type_refusal.Goals as goal

pub loop-class-preserved : goal.loop-class-preserved
loop-class-preserved c =
    c.lesser_of-found.ensures ∙ (λ j. lesser_of (c.loop-class.invariant j) (c.type_case.ensures j))
    ∙ sym (least_more_of declaration_of (type_cases c.args.names.now) c.args.order.now c.loop-class.class-index c.class-item.result c.loop-class-test.true c.class-item.is)

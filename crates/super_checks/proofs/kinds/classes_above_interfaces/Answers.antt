-- One class more.
use Rattle.std.proofs.Common.{◌∙◌, sym}
use Rattle.refusal_order.specs.Refusals.{lesser_of}
use Rattle.class_order.specs.Declarations.{declaration_of}
use Rattle.class_order.proofs.CaseLemmas.{least_more_of}
use Rattle.super_checks.specs.SuperCases.{class_above_interface}
use Rattle.super_checks.proofs.kinds.classes_above_interfaces.Goals as goal

pub loop-class-preserved : goal.loop-class-preserved
loop-class-preserved c =
    c.lesser_of-found.ensures ∙ (λ j. lesser_of (c.loop-class.invariant j) (c.class_above_interface.ensures j))
    ∙ sym (least_more_of declaration_of class_above_interface c.args.order.now c.loop-class.class-index c.class-item.result c.loop-class-test.true c.class-item.is)

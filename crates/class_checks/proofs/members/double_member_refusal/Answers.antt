-- One class more.
use Rattle.std.proofs.Common.{◌∙◌, sym}
use Rattle.refusal_order.specs.Refusals.{lesser_of}
use Rattle.class_order.specs.Declarations.{declaration_of}
use Rattle.class_order.proofs.CaseLemmas.{least_more_of}
use Rattle.class_checks.specs.DoubleMembers.{double_members}
use Rattle.class_checks.proofs.members.double_member_refusal.Goals as goal

pub loop-class-preserved : goal.loop-class-preserved
loop-class-preserved c =
    c.lesser_of-found.ensures ∙ (λ j. lesser_of (c.loop-class.invariant j) (c.in_ok-own.ensures j))
    ∙ sym (least_more_of declaration_of (double_members c.args.names.now) c.args.order.now c.loop-class.class-index c.class-item.result c.loop-class-test.true c.class-item.is)

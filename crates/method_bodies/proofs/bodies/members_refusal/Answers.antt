-- One more.
use Rattle.std.proofs.Common.{◌∙◌, sym}
use Rattle.refusal_order.specs.Refusals.{lesser_of}
use Rattle.class_order.proofs.CaseLemmas.{least_more}
use Rattle.method_bodies.specs.MethodBodies.{member_case}
use Rattle.method_bodies.proofs.bodies.members_refusal.Goals as goal

pub loop-member-preserved : goal.loop-member-preserved
loop-member-preserved c =
    c.lesser_of-found.ensures ∙ (λ j. lesser_of (c.loop-member.invariant j) (c.member_case.ensures j))
    ∙ sym (least_more (member_case c.args.class.now) c.args.members.now c.loop-member.member-index c.member-item.result c.loop-member-test.true c.member-item.is)

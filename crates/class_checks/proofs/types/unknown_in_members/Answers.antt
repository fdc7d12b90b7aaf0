-- One member more.
use Rattle.std.proofs.Common.{◌∙◌, sym}
use Rattle.refusal_order.specs.Refusals.{lesser_of}
use Rattle.class_names.specs.Meanings.{unit_of}
use Rattle.class_order.proofs.CaseLemmas.{least_more}
use Rattle.class_checks.specs.TypeCases.{unknown_in_member}
use Rattle.class_checks.proofs.types.unknown_in_members.Goals as goal

pub loop-member-preserved : goal.loop-member-preserved
loop-member-preserved c =
    c.lesser_of-found.ensures ∙ (λ j. lesser_of (c.loop-member.invariant j) (c.unknown_in_member.ensures j))
    ∙ sym (least_more (unknown_in_member c.args.names.now (unit_of c.args.scope.now)) c.args.members.now c.loop-member.member-index c.member-item.result c.loop-member-test.true c.member-item.is)

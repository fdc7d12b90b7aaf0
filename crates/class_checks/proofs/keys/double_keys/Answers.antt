-- One member more.
use Rattle.std.proofs.Common.{◌∙◌, ap, map, take, drop, []}
use Rattle.std.proofs.Common.{◌+◌}
use Rattle.rlc_base.specs.Names.{texts}
use Rattle.refusal_order.specs.Refusals.{least, lesser_of}
use Rattle.class_checks.specs.MemberKeys.{double_keys, keyed_of}
use Rattle.class_checks.proofs.DoubleLemmas.{double_all, double_next, seen_more}
use Rattle.class_checks.proofs.keys.double_keys.Goals as goal

pub loop-member-preserved : goal.loop-member-preserved
loop-member-preserved c =
    let members = c.args.members.now in
    let i = c.loop-member.member-index in
    let m = c.member-item.result in
    let rest = least (double_keys (map keyed_of (take (i + 1) members)) (map keyed_of (drop (i + 1) members))) in
    record {
      seen = seen_more members i m (texts c.loop-member.seen.keys) (texts c.double_key.new.seen.keys) c.loop-member-test.true c.member-item.is c.loop-member.invariant.seen c.in_ok-own.ensures.seen;
      least = ap (λ o. lesser_of o rest) c.lesser_of-found.ensures
          ∙ double_next members i m (texts c.loop-member.seen.keys) c.loop-member.found c.in_ok-own.own (least (double_keys [] (map keyed_of members))) c.loop-member-test.true c.member-item.is c.loop-member.invariant.seen c.in_ok-own.ensures.case c.loop-member.invariant.least;
    }

pub returns : goal.returns
returns c =
    let members = c.args.members.now in
    double_all members c.loop-member.member-index c.loop-member.found (least (double_keys [] (map keyed_of members))) (map keyed_of (take c.loop-member.member-index members)) c.loop-member-test.false c.loop-member.invariant.least

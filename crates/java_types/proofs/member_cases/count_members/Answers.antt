use Rattle.std.proofs.Common.{◌<◌, ◌++◌, length, arith}
use Rattle.java_types.specs.ProgramCases.{member_cases}
use Rattle.java_types.proofs.MemberSteps.{members_step}
use Rattle.java_types.proofs.member_cases.count_members.Goals as goal

pub loop-number-preserved : goal.loop-number-preserved
loop-number-preserved c =
    let below : c.loop-number.number < length c.args.p.now.classes.items = omega (arith, c.in_ok-number-end.ensures, c.loop-number-test.true) in
    members_step c.args.p.now (c.args.refusals.now.items ++ member_cases c.args.p.now) c.loop-number.refusals.items c.count_class.new.refusals.items c.loop-number.number below c.in_ok-count_class.ensures c.loop-number.invariant

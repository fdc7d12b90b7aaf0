use Rattle.std.proofs.Common.{◌≡◌, [], map, take, drop}
use Rattle.rlc_base.specs.Names.{texts}
use Rattle.refusal_order.specs.Refusals.{least, lesser_of}
use Rattle.class_checks.specs.MemberKeys.{double_keys, keyed_of}
use Rattle.class_checks.proofs.DoubleLemmas.{AreSeen}
use Rattle.class_checks.proofs.keys.double_keys.Given as goal

abbrev pub invariant-loop-member : goal.invariant-loop-member
invariant-loop-member l = record {
  seen : AreSeen (texts l.seen.keys) (map keyed_of (take l.member-index l.members));
  least : lesser_of l.found (least (double_keys (map keyed_of (take l.member-index l.members)) (map keyed_of (drop l.member-index l.members)))) ≡ least (double_keys [] (map keyed_of l.members));
}

-- The list has the members by the law on what it computes.
use Rattle.std.proofs.lemmas.Result.{IfOk-weaker}
use Rattle.class_members.proofs.MemberLaws.{listed_are_members}
use Rattle.class_members.proofs.methods.methods_named.Goals as goal

pub returns-clause-members : goal.returns-clause-members
returns-clause-members c = IfOk-weaker c.members.result _ _ (λ v same. listed_are_members c.args.p.now c.args.from c.args.class c.args.name.now v.items same) c.members.ensures

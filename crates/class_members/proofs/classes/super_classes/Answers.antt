-- A class is found and its super class comes next, or there is none.
use Rattle.std.proofs.Common.{arith}
use Rattle.std.proofs.lemmas.Grind.{common_steps}
use Rattle.class_members.proofs.Chains.{chain_more}
use Rattle.class_members.proofs.classes.super_classes.Goals as goal
use Rattle.class_members.proofs.classes.super_classes.Goals.{in-None, in-Some+in_ok-push-in-Some}

pub loop-step-preserved : goal.loop-step-preserved
loop-step-preserved c = elim c.match-next.branch [ in-None w ↦ grind (arith, common_steps) | in-Some+in_ok-push-in-Some w ↦ grind (arith, common_steps, chain_more) ]

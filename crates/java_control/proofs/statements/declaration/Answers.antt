-- What one element more gives stands before the list.
use Rattle.std.proofs.Common.{◌-◌, arith}
use Rattle.java_control.specs.Statements.{declarator_front}
use Rattle.control_actions.proofs.TableLemmas.{keeps_self, keeps_trans}
use Rattle.java_control.proofs.LoopLemmas.{flat_before, flat_none}
use Rattle.java_control.proofs.statements.declaration.Goals as goal

pub loop-left-init : goal.loop-left-init
loop-left-init c = record {
  list = flat_none (declarator_front c.args.body.now c.args.d) c.args.names.now _;
  within = c.requires;
  kept = keeps_self _;
  some = omega arith;
}

pub loop-left-preserved : goal.loop-left-preserved
loop-left-preserved c = record {
  list = flat_before (declarator_front c.args.body.now c.args.d) c.args.names.now c.loop-left.left (c.loop-left.left - 1) _ _ _ _ (omega arith) (omega arith) c.in_ok-at.ensures.list c.loop-left.invariant.list;
  within = c.in_ok-at.ensures.within;
  kept = keeps_trans _ _ _ c.loop-left.invariant.kept c.in_ok-at.ensures.kept;
  some = omega arith;
}

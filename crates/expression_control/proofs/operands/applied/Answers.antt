-- One operand more stands before the list.
use Rattle.std.proofs.Common.{◌-◌, ap, arith}
use Rattle.control_actions.specs.Remaining.{todos}
use Rattle.control_actions.proofs.TableLemmas.{keeps_trans}
use Rattle.expression_control.proofs.OperandLemmas.{operand_before, operands_none}
use Rattle.expression_control.proofs.operands.applied.Goals as goal

pub loop-left-init : goal.loop-left-init
loop-left-init c = record {
  list = operands_none c.args.operands.now c.args.end _ _ (ap todos c.in_ok-at.ensures.list);
  within = c.in_ok-at.ensures.within;
  kept = c.in_ok-at.ensures.kept;
  some = omega arith;
  depth = c.requires.end;
}

pub loop-left-preserved : goal.loop-left-preserved
loop-left-preserved c = record {
  list = operand_before c.loop-left.lists.cells.keys _ c.args.operands.now c.loop-left.left (c.loop-left.left - 1) c.loop-left.here (c.loop-left.here - 1) _ c.loop-left.at _ _ (omega arith) (omega arith) (omega arith) c.in_ok-at-2.ensures.list c.loop-left.invariant.list;
  within = c.in_ok-at-2.ensures.within;
  kept = keeps_trans _ _ _ c.loop-left.invariant.kept c.in_ok-at-2.ensures.kept;
  some = omega arith;
  depth = omega arith;
}

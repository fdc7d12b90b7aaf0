-- What one element more gives stands before the list.
use Rattle.std.proofs.Common.{◌-◌, ap, arith}
use Rattle.program_model.specs.declared.kinds.StmtId.{StmtId}
use Rattle.control_actions.specs.Remaining.{Do, todos}
use Rattle.control_actions.proofs.TableLemmas.{keeps_self, keeps_trans}
use Rattle.java_control.proofs.LoopLemmas.{map_before, map_none}
use Rattle.java_control.proofs.statements.dos.Goals as goal

pub loop-left-init : goal.loop-left-init
loop-left-init c = record {
  list = map_none (λ (s : StmtId). Do s c.args.d) c.args.statements.now _;
  within = c.requires;
  kept = keeps_self _;
  some = omega arith;
}

pub loop-left-preserved : goal.loop-left-preserved
loop-left-preserved c = record {
  list = map_before (λ (s : StmtId). Do s c.args.d) c.args.statements.now c.loop-left.left (c.loop-left.left - 1) _ _ _ _ (omega arith) (omega arith) (ap todos c.in_ok-at.ensures.list) c.loop-left.invariant.list;
  within = c.in_ok-at.ensures.within;
  kept = keeps_trans _ _ _ c.loop-left.invariant.kept c.in_ok-at.ensures.kept;
  some = omega arith;
}

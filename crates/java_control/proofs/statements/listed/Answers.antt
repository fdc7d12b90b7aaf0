-- What one element more gives stands before the list.
use Rattle.std.proofs.Common.{◌-◌, arith}
use Rattle.program_model.specs.declared.kinds.StmtId.{StmtId}
use Rattle.program_model.specs.Lookups.{statement_at}
use Rattle.java_control.specs.Statements.{first_items_at}
use Rattle.control_actions.proofs.TableLemmas.{keeps_self, keeps_trans}
use Rattle.java_control.proofs.LoopLemmas.{flat_before, flat_none}
use Rattle.java_control.proofs.statements.listed.Goals as goal

pub loop-left-init : goal.loop-left-init
loop-left-init c = record {
  list = flat_none (λ (s : StmtId). first_items_at s (statement_at c.args.body.now s)) c.args.statements.now _;
  within = c.requires;
  kept = keeps_self _;
  some = omega arith;
}

pub loop-left-preserved : goal.loop-left-preserved
loop-left-preserved c = record {
  list = flat_before (λ (s : StmtId). first_items_at s (statement_at c.args.body.now s)) c.args.statements.now c.loop-left.left (c.loop-left.left - 1) _ _ _ _ (omega arith) (omega arith) c.in_ok-at.ensures.list c.loop-left.invariant.list;
  within = c.in_ok-at.ensures.within;
  kept = keeps_trans _ _ _ c.loop-left.invariant.kept c.in_ok-at.ensures.kept;
  some = omega arith;
}

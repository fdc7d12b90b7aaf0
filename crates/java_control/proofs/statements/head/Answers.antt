-- What one element more gives stands before the list.
use Rattle.std.proofs.Common.{◌-◌, ◌∙◌, ◌++◌, ap, arith, get_or}
use Rattle.program_model.specs.declared.kinds.ExprId.{ExprId}
use Rattle.java_control.specs.Statements.{expression_statement}
use Rattle.control_actions.specs.Remaining.{expression_place, todos}
use Rattle.control_actions.specs.Tables.{list_at}
use Rattle.control_actions.proofs.TableLemmas.{keeps_self, keeps_trans}
use Rattle.java_control.proofs.LoopLemmas.{flat_before, flat_none}
use Rattle.java_control.proofs.statements.head.Goals as goal

pub loop-left-init : goal.loop-left-init
loop-left-init c = record {
  list = flat_none (λ (e : ExprId). expression_statement e c.args.d (expression_place c.args.body.now e)) c.args.expressions.now _;
  within = c.requires;
  kept = keeps_self _;
  some = omega arith;
}

pub loop-left-preserved : goal.loop-left-preserved
loop-left-preserved c = record {
  list = flat_before (λ (e : ExprId). expression_statement e c.args.d (expression_place c.args.body.now e)) c.args.expressions.now c.loop-left.left (c.loop-left.left - 1) (record { 0 = 0 }) _ _ _ (omega arith) (omega arith) (c.in_ok-at.ensures.list ∙ ap (λ pos. expression_statement (get_or c.args.expressions.now (c.loop-left.left - 1) (record { 0 = 0 })) c.args.d pos ++ todos (list_at c.loop-left.lists.cells.keys c.loop-left.at)) c.expression_place.ensures) c.loop-left.invariant.list;
  within = c.in_ok-at.ensures.within;
  kept = keeps_trans _ _ _ c.loop-left.invariant.kept c.in_ok-at.ensures.kept;
  some = omega arith;
}

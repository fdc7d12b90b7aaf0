-- One item more stands before the list.
use Rattle.std.proofs.Common.{◌-◌, arith}
use Rattle.control_actions.specs.declared.item.Item.TheVariants as items
use Rattle.control_actions.proofs.PushLemmas.{highest_at, pushed_before, pushed_none}
use Rattle.control_actions.proofs.TableLemmas.{keeps_self, keeps_trans}
use Rattle.control_actions.proofs.lists.Lists.push_all.Goals as goal

pub loop-left-init : goal.loop-left-init
loop-left-init c = record {
  list = pushed_none c.args.self.now.cells.keys c.args.items.now c.args.tail;
  within = omega arith;
  kept = keeps_self c.args.self.now.cells.keys;
  some = omega arith;
}

pub push-requires : goal.push-requires
push-requires c =
    let grows = c.loop-left.invariant.kept.grows in
    let one = highest_at c.args.items.now (c.loop-left.left - 1) (items.Do (record { 0 = 0 }) 0) (omega arith) in
    omega (arith, grows, one)

pub loop-left-preserved : goal.loop-left-preserved
loop-left-preserved c = record {
  list = pushed_before _ c.loop-left.self.cells.keys _ c.args.items.now c.loop-left.left (c.loop-left.left - 1) _ c.args.tail c.loop-left.at c.in_ok-at.at c.loop-left.invariant.kept (omega arith) (omega arith) (omega arith) c.in_ok-at.ensures.list c.loop-left.invariant.list;
  within = c.in_ok-at.ensures.within;
  kept = keeps_trans _ _ _ c.loop-left.invariant.kept c.in_ok-at.ensures.kept;
  some = omega arith;
}

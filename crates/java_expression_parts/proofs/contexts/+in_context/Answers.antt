-- One part more is in the context, and all else is as it was.
use Rattle.std.proofs.Common.{◌∙◌, ap, sym, Some, map, rules, arith}
use Rattle.std.proofs.lemmas.Grind.{common_steps}
use Rattle.std.specs.Vec.{with_item}
use Rattle.java_typed_trees.specs.declared.trees.ExpressionTree.{the_lemmas}
use Rattle.java_typed_trees.specs.declared.trees.ExpressionTree.TheViews.{out-ExpressionTree, out-roll-ExpressionTree, roll-ExpressionTree}
use Rattle.java_typed_trees.specs.ExpressionTrees.{tree_of}
use Rattle.java_expression_parts.proofs.ContextLaws.{changed, changed_node, one_part_more, unchanged_node, unvisited_more}
use Rattle.java_expression_parts.proofs.contexts.+in_context.Goals as goal

pub loop-number-preserved : goal.loop-number-preserved
loop-number-preserved t c =
    let n = c.loop-number.number in
    let v = c.in_context.new.tree in
    let d = c.index_mut.result.now in
    let was = out-ExpressionTree c.loop-number.tree in
    let rolled = out-roll-ExpressionTree (record was { parts = with_item was.parts n v }) in
    let start = roll-ExpressionTree (record (out-ExpressionTree c.args.tree.now) { vtype = Some c.args.wanted }) in
    let ys = (out-ExpressionTree start).parts.items in
    let inv = c.loop-number.invariant in
    record {
      unvisited = unvisited_more n was.parts.items _ ys v (ap (λ r. r.parts.items) rolled) inv.unvisited;
      shape = ap (λ r. r.shape) rolled ∙ inv.shape;
      place = ap (λ r. r.pos) rolled ∙ inv.place;
      type = ap (λ r. r.vtype) rolled ∙ inv.type;
      parts = one_part_more c.args.wanted n was.parts.items _ ys v d (ap (λ r. r.parts.items) rolled) inv.parts (grind (arith, common_steps)) (search (rules, the_lemmas, arith)) c.in_context.ensures (sym (c.index_mut.ensures.value ∙ inv.unvisited.1 n d (omega arith)));
    }

pub returns-else-takes_context : goal.returns-else-takes_context
returns-else-takes_context t c = sym (unchanged_node c.args.wanted c.args.tree.now (sym c.takes_context.ensures ∙ c.if-takes_context.false))

pub returns-after-loop-number : goal.returns-after-loop-number
returns-after-loop-number t c =
    let rolled = out-roll-ExpressionTree (record (out-ExpressionTree c.args.tree.now) { vtype = Some c.args.wanted }) in
    let inv = c.loop-number.invariant in
    changed_node c.args.wanted c.loop-number.number c.args.tree.now c.loop-number.tree (sym c.takes_context.ensures ∙ c.if-takes_context.true) (inv.shape ∙ ap (λ r. r.shape) rolled) (inv.place ∙ ap (λ r. r.pos) rolled) (inv.type ∙ ap (λ r. r.vtype) rolled) (inv.parts ∙ ap (λ r. changed c.args.wanted c.loop-number.number (map tree_of r.parts.items)) rolled) (search (rules, the_lemmas, arith))

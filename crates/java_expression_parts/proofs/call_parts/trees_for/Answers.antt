-- One argument more stands in the context of its parameter.
use Rattle.std.proofs.Common.{◌∙◌, ap, sym, map, arith}
use Rattle.std.proofs.lemmas.Grind.{common_steps}
use Rattle.java_typed_trees.specs.ExpressionTrees.{tree_of}
use Rattle.java_expression_parts.proofs.ArgumentLaws.{no_argument, one_argument_more}
use Rattle.java_expression_parts.proofs.call_parts.trees_for.Goals as goal

pub loop-argument-init : goal.loop-argument-init
loop-argument-init c = ap (map tree_of) c.new-trees.ensures.items ∙ sym (no_argument (map (λ x. x.vtype) c.parameters_of-params.result.now))

pub loop-argument-preserved : goal.loop-argument-preserved
loop-argument-preserved c = ap (map tree_of) c.in_ok-push.ensures.items ∙ one_argument_more (map (λ x. x.vtype) c.parameters_of-params.result.now) c.loop-argument.trees.items c.loop-argument.yielded c.in_context_of-tree.result c.in-Some.argument c.len.result c.loop-argument.invariant (grind (arith, common_steps)) c.in_context_of-tree.ensures

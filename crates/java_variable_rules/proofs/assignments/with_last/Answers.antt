-- The last tree stands behind those of the list.
use Rattle.std.proofs.Common.{◌∙◌, ◌∷◌, [], ap, map}
use Rattle.std.proofs.lemmas.List.{map-append}
use Rattle.java_typed_trees.specs.ExpressionTrees.{expressions, tree_of}
use Rattle.java_expression_parts.proofs.ArgumentLaws.{last_of}
use Rattle.java_variable_rules.proofs.assignments.with_last.Goals as goal

pub returns : goal.returns
returns c = ap (λ xs. expressions (map tree_of xs)) c.in_ok-push.ensures.items ∙ ap expressions (map-append tree_of c.args.parts.items (c.args.last ∷ [])) ∙ last_of (map tree_of c.args.parts.items) (tree_of c.args.last)

use Rattle.std.proofs.Common.{◌≡◌, ℕ, ◌+◌, map, ap, subst, arith}
use Rattle.std.specs.Prelude.{IfOk}
use Rattle.std.proofs.lemmas.Grind.{common_steps}
use Rattle.java_typed_trees.specs.ExpressionTrees.{expressions, tree_of}
use Rattle.java_laying.specs.Flat.{size, sizes}
use Rattle.java_laying.proofs.Nodes.{size_of_node}
use Rattle.tree_sizes.proofs.expression_sizes.+expression_sizes.Goals as goal

pub expression_size-returns : goal.expression_size-returns
expression_size-returns t c =
    let parts = ap (λ es. sizes (expressions (map tree_of es))) c.deref.ensures.value in
    let whole = size_of_node c.args.tree.now in
    let total : c.in_ok-expression_sizes.field-0 + 1 ≡ size (tree_of c.args.tree.now) = first_of (omega (arith, c.in_ok-expression_sizes.ensures, parts, whole), grind (arith, common_steps, size_of_node)) in
    let P : ℕ → Type 0 = λ m. IfOk c.sum.result (λ n. n ≡ m) in
    subst P total c.sum.ensures

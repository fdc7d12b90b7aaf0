use Rattle.std.proofs.Common.{◌≡◌, ℕ, ◌+◌, map, ap, subst, arith}
use Rattle.std.specs.Prelude.{IfOk}
use Rattle.std.proofs.lemmas.Grind.{common_steps}
use Rattle.java_typed_trees.specs.ExpressionTrees.{expressions, tree_of}
use Rattle.java_typed_trees.specs.StatementTrees.{statement_of, statements}
use Rattle.java_laying.specs.Flat.{sizes}
use Rattle.java_laying.specs.StatementFlat.{expression_count, expression_counts}
use Rattle.java_laying.proofs.StatementNodes.{count_of_statement}
use Rattle.tree_sizes.proofs.statement_sizes.+expression_counts.Goals as goal

pub expression_count-returns : goal.expression_count-returns
expression_count-returns t c =
    let own = ap (λ es. sizes (expressions (map tree_of es))) c.deref.ensures.value in
    let inner = ap (λ ts. expression_counts (statements (map statement_of ts))) c.deref-2.ensures.value in
    let whole = count_of_statement c.args.tree.now in
    let total : c.in_ok-expression_sizes.field-0 + c.in_ok-expression_counts.field-0 ≡ expression_count (statement_of c.args.tree.now) = first_of (omega (arith, c.in_ok-expression_sizes.ensures, c.in_ok-expression_counts.ensures, own, inner, whole), grind (arith, common_steps, count_of_statement)) in
    let P : ℕ → Type 0 = λ m. IfOk c.sum.result (λ n. n ≡ m) in
    subst P total c.sum.ensures

use Rattle.std.proofs.Common.{◌≡◌, ℕ, ◌+◌, map, ap, subst, arith}
use Rattle.std.specs.Prelude.{IfOk}
use Rattle.std.proofs.lemmas.Grind.{common_steps}
use Rattle.java_typed_trees.specs.StatementTrees.{statement_of, statements}
use Rattle.java_laying.specs.StatementFlat.{statement_size, statement_sizes}
use Rattle.java_laying.proofs.StatementNodes.{size_of_statement}
use Rattle.tree_sizes.proofs.statement_sizes.+statement_sizes.Goals as goal

pub statement_size-returns : goal.statement_size-returns
statement_size-returns t c =
    let inner = ap (λ ts. statement_sizes (statements (map statement_of ts))) c.deref.ensures.value in
    let whole = size_of_statement c.args.tree.now in
    let total : c.in_ok-statement_sizes.field-0 + 1 ≡ statement_size (statement_of c.args.tree.now) = first_of (omega (arith, c.in_ok-statement_sizes.ensures, inner, whole), grind (arith, common_steps, size_of_statement)) in
    let P : ℕ → Type 0 = λ m. IfOk c.sum.result (λ n. n ≡ m) in
    subst P total c.sum.ensures

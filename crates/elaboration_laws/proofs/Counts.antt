-- Numbers that count on from one to another.
use Rattle.std.proofs.Common.{◌≡◌, refl, sym, subst, arith, ℕ, suc, ◌+◌, List, [], ◌∷◌, ◌++◌, length}
use Rattle.program_model.specs.TextOrder.{IsCount}
use Rattle.java_syntax.specs.StatementTrees.{VariableTree}
use Rattle.java_typing_laws.specs.Declarations.{declarators}
use Rattle.elaboration_laws.specs.DeclaredVariables.{names_of}

pub both_count : (first middle last : ℕ) (xs ys : List ℕ) → IsCount first middle xs → IsCount middle last ys → IsCount first last (xs ++ ys)
both_count first middle last [] ys is count = subst (λ n. IsCount n last ys) (sym is) count
both_count first middle last (x ∷ xs) ys more count = (more.0, both_count (first + 1) middle last xs ys more.1 count)

pub ends_at : (first last end : ℕ) (xs : List ℕ) → last ≡ end → IsCount first last xs → IsCount first end xs
ends_at first last end xs same count = subst (λ n. IsCount first n xs) same count

pub declarators_count : (n : ℕ) (vs : List VariableTree) → IsCount n (n + length vs) (names_of (declarators n vs))
declarators_count n [] = omega arith
declarators_count n (v ∷ vs) =
    let next : n + 1 + length vs ≡ n + suc (length vs) = omega arith in
    (refl, ends_at (n + 1) (n + 1 + length vs) (n + suc (length vs)) (names_of (declarators (n + 1) vs)) next (declarators_count (n + 1) vs))

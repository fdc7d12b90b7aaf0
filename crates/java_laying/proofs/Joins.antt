-- Lists that are parts of a longer one.
use Rattle.std.proofs.Common.{◌≡◌, ◌+◌, ◌++◌, ◌∷◌, [], ℕ, List, Some, length, slice_get, refl, ap, ◌∙◌, arith}
use Rattle.std.proofs.lemmas.List.{append_assoc}
use Rattle.std.proofs.lemmas.Grind.{common_steps}

pub get_behind : {X : Type 0} (xs : List X) (y : X) (ys : List X) → slice_get (xs ++ y ∷ ys) (length xs) ≡ Some y
get_behind [] y ys = refl
get_behind (x ∷ xs) y ys = get_behind xs y ys

-- the cell at its number
pub get_node : {X : Type 0} (before cells after : List X) (c : X) (n m : ℕ) → length before ≡ n → length cells ≡ m → slice_get (before ++ (cells ++ c ∷ []) ++ after) (n + m) ≡ Some c
get_node before cells after c n m e d =
    let shown : before ++ (cells ++ c ∷ []) ++ after ≡ (before ++ cells) ++ c ∷ after = grind (arith, common_steps, append_assoc) in
    let long : n + m ≡ length (before ++ cells) = grind (arith, common_steps) in
    ap (λ xs. slice_get xs (n + m)) shown ∙ ap (λ k. slice_get ((before ++ cells) ++ c ∷ after) k) long ∙ get_behind (before ++ cells) c after

pub inside : {X : Type 0} (before parts after : List X) (c : X) → before ++ parts ++ (c ∷ after) ≡ before ++ (parts ++ c ∷ []) ++ after
inside before parts after c = grind (arith, common_steps, append_assoc)

pub first_inside : {X : Type 0} (before xs ys after : List X) → before ++ xs ++ (ys ++ after) ≡ before ++ (xs ++ ys) ++ after
first_inside before xs ys after = grind (arith, common_steps, append_assoc)

pub more_inside : {X : Type 0} (before xs ys after : List X) → (before ++ xs) ++ ys ++ after ≡ before ++ (xs ++ ys) ++ after
more_inside before xs ys after = grind (arith, common_steps, append_assoc)

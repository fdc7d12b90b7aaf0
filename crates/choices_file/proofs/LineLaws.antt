-- The lines of a text.
use Rattle.std.proofs.Common.{Bor, ◌≡◌, ℕ, ◌^◌, ◌<◌, ◌==◌, List, [], ◌∷◌, length, map, refl, ap, arith}
use Rattle.std.specs.List.{slice_split}
use Rattle.std.specs.Prelude.{◌-◌}
use Rattle.std.proofs.lemmas.List.{length-map}
use Rattle.std.proofs.lemmas.List.Splits.{length-slice_split}
use Rattle.std.proofs.lemmas.List.Sums.{count_by-le-length}
use Rattle.choices_file.specs.Lines.{meaning}
use Rattle.choices_file.specs.Files.{lines_in}

-- references and what is read through them
pub meanings_map : (xs : List (Bor (List ℕ))) → map (λ x. meaning x.now) xs ≡ map meaning (map (λ x. x.now) xs)
meanings_map [] = refl
meanings_map (x ∷ xs) = ap (λ rest. meaning x.now ∷ rest) (meanings_map xs)

-- a text has at most one line more than bytes
pub lines_fit : (bytes : List ℕ) → length bytes < 2 ^ 32 - 1 → length (lines_in bytes) < 2 ^ 32
lines_fit bytes fits =
    let whole : length (lines_in bytes) ≡ length (slice_split (λ b. b == 10) bytes) = length-map (slice_split (λ b. b == 10) bytes) meaning in
    let parts = length-slice_split (λ b. b == 10) bytes in
    let least = count_by-le-length (λ b. b == 10) bytes in
    omega arith

-- Numbers in decimal.
use Rattle.std.proofs.Common.{◌≡◌, ◌∙◌, ℕ, ◌+◌, ◌<◌, ◌≤◌, Bool, true, false, Some, None, ◌&&◌, if◌then◌else◌, List, [], ◌∷◌, fold, take, drop, length, get_or, ap, ap₂, sym, subst, refl, arith}
use Rattle.std.specs.Prelude.{nat_le}
use Rattle.std.proofs.lemmas.List.{take-append-drop}
use Rattle.std.proofs.lemmas.List.Sums.{fold-append, fold_more}
use Rattle.std.proofs.lemmas.Bool.Decides.{nat_tests}
use Rattle.effective_signatures.specs.Targets.{decimal_value, next_digit, number_up_to}
use Rattle.annotation_kinds.specs.Positions.{is_decimal}

-- further digits make a number no smaller
pub digits_grow : (n : ℕ) (digits : List ℕ) → n ≤ fold next_digit n digits
digits_grow n [] = omega arith
digits_grow n (d ∷ digits) = let more = digits_grow (next_digit n d) digits in omega arith

pub front_below : (i : ℕ) (digits : List ℕ) → fold next_digit 0 (take i digits) ≤ fold next_digit 0 digits
front_below i digits =
    let P : ℕ → Type 0 = λ n. fold next_digit 0 (take i digits) ≤ n in
    subst P (sym (fold-append next_digit 0 (take i digits) (drop i digits)) ∙ ap (fold next_digit 0) (take-append-drop i digits))
    (digits_grow (fold next_digit 0 (take i digits)) (drop i digits))

-- a number whose front is too large is too large
above_front : (count : ℕ) (i : ℕ) (digits : List ℕ) (n d v : ℕ) → i < length digits → n ≡ fold next_digit 0 (take i digits) → d ≡ get_or digits i 0
    → v ≡ next_digit n d → count < v → count < fold next_digit 0 digits
above_front count i digits n d v h front at next above =
    let whole = front_below (i + 1) digits in
    let step = fold_more next_digit 0 digits i 0 h in
    let same : v ≡ fold next_digit 0 (take (i + 1) digits) = next ∙ ap₂ next_digit front at ∙ sym step in
    omega arith

no_number : (count : ℕ) (digits : List ℕ) (shaped : Bool) → count < decimal_value digits → None ≡ (if shaped && nat_le (decimal_value digits) count then Some (decimal_value digits) else None)
no_number count digits false above = refl
no_number count digits true above =
    let no : nat_le (decimal_value digits) count ≡ false = grind (arith, nat_tests) in
    sym (ap (λ b. if b then Some (decimal_value digits) else None) no)

pub too_large : (count : ℕ) (i : ℕ) (digits : List ℕ) (n d v : ℕ) → i < length digits → n ≡ fold next_digit 0 (take i digits) → d ≡ get_or digits i 0
    → v ≡ next_digit n d → count < v → None ≡ number_up_to count digits
too_large count i digits n d v h front at next above = no_number count digits (is_decimal digits) (above_front count i digits n d v h front at next above)

pub ruleset digit_laws = (front_below, fold_more)

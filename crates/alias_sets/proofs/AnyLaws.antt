-- The steps of a loop that looks for a number with a property.
use Rattle.std.proofs.Common.{◌≡◌, ℕ, suc, ◌+◌, ◌-◌, ◌<◌, ◌≤◌, Bool, false, ◌||◌, ap, arith}
use Rattle.std.specs.List.{list_any, range_with_len}

pub any_from : (f : ℕ → Bool) (i e : ℕ) → i < e → list_any f (range_with_len i (e - i)) ≡ (f i || list_any f (range_with_len (i + 1) (e - (i + 1))))
any_from f i e below = let one : e - i ≡ suc (e - (i + 1)) = omega arith in ap (λ n. list_any f (range_with_len i n)) one

pub any_past : (f : ℕ → Bool) (i e : ℕ) → e ≤ i → list_any f (range_with_len i (e - i)) ≡ false
any_past f i e past = let none : e - i ≡ 0 = omega arith in ap (λ n. list_any f (range_with_len i n)) none

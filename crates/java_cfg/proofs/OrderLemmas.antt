-- Lemmas on numbers that are given out in order.
use Rattle.std.proofs.Common.{◌≡◌, refl, ℕ, ◌+◌, max, List, [], ◌∷◌, ◌++◌}
use Rattle.java_cfg.specs.Order.{counted, InOrder}

pub counted_append : (n : ℕ) (xs ys : List ℕ) → counted n (xs ++ ys) ≡ counted (counted n xs) ys
counted_append n [] ys = refl
counted_append n (x ∷ xs) ys = counted_append (max n (x + 1)) xs ys

pub in_order_append : (n : ℕ) (xs ys : List ℕ) → InOrder n xs → InOrder (counted n xs) ys → InOrder n (xs ++ ys)
in_order_append n [] ys a b = b
in_order_append n (x ∷ xs) ys a b = (a.0, in_order_append (max n (x + 1)) xs ys a.1 b)

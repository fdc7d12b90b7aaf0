-- Faults compare as the numbers of their order do.
use Rattle.std.proofs.Common.{◌≡◌, ◌∙◌, ap, refl, arith, ℕ, ◌+◌, ◌*◌, ◌^◌, ◌<◌}
use Rattle.std.specs.Ordering.{nat_cmp, ordering_then, MatchOrdering}
use Rattle.std.specs.Cmp.{nat_cmp_is, ranked}
use Rattle.std.specs.declared.cmp.Ordering.{Ordering}
use Rattle.std.specs.declared.cmp.Ordering.TheVariants.{Less, Equal, Greater}
use Rattle.fault_order.specs.Order.{kind_number, order_number, place_number, step_number}
use Rattle.fault_order.specs.declared.fault.FaultAt.{FaultAt}

place_second : (a b x y : ℕ) → a ≡ b → (s : Ordering) → MatchOrdering s (x < y) (x ≡ y) (y < x) → s ≡ nat_cmp (a * 2 ^ 96 + x) (b * 2 ^ 96 + y)
place_second a b x y same Less h = nat_cmp_is (a * 2 ^ 96 + x) (b * 2 ^ 96 + y) Less (omega (arith, same, h))
place_second a b x y same Equal h = nat_cmp_is (a * 2 ^ 96 + x) (b * 2 ^ 96 + y) Equal (omega (arith, same, h))
place_second a b x y same Greater h = nat_cmp_is (a * 2 ^ 96 + x) (b * 2 ^ 96 + y) Greater (omega (arith, same, h))

place_first : (a b x y : ℕ) → x < 2 ^ 96 → y < 2 ^ 96 → (r : Ordering) → MatchOrdering r (a < b) (a ≡ b) (b < a)
    → ordering_then r (nat_cmp x y) ≡ nat_cmp (a * 2 ^ 96 + x) (b * 2 ^ 96 + y)
place_first a b x y small other Less h = nat_cmp_is (a * 2 ^ 96 + x) (b * 2 ^ 96 + y) Less (omega (arith, small, h))
place_first a b x y small other Equal h = place_second a b x y h (nat_cmp x y) (ranked x y (nat_cmp x y) refl)
place_first a b x y small other Greater h = nat_cmp_is (a * 2 ^ 96 + x) (b * 2 ^ 96 + y) Greater (omega (arith, other, h))

kind_second : (a b x y : ℕ) → a ≡ b → (s : Ordering) → MatchOrdering s (x < y) (x ≡ y) (y < x) → s ≡ nat_cmp (a * 2 ^ 35 + x) (b * 2 ^ 35 + y)
kind_second a b x y same Less h = nat_cmp_is (a * 2 ^ 35 + x) (b * 2 ^ 35 + y) Less (omega (arith, same, h))
kind_second a b x y same Equal h = nat_cmp_is (a * 2 ^ 35 + x) (b * 2 ^ 35 + y) Equal (omega (arith, same, h))
kind_second a b x y same Greater h = nat_cmp_is (a * 2 ^ 35 + x) (b * 2 ^ 35 + y) Greater (omega (arith, same, h))

kind_first : (a b x y : ℕ) → x < 2 ^ 35 → y < 2 ^ 35 → (r : Ordering) → MatchOrdering r (a < b) (a ≡ b) (b < a)
    → ordering_then r (nat_cmp x y) ≡ nat_cmp (a * 2 ^ 35 + x) (b * 2 ^ 35 + y)
kind_first a b x y small other Less h = nat_cmp_is (a * 2 ^ 35 + x) (b * 2 ^ 35 + y) Less (omega (arith, small, h))
kind_first a b x y small other Equal h = kind_second a b x y h (nat_cmp x y) (ranked x y (nat_cmp x y) refl)
kind_first a b x y small other Greater h = nat_cmp_is (a * 2 ^ 35 + x) (b * 2 ^ 35 + y) Greater (omega (arith, other, h))

-- faults compare by place and rule, then by the place of the origin, and then by its kind
pub faults_ordered : (x y : FaultAt) → place_number x.origin.pos < 2 ^ 96 → place_number y.origin.pos < 2 ^ 96 → kind_number x.origin.kind < 2 ^ 35 → kind_number y.origin.kind < 2 ^ 35
    → ordering_then (ordering_then (nat_cmp (step_number x) (step_number y)) (nat_cmp (place_number x.origin.pos) (place_number y.origin.pos))) (nat_cmp (kind_number x.origin.kind) (kind_number y.origin.kind))
    ≡ nat_cmp (order_number x) (order_number y)
unfolding order_number
faults_ordered x y small other kind other_kind =
    ap (λ (r : Ordering). ordering_then r (nat_cmp (kind_number x.origin.kind) (kind_number y.origin.kind)))
    (place_first (step_number x) (step_number y) (place_number x.origin.pos) (place_number y.origin.pos) small other (nat_cmp (step_number x) (step_number y))
    (ranked (step_number x) (step_number y) (nat_cmp (step_number x) (step_number y)) refl))
    ∙ kind_first (step_number x * 2 ^ 96 + place_number x.origin.pos) (step_number y * 2 ^ 96 + place_number y.origin.pos) (kind_number x.origin.kind) (kind_number y.origin.kind) kind other_kind
    (nat_cmp (step_number x * 2 ^ 96 + place_number x.origin.pos) (step_number y * 2 ^ 96 + place_number y.origin.pos))
    (ranked (step_number x * 2 ^ 96 + place_number x.origin.pos) (step_number y * 2 ^ 96 + place_number y.origin.pos)
    (nat_cmp (step_number x * 2 ^ 96 + place_number x.origin.pos) (step_number y * 2 ^ 96 + place_number y.origin.pos)) refl)

-- Tests by parts.
use Rattle.std.specs.Prelude.{◌≡◌, Bool, true, false, not, ◌&&◌, ◌||◌, ◌⊎◌, Option, Some, None, is_some}
use Rattle.std.proofs.Common.{refl, inl, inr, arith}

pub and_parts : (a b : Bool) → (a && b) ≡ true → (a ≡ true) × (b ≡ true)
and_parts true b h = (refl, h)
and_parts false b h = grind arith

pub or_cases : (a b : Bool) → (a || b) ≡ true → (a ≡ true) ⊎ (b ≡ true)
or_cases true b h = inl refl
or_cases false b h = inr h

pub implied : (a b : Bool) → (not a || b) ≡ true → a ≡ true → b ≡ true
implied true b h e = h
implied false b h e = grind arith

pub not_true : (a : Bool) → not a ≡ true → a ≡ false
not_true true h = grind arith
not_true false h = refl

pub or_right : (a : Bool) → (a || true) ≡ true
or_right true = refl
or_right false = refl

pub not_so : (a b : Bool) → (not a || b) ≡ true → b ≡ false → a ≡ false
not_so true b h e = grind arith
not_so false b h e = refl

pub is_none_of : {A : Type 0} (o : Option A) → is_some o ≡ false → o ≡ None
is_none_of None h = refl
is_none_of (Some x) h = grind arith

pub true_false : true ≡ false → ⊥
true_false h = grind arith

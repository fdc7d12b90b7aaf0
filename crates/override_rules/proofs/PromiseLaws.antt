-- The step of a loop that asks whether all elements pass a test.
use Rattle.std.proofs.Common.{◌≡◌, ℕ, zero, suc, ◌+◌, ◌<◌, Bool, true, false, ◌&&◌, List, [], ◌∷◌, length, take, get_or, refl, sym, ap, ◌∙◌, arith}
use Rattle.std.specs.List.{list_all}

and_joined : (a b c : Bool) → (a && (b && c)) ≡ ((a && b) && c)
and_joined true b c = refl
and_joined false b c = refl

and_true : (a : Bool) → (a && true) ≡ a
and_true true = refl
and_true false = refl

all_one : {X : Type 0} (f : X → Bool) (xs : List X) (i : ℕ) (x : X) → i < length xs → x ≡ get_or xs i x → list_all f (take (suc i) xs) ≡ (list_all f (take i xs) && f x)
all_one f [] i x below same = absurd (omega arith)
all_one f (y ∷ ys) zero x below same = and_true (f y) ∙ ap f (sym same)
all_one f (y ∷ ys) (suc i) x below same =
    let shorter : i < length ys = omega arith in
    ap (λ b. f y && b) (all_one f ys i x shorter same) ∙ and_joined (f y) (list_all f (take i ys)) (f x)

pub all_more : {X : Type 0} (f : X → Bool) (xs : List X) (i : ℕ) (x : X) → i < length xs → x ≡ get_or xs i x → (list_all f (take i xs) && f x) ≡ list_all f (take (i + 1) xs)
all_more f xs i x below same = let next : i + 1 ≡ suc i = omega arith in sym (ap (λ n. list_all f (take n xs)) next ∙ all_one f xs i x below same)

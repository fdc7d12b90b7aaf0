-- The laws on the least of several refusals that the passes need.
use Rattle.std.proofs.Common.{◌≡◌, ◌∙◌, ℕ, ◌+◌, ◌<◌, List, [], ◌∷◌, ◌++◌, take, length, get_or, ap, ap₂, sym, refl, Option}
use Rattle.std.specs.List.{flat_map}
use Rattle.std.proofs.lemmas.Grind.{flat_map-append}
use Rattle.std.proofs.lemmas.List.{take_more}
use Rattle.rlc_base.specs.declared.faults.Refusal.{Refusal}
use Rattle.refusal_order.specs.Refusals.{least, lesser_of}
use Rattle.refusal_order.proofs.LeastLaws.{least-append}

append_nothing : {X : Type 0} (xs : List X) → xs ++ [] ≡ xs
append_nothing [] = refl
append_nothing (x ∷ xs) = ap (λ ys. x ∷ ys) (append_nothing xs)

-- the least of the cases of one part more
pub least_more : {X : Type 0} (f : X → List Refusal) (xs : List X) (i : ℕ) (d : X) → i < length xs
    → least (flat_map f (take (i + 1) xs)) ≡ lesser_of (least (flat_map f (take i xs))) (least (f (get_or xs i d)))
least_more f xs i d h =
    ap (λ ys. least (flat_map f ys)) (take_more xs i d h)
    ∙ ap least (flat_map-append f (take i xs) (get_or xs i d ∷ []))
    ∙ least-append (flat_map f (take i xs)) (f (get_or xs i d) ++ [])
    ∙ ap (λ ys. lesser_of (least (flat_map f (take i xs))) (least ys)) (append_nothing (f (get_or xs i d)))

-- a turn of a loop over the parts: `least` is that of the parts so far, `case` that of the part x, and `next` the lesser of the two
pub least_turn : {X : Type 0} (f : X → List Refusal) (xs : List X) (i : ℕ) (x : X) (so_far case next : Option Refusal)
    → i < length xs → x ≡ get_or xs i x → so_far ≡ least (flat_map f (take i xs)) → case ≡ least (f x) → next ≡ lesser_of so_far case
    → next ≡ least (flat_map f (take (i + 1) xs))
least_turn f xs i x so_far case next h is before here joined =
    joined ∙ ap₂ lesser_of before (here ∙ ap (λ y. least (f y)) is) ∙ sym (least_more f xs i x h)

-- the lesser of what two lists of cases give is what both give
pub joined : (a b : List Refusal) (x y z : Option Refusal) → z ≡ lesser_of x y → x ≡ least a → y ≡ least b → z ≡ least (a ++ b)
joined a b x y z lesser first second = lesser ∙ ap₂ lesser_of first second ∙ sym (least-append a b)

pub ruleset least_laws = (least-append)

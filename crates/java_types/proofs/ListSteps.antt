-- What each element gives, put together in order, with one element more.
use Rattle.std.proofs.Common.{◌≡◌, ◌∙◌, sym, ap, ℕ, ◌+◌, ◌<◌, List, [], ◌∷◌, ◌++◌, append-nil, append_assoc, get_or, length, map, take}
use Rattle.std.specs.List.{flat_map}
use Rattle.std.proofs.lemmas.List.{take_more}

flat_push : {X Y Z : Type 0} (f : Y → List Z) (v : X → Y) (ys : List X) (x : X) → flat_map f (map v (ys ++ x ∷ [])) ≡ flat_map f (map v ys) ++ f (v x)
flat_push f v [] x = append-nil (f (v x))
flat_push f v (y ∷ ys) x = ap (λ rest. f (v y) ++ rest) (flat_push f v ys x) ∙ sym (append_assoc (f (v y)) (flat_map f (map v ys)) (f (v x)))

pub flat_step : {X Y Z : Type 0} (f : Y → List Z) (v : X → Y) (xs : List X) (i : ℕ) (x : X) (old counted next : List Z) → i < length xs → x ≡ get_or xs i x → counted ≡ old ++ flat_map f (map v (take i xs)) → next ≡ counted ++ f (v x) → next ≡ old ++ flat_map f (map v (take (i + 1) xs))
flat_step f v xs i x old counted next below at before is =
    is ∙ ap (λ so_far. so_far ++ f (v x)) before
    ∙ append_assoc old (flat_map f (map v (take i xs))) (f (v x))
    ∙ ap (λ all. old ++ all) (sym (ap (λ front. flat_map f (map v front)) (take_more xs i x below ∙ ap (λ z. take i xs ++ z ∷ []) (sym at)) ∙ flat_push f v (take i xs) x))

-- Lists made of one part for each part of another list.
use Rattle.std.proofs.Common.{◌≡◌, ◌∙◌, ℕ, ◌+◌, ◌<◌, ◌≤◌, List, [], ◌∷◌, ◌++◌, map, take, length, get_or, ap, sym, subst, arith, All}
use Rattle.std.specs.List.{AllZip}
use Rattle.std.proofs.lemmas.List.{get_or-map, length-map, map_push, take_all, take_more}

zip_push : {A B : Type 0} (R : A → B → Type 0) (xs : List A) (ys : List B) (x : A) (y : B) → AllZip R xs ys → R x y → AllZip R (xs ++ x ∷ []) (ys ++ y ∷ [])
zip_push R [] [] x y h here = (here, tt)
zip_push R [] (b ∷ ys) x y h here = absurd h
zip_push R (a ∷ xs) [] x y h here = absurd h
zip_push R (a ∷ xs) (b ∷ ys) x y h here = (h.0, zip_push R xs ys x y h.1 here)

-- one part more
pub zip_turn : {A B : Type 0} (R : A → B → Type 0) (xs : List A) (i : ℕ) (x : A) (ys more : List B) (y : B) → i < length xs → x ≡ get_or xs i x
    → more ≡ ys ++ y ∷ [] → AllZip R (take i xs) ys → R x y → AllZip R (take (i + 1) xs) more
zip_turn R xs i x ys more y h is pushed before here =
    let parts = zip_push R (take i xs) ys x y before here in
    subst (AllZip R (take (i + 1) xs)) (sym pushed)
    (subst (λ zs. AllZip R zs (ys ++ y ∷ [])) (sym (take_more xs i x h ∙ ap (λ z. take i xs ++ z ∷ []) (sym is))) parts)

pub zip_end : {A B : Type 0} (R : A → B → Type 0) (xs : List A) (i : ℕ) (ys : List B) → length xs ≤ i → AllZip R (take i xs) ys → AllZip R xs ys
zip_end R xs i ys h all = subst (λ zs. AllZip R zs ys) (take_all i xs h) all

-- the same where the parts are seen by a view
pub view_turn : {A B C : Type 0} (v : C → A) (R : A → B → Type 0) (xs : List C) (i : ℕ) (x : C) (ys more : List B) (y : B) → i < length xs → x ≡ get_or xs i x
    → more ≡ ys ++ y ∷ [] → AllZip R (map v (take i xs)) ys → R (v x) y → AllZip R (map v (take (i + 1) xs)) more
view_turn v R xs i x ys more y h is pushed before here =
    let parts = zip_push R (map v (take i xs)) ys (v x) y before here in
    subst (AllZip R (map v (take (i + 1) xs))) (sym pushed)
    (subst (λ zs. AllZip R zs (ys ++ y ∷ []))
    (sym (ap (map v) (take_more xs i x h ∙ ap (λ z. take i xs ++ z ∷ []) (sym is)) ∙ map_push v (take i xs) x)) parts)

pub view_end : {A B C : Type 0} (v : C → A) (R : A → B → Type 0) (xs : List C) (i : ℕ) (ys : List B) → length xs ≤ i → AllZip R (map v (take i xs)) ys → AllZip R (map v xs) ys
view_end v R xs i ys h all = subst (λ zs. AllZip R (map v zs) ys) (take_all i xs h) all

-- what holds of all views holds of one
pub view_at : {A C : Type 0} (v : C → A) (P : A → Type 0) (xs : List C) (i : ℕ) (x : C) → All P (map v xs) → i < length xs → x ≡ get_or xs i x → P (v x)
view_at v P xs i x all h is =
    let long = length-map xs v in
    let within : i < length (map v xs) = omega arith in
    subst P (get_or-map v xs i x (v x) h ∙ ap v (sym is)) (all i (v x) within)

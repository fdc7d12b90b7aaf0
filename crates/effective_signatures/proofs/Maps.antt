-- Loops that change each element of a list by one function or relation.
use Rattle.std.proofs.Common.{◌≡◌, ◌∙◌, ℕ, ◌+◌, ◌<◌, List, [], ◌∷◌, ◌++◌, map, take, drop, set, length, get_or, ap, ap₂, sym, refl, subst, arith, Option, Some, None, All}
use Rattle.std.specs.List.{cons_option, filter_map, AllZip}
use Rattle.program_model.specs.Lookups.{optional}
use Rattle.std.proofs.lemmas.List.Elements.{filter_map-append}
use Rattle.std.proofs.lemmas.List.{drop-drop, drop-set-lt, get_or-drop, map-append, take_more, take_more_set}

-- what is left stands where it stood
left_at : {X : Type 0} (old now : List X) (i : ℕ) (d : X) → drop i now ≡ drop i old → get_or now i d ≡ get_or old i d
left_at old now i d left =
    let here = get_or-drop i now 0 d in
    let there = get_or-drop i old 0 d in
    let same : i + 0 ≡ i = omega arith in
    ap (λ k. get_or now k d) (sym same) ∙ sym here ∙ ap (λ xs. get_or xs 0 d) left ∙ there ∙ ap (λ k. get_or old k d) same

drop_more : {X : Type 0} (xs : List X) (i : ℕ) → drop (i + 1) xs ≡ drop 1 (drop i xs)
drop_more xs i = sym (drop-drop 1 i xs)

pub left_more : {X : Type 0} (old now : List X) (i : ℕ) (y : X) → drop i now ≡ drop i old → drop (i + 1) (set now i y) ≡ drop (i + 1) old
left_more old now i y left =
    let next : i < i + 1 = omega arith in
    drop-set-lt (i + 1) now i y next ∙ drop_more now i ∙ ap (drop 1) left ∙ sym (drop_more old i)

pub map_more : {X : Type 0} (f : X → X) (old now : List X) (i : ℕ) (x y : X) → i < length old → length now ≡ length old
    → take i now ≡ map f (take i old) → drop i now ≡ drop i old → y ≡ f (get_or now i x) → take (i + 1) (set now i y) ≡ map f (take (i + 1) old)
map_more f old now i x y h len done left is =
    let within : i < length now = omega arith in
    take_more_set now i y within
    ∙ ap₂ (λ front z. front ++ z ∷ []) done (is ∙ ap f (left_at old now i x left))
    ∙ sym (map-append f (take i old) (get_or old i x ∷ []))
    ∙ ap (map f) (sym (take_more old i x h))

one_kept : {Y : Type 0} (o : Option Y) → cons_option o [] ≡ optional o
one_kept None = refl
one_kept (Some y) = refl

-- a turn of a loop that keeps what a function gives
pub kept_more : {X Y : Type 0} (f : X → Option Y) (xs : List X) (i : ℕ) (x : X) (so_far next : List Y) (o : Option Y) → i < length xs
    → x ≡ get_or xs i x → so_far ≡ filter_map f (take i xs) → o ≡ f x → next ≡ so_far ++ optional o → next ≡ filter_map f (take (i + 1) xs)
kept_more f xs i x so_far next o h at before here joined =
    joined ∙ ap₂ (λ us p. us ++ optional p) before (here ∙ ap f at)
    ∙ ap (λ vs. filter_map f (take i xs) ++ vs) (sym (one_kept (f (get_or xs i x))))
    ∙ sym (filter_map-append f (take i xs) (get_or xs i x ∷ []))
    ∙ ap (filter_map f) (sym (take_more xs i x h))

zip_append : {X : Type 0} (R : X → X → Type 0) (xs ys : List X) (x y : X) → AllZip R xs ys → R x y → AllZip R (xs ++ x ∷ []) (ys ++ y ∷ [])
zip_append R [] [] x y all one = (one, tt)
zip_append R [] (v ∷ ys) x y all one = absurd all
zip_append R (u ∷ xs) [] x y all one = absurd all
zip_append R (u ∷ xs) (v ∷ ys) x y all one = (all.0, zip_append R xs ys x y all.1 one)

-- a turn of a loop that brings each element into a relation to what it was
pub zip_more : {X : Type 0} (R : X → X → Type 0) (old now : List X) (i : ℕ) (x y : X) → i < length old → length now ≡ length old
    → AllZip R (take i old) (take i now) → drop i now ≡ drop i old → R (get_or now i x) y → AllZip R (take (i + 1) old) (take (i + 1) (set now i y))
zip_more R old now i x y h len done left is =
    let within : i < length now = omega arith in
    let here = subst (λ z. R z y) (left_at old now i x left) is in
    subst (λ us. AllZip R us (take (i + 1) (set now i y))) (sym (take_more old i x h))
    (subst (λ vs. AllZip R (take i old ++ get_or old i x ∷ []) vs) (sym (take_more_set now i y within))
    (zip_append R (take i old) (take i now) (get_or old i x) y done here))

-- what holds of each element holds of those that are left
pub all_left : {X : Type 0} (P : X → Type 0) (old now : List X) (i : ℕ) (x : X) → i < length old → drop i now ≡ drop i old → All P old → P (get_or now i x)
all_left P old now i x h left all = subst P (sym (left_at old now i x left)) (all i x h)

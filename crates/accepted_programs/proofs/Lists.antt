-- No element of a list passes a test: for lists that are joined, mapped and filtered.
use Rattle.std.proofs.Common.{◌≡◌, ◌∙◌, ◌++◌, ◌∷◌, [], List, Bool, true, false, refl, sym, ap}
use Rattle.std.specs.Prelude.{◌&&◌, ◌||◌, filter, cond}
use Rattle.std.specs.List.{list_all, list_any}

-- no element of the list passes the test
abbrev pub None' : {X : Type 0} → (X → Bool) → List X → Type 0
None' v xs = list_any v xs ≡ false

pub or_first : (a b : Bool) → (a || b) ≡ false → a ≡ false
or_first true b h = h
or_first false b h = refl

pub or_second : (a b : Bool) → (a || b) ≡ false → b ≡ false
or_second true b h = absurd (let no : true ≡ false = h in cc)
or_second false b h = h

pub or_neither : (a b : Bool) → a ≡ false → b ≡ false → (a || b) ≡ false
or_neither a b h h' = ap (λ x. x || b) h ∙ h'

pub and_second_false : (a b : Bool) → b ≡ false → (a && b) ≡ false
and_second_false true b h = h
and_second_false false b h = refl

pub and_first_false : (a b : Bool) → a ≡ false → (a && b) ≡ false
and_first_false a b h = ap (λ x. x && b) h

pub and_both : (a b : Bool) → a ≡ true → b ≡ true → (a && b) ≡ true
and_both a b h h' = ap (λ x. x && b) h ∙ h'

pub and_one : (a b : Bool) → (a && b) ≡ true → a ≡ true
and_one true b h = refl
and_one false b h = h

pub and_two : (a b : Bool) → (a && b) ≡ true → b ≡ true
and_two true b h = h
and_two false b h = absurd (let no : false ≡ true = h in cc)

pub left : {X : Type 0} (v : X → Bool) (xs ys : List X) → None' v (xs ++ ys) → None' v xs
left v [] ys h = refl
left v (x ∷ xs) ys h = or_neither (v x) (list_any v xs) (or_first (v x) (list_any v (xs ++ ys)) h) (left v xs ys (or_second (v x) (list_any v (xs ++ ys)) h))

pub right : {X : Type 0} (v : X → Bool) (xs ys : List X) → None' v (xs ++ ys) → None' v ys
right v [] ys h = h
right v (x ∷ xs) ys h = right v xs ys (or_second (v x) (list_any v (xs ++ ys)) h)

pub join : {X : Type 0} (v : X → Bool) (xs ys : List X) → None' v xs → None' v ys → None' v (xs ++ ys)
join v [] ys h h' = h'
join v (x ∷ xs) ys h h' = or_neither (v x) (list_any v (xs ++ ys)) (or_first (v x) (list_any v xs) h) (join v xs ys (or_second (v x) (list_any v xs) h) h')

-- with nothing behind it
pub alone : {X : Type 0} (v : X → Bool) (xs : List X) → None' v xs → None' v (xs ++ [])
alone v xs h = join v xs [] h refl

pub weaker : {X : Type 0} (v w : X → Bool) → ((x : X) → v x ≡ false → w x ≡ false) → (xs : List X) → None' v xs → None' w xs
weaker v w less [] h = refl
weaker v w less (x ∷ xs) h = or_neither (w x) (list_any w xs) (less x (or_first (v x) (list_any v xs) h)) (weaker v w less xs (or_second (v x) (list_any v xs) h))

-- what is filtered out need not pass
pub filtered : {X : Type 0} (q v : X → Bool) (xs : List X) → None' v (filter q xs) → None' (λ x. q x && v x) xs
filtered q v [] h = refl
filtered q v (x ∷ xs) h = step (q x) refl (filtered q v xs)
  where
    step : (a : Bool) → q x ≡ a → (None' v (filter q xs) → None' (λ x. q x && v x) xs) → None' (λ x. q x && v x) (x ∷ xs)
    step true is later =
        let here : None' v (x ∷ filter q xs) = ap (λ a. list_any v (cond a (x ∷ filter q xs) (filter q xs))) (sym is) ∙ h in
        or_neither (q x && v x) (list_any (λ x. q x && v x) xs) (and_second_false (q x) (v x) (or_first (v x) (list_any v (filter q xs)) here)) (later (or_second (v x) (list_any v (filter q xs)) here))
    step false is later =
        let here : None' v (filter q xs) = ap (λ a. list_any v (cond a (x ∷ filter q xs) (filter q xs))) (sym is) ∙ h in
        or_neither (q x && v x) (list_any (λ x. q x && v x) xs) (and_first_false (q x) (v x) is) (later here)

-- ---- all

pub all_join : {X : Type 0} (t : X → Bool) (xs ys : List X) → list_all t xs ≡ true → list_all t ys ≡ true → list_all t (xs ++ ys) ≡ true
all_join t [] ys h h' = h'
all_join t (x ∷ xs) ys h h' = and_both (t x) (list_all t (xs ++ ys)) (and_one (t x) (list_all t xs) h) (all_join t xs ys (and_two (t x) (list_all t xs) h) h')

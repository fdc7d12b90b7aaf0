-- What is in a filtered list, what passes by each, and what a search finds.
use Rattle.std.proofs.Common.{◌≡◌, ◌∙◌, ◌⊎◌, ap, sym, subst, refl, inl, inr, Bool, true, false, cond, ◌&&◌, ◌||◌, not, Option, Some, None, List, [], ◌∷◌, filter, Contains, arith, true≢false}
use Rattle.std.specs.List.{find, flat_map, list_all, list_any}
use Rattle.std.proofs.lemmas.List.Elements.{Contains-append_cases, Contains-append_left, Contains-append_right, Contains-push, Contains-push_cases}

pub contains-none : {X : Type 0} (x : X) → Contains [] x → ⊥
contains-none x (k, below, at) = omega arith

pub contains-one : {X : Type 0} (y x : X) → Contains (y ∷ []) x → y ≡ x
contains-one y x h = elim (Contains-push_cases [] y x h) [ inl none ↦ absurd (contains-none x none) | inr same ↦ same ]

pub contains-cases : {X : Type 0} (y : X) (ys : List X) (x : X) → Contains (y ∷ ys) x → (y ≡ x) ⊎ Contains ys x
contains-cases y ys x h = elim (Contains-append_cases (y ∷ []) ys x h) [ inl one ↦ inl (contains-one y x one) | inr more ↦ inr more ]

pub contains-first : {X : Type 0} (x : X) (xs : List X) → Contains (x ∷ xs) x
contains-first x xs = Contains-append_left (x ∷ []) xs x (Contains-push [] x)

pub contains-later : {X : Type 0} (y : X) (ys : List X) (x : X) → Contains ys x → Contains (y ∷ ys) x
contains-later y ys x h = Contains-append_right (y ∷ []) ys x h

both_true : (a b : Bool) → (a && b) ≡ true → (a ≡ true) × (b ≡ true)
both_true true b h = (refl, h)
both_true false b h = absurd (true≢false (sym h))

-- ---- filters

more_kept : {X : Type 0} (b : Bool) (y : X) (ys : List X) (x : X) → Contains ys x → Contains (cond b (y ∷ ys) ys) x
more_kept true y ys x h = contains-later y ys x h
more_kept false y ys x h = h

first_kept : {X : Type 0} (b : Bool) (x : X) (xs : List X) → b ≡ true → Contains (cond b (x ∷ xs) xs) x
first_kept true x xs h = contains-first x xs
first_kept false x xs h = absurd (true≢false (sym h))

kept_cases : {X : Type 0} (b : Bool) (y : X) (ys : List X) (x : X) → Contains (cond b (y ∷ ys) ys) x → ((b ≡ true) × (y ≡ x)) ⊎ Contains ys x
kept_cases true y ys x h = elim (contains-cases y ys x h) [ inl same ↦ inl (refl, same) | inr more ↦ inr more ]
kept_cases false y ys x h = inr h

pub filter-has : {X : Type 0} (f : X → Bool) (xs : List X) (x : X) → Contains xs x → f x ≡ true → Contains (filter f xs) x
filter-has f [] x h e = h
filter-has f (y ∷ ys) x h e =
    elim (contains-cases y ys x h) [
      | inl same ↦ let is_first : f y ≡ true = ap f same ∙ e in subst (λ (z : _). Contains (cond (f y) (y ∷ filter f ys) (filter f ys)) z) same (first_kept (f y) y (filter f ys) is_first)
      | inr more ↦ more_kept (f y) y (filter f ys) x (filter-has f ys x more e)
    ]

pub filter-among : {X : Type 0} (f : X → Bool) (xs : List X) (x : X) → Contains (filter f xs) x → Contains xs x × (f x ≡ true)
filter-among f [] x h = absurd (contains-none x h)
filter-among f (y ∷ ys) x h =
    elim (kept_cases (f y) y (filter f ys) x h) [
      | inl first ↦ (subst (λ (z : _). Contains (y ∷ ys) z) first.1 (contains-first y ys), ap f (sym first.1) ∙ first.0)
      | inr more ↦ let rest = filter-among f ys x more in (contains-later y ys x rest.0, rest.1)
    ]

-- ---- each

pub each-has : {X : Type 0} (f : X → Bool) (xs : List X) → list_all f xs ≡ true → (x : X) → Contains xs x → f x ≡ true
each-has f [] h x c = absurd (contains-none x c)
each-has f (y ∷ ys) h x c =
    let both = both_true (f y) (list_all f ys) h in
    elim (contains-cases y ys x c) [ inl same ↦ ap f (sym same) ∙ both.0 | inr more ↦ each-has f ys both.1 x more ]

pub each-of : {X : Type 0} (f : X → Bool) (xs : List X) → ((x : X) → Contains xs x → f x ≡ true) → list_all f xs ≡ true
each-of f [] h = refl
each-of f (y ∷ ys) h =
    ap (λ b. b && list_all f ys) (h y (contains-first y ys)) ∙ each-of f ys (λ x c. h x (contains-later y ys x c))

-- ---- the first

found_cases : {X : Type 0} (b : Bool) (y : X) (rest : Option X) (x : X) → cond b (Some y) rest ≡ Some x → ((b ≡ true) × (y ≡ x)) ⊎ (rest ≡ Some x)
found_cases true y rest x h = let same : y ≡ x = cc in inl (refl, same)
found_cases false y rest x h = inr h

none_cases : {X : Type 0} (b : Bool) (y : X) (rest : Option X) → cond b (Some y) rest ≡ None → (b ≡ false) × (rest ≡ None)
none_cases true y rest h = cc
none_cases false y rest h = (refl, h)

pub find-among : {X : Type 0} (f : X → Bool) (xs : List X) (x : X) → find f xs ≡ Some x → Contains xs x × (f x ≡ true)
find-among f [] x h = cc
find-among f (y ∷ ys) x h =
    elim (found_cases (f y) y (find f ys) x h) [
      | inl first ↦ (subst (λ (z : _). Contains (y ∷ ys) z) first.1 (contains-first y ys), ap f (sym first.1) ∙ first.0)
      | inr more ↦ let rest = find-among f ys x more in (contains-later y ys x rest.0, rest.1)
    ]

pub find-none : {X : Type 0} (f : X → Bool) (xs : List X) → find f xs ≡ None → (x : X) → Contains xs x → f x ≡ true → ⊥
find-none f [] h x c e = contains-none x c
find-none f (y ∷ ys) h x c e =
    let both = none_cases (f y) y (find f ys) h in
    elim (contains-cases y ys x c) [
      | inl same ↦ true≢false (sym e ∙ ap f (sym same) ∙ both.0)
      | inr more ↦ find-none f ys both.1 x more e
    ]

-- ---- none

no_true : (a b : Bool) → (a || b) ≡ false → (a ≡ false) × (b ≡ false)
no_true true b h = absurd (true≢false h)
no_true false b h = (refl, h)

pub none-has : {X : Type 0} (f : X → Bool) (xs : List X) → list_any f xs ≡ false → (x : X) → Contains xs x → f x ≡ false
none-has f [] h x c = absurd (contains-none x c)
none-has f (y ∷ ys) h x c =
    let both = no_true (f y) (list_any f ys) h in
    elim (contains-cases y ys x c) [ inl same ↦ ap f (sym same) ∙ both.0 | inr more ↦ none-has f ys both.1 x more ]

pub none-of : {X : Type 0} (f : X → Bool) (xs : List X) → ((x : X) → Contains xs x → f x ≡ false) → list_any f xs ≡ false
none-of f [] h = refl
none-of f (y ∷ ys) h =
    ap (λ b. b || list_any f ys) (h y (contains-first y ys)) ∙ none-of f ys (λ x c. h x (contains-later y ys x c))

pub false-of-not : (b : Bool) → not b ≡ true → b ≡ false
false-of-not true h = sym h
false-of-not false h = refl

-- ---- lists of lists

pub gathered-has : {X Y : Type 0} (g : X → List Y) (xs : List X) (x : X) (y : Y) → Contains xs x → Contains (g x) y → Contains (flat_map g xs) y
gathered-has g [] x y c h = absurd (contains-none x c)
gathered-has g (z ∷ zs) x y c h =
    elim (contains-cases z zs x c) [
      | inl same ↦ Contains-append_left (g z) (flat_map g zs) y (subst (λ (w : _). Contains (g w) y) (sym same) h)
      | inr more ↦ Contains-append_right (g z) (flat_map g zs) y (gathered-has g zs x y more h)
    ]

pub gathered-among : {X Y : Type 0} (g : X → List Y) (xs : List X) (y : Y) → Contains (flat_map g xs) y → (x : X) × Contains xs x × Contains (g x) y
gathered-among g [] y h = absurd (contains-none y h)
gathered-among g (z ∷ zs) y h =
    elim (Contains-append_cases (g z) (flat_map g zs) y h) [
      | inl here ↦ (z, contains-first z zs, here)
      | inr more ↦ let rest = gathered-among g zs y more in (rest.0, contains-later z zs rest.0 rest.1, rest.2)
    ]

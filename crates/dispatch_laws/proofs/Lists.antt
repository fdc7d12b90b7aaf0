-- Members of lists, lists that are empty, and the first that passes a test.
use Rattle.std.proofs.Common.{◌≡◌, ◌∙◌, inl, inr, ap, refl, sym, subst, arith, ℕ, zero, suc, ◌+◌, ◌<◌, Bool, true, false, Option, Some, None, List, [], ◌∷◌, ◌++◌, Contains, map}
use Rattle.std.specs.Prelude.{slice_get}
use Rattle.std.specs.List.{find, flat_map, range_with_len}
use Rattle.std.specs.Option.{option_or}
use Rattle.std.proofs.lemmas.List.Folds.{find-append}
use Rattle.rlc_base.specs.declared.code.Code.{Code}
use Rattle.rlc_base.specs.declared.place.Pos.{Pos}
use Rattle.refusal_order.specs.Refusals.{refused_at, where_true}
use Rattle.agreement.proofs.Elements.{contains-cases, contains-first, contains-later, contains-none, find-among, find-none}

pub none_is_some : {X : Type 0} (x : X) → ◌≡◌ {A = Option X} None (Some x) → ⊥
none_is_some x h = cc

pub some_is : {X : Type 0} (x y : X) → ◌≡◌ {A = Option X} (Some x) (Some y) → x ≡ y
some_is x y h = cc

cons_is_nil : {X : Type 0} (x : X) (xs : List X) → ◌≡◌ {A = List X} (x ∷ xs) [] → ⊥
cons_is_nil x xs h = cc

pub nil_left : {X : Type 0} (xs ys : List X) → xs ++ ys ≡ [] → xs ≡ []
nil_left [] ys h = refl
nil_left (x ∷ xs) ys h = absurd (cons_is_nil x (xs ++ ys) h)

pub nil_right : {X : Type 0} (xs ys : List X) → xs ++ ys ≡ [] → ys ≡ []
nil_right [] ys h = h
nil_right (x ∷ xs) ys h = absurd (cons_is_nil x (xs ++ ys) h)

-- where nothing is gathered, there is nothing of each
pub none_gathered : {X Y : Type 0} (g : X → List Y) (xs : List X) (x : X) → flat_map g xs ≡ [] → Contains xs x → g x ≡ []
none_gathered g [] x h c = absurd (contains-none x c)
none_gathered {Y = Y} g (y ∷ ys) x h c =
    elim (contains-cases y ys x c) [
      | inl same ↦ let here : g y ≡ [] = nil_left (g y) (flat_map g ys) h in ap g (sym same) ∙ here
      | inr more ↦ none_gathered g ys x (nil_right (g y) (flat_map g ys) h) more
    ]

-- no refusal where its test fails
pub not_refused : (b : Bool) (code : Code) (pos : Pos) → where_true b code pos ≡ [] → b ≡ false
not_refused true code pos h = absurd (cons_is_nil (refused_at code pos) [] h)
not_refused false code pos h = refl

pub first_of : {X : Type 0} (xs : List X) (x : X) → slice_get xs 0 ≡ Some x → Contains xs x
first_of [] x h = absurd (none_is_some x h)
first_of (y ∷ ys) x h = subst (Contains (y ∷ ys)) (some_is y x h) (contains-first y ys)

pub contains_at : {X : Type 0} (xs : List X) (n : ℕ) (x : X) → slice_get xs n ≡ Some x → Contains xs x
contains_at [] n x h = absurd (none_is_some x h)
contains_at (y ∷ ys) zero x h = subst (Contains (y ∷ ys)) (some_is y x h) (contains-first y ys)
contains_at (y ∷ ys) (suc n) x h = contains-later y ys x (contains_at ys n x h)

pub mapped : {X Y : Type 0} (f : X → Y) (xs : List X) (x : X) → Contains xs x → Contains (map f xs) (f x)
mapped f [] x c = absurd (contains-none x c)
mapped f (y ∷ ys) x c =
    elim (contains-cases y ys x c) [
      | inl same ↦ subst (λ (z : _). Contains (f y ∷ map f ys) (f z)) same (contains-first (f y) (map f ys))
      | inr more ↦ contains-later (f y) (map f ys) (f x) (mapped f ys x more)
    ]

pub in_range : (first n k : ℕ) → k < n → Contains (range_with_len first n) (first + k)
in_range first zero k h = absurd (omega arith)
in_range first (suc n) zero h =
    let start : first ≡ first + 0 = omega arith in
    subst (Contains (first ∷ range_with_len (first + 1) n)) start (contains-first first (range_with_len (first + 1) n))
in_range first (suc n) (suc k) h =
    let next : first + 1 + k ≡ first + suc k = omega arith in
    let below : k < n = omega arith in
    contains-later first (range_with_len (first + 1) n) (first + suc k) (subst (Contains (range_with_len (first + 1) n)) next (in_range (first + 1) n k below))

-- the first of two lists is one of the first list, where that has one
pub found_first : {X : Type 0} (f : X → Bool) (xs ys : List X) (a x : X) → Contains xs a → f a ≡ true → find f (xs ++ ys) ≡ Some x → Contains xs x
found_first {X} f xs ys a x has passes found = by (find f xs) refl
  where
    by : (o : Option X) → find f xs ≡ o → Contains xs x
    by None e = absurd (find-none f xs e a has passes)
    by (Some y) e =
        let whole : find f (xs ++ ys) ≡ Some y = find-append f xs ys ∙ ap (λ z. option_or z (find f ys)) e in
        subst (Contains xs) (some_is y x (sym whole ∙ found)) (find-among f xs y e).0

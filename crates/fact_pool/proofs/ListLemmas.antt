-- Lemmas on one list of distinct values.
use Rattle.std.proofs.Common.{◌≡◌, ◌≢◌, true≢false, ◌⊎◌, ℕ, zero, suc, ◌+◌, ◌<◌, ◌≤◌, ◌==◌, ◌||◌, Bool, true, false, not, cond, List, [], ◌∷◌, ◌++◌, length, slice_get, Some, MatchBool, if◌then◌else◌, refl, sym, ap, subst, ◌∙◌, inl, inr, arith, length-append}
use Rattle.std.specs.Prelude.{Result, Ok, Err, IfOk}
use Rattle.std.specs.List.{IsDistinct, list_any, position_or_len}
use Rattle.std.specs.Cmp.{IsEquivalence}
use Rattle.std.proofs.lemmas.Bool.{cases_order, false_from_ne_true, eqb-true, eq-eqb}
use Rattle.std.proofs.lemmas.Map.Keys.{apart_from_distinct, any_passes_from_place}
use Rattle.std.proofs.lemmas.Option.{get_or_from_slice_get, slice_get_within}
use Rattle.fact_pool.specs.declared.handle.Handle.{Handle}
use Rattle.fact_pool.specs.Regions.{StandsAt, Lacks, AreEqualAt, most_values}
use Rattle.fact_pool.specs.Intern.{IsInterned}

-- where no value passes, the first place that passes is the length
none_place : {X : Type 0} (p : X → Bool) (xs : List X) → list_any p xs ≡ false → position_or_len p xs ≡ length xs
none_place p [] none = refl
none_place p (x ∷ xs) none = by (p x) refl (none_place p xs)
  where
    by : (b : Bool) → p x ≡ b → (list_any p xs ≡ false → position_or_len p xs ≡ length xs) → cond (not (p x)) (1 + position_or_len p xs) 0 ≡ suc (length xs)
    by true e rest = absurd (true≢false (ap (λ b. b || list_any p xs) (sym e) ∙ none))
    by false e rest = rw e (omega (arith, rest (ap (λ b. b || list_any p xs) (sym e) ∙ none)))

module _ {X : Type 0} (eq : X → X → Bool) (xs : List X) (x : X) where
  -- what an insertion into a set of distinct values answers and leaves
  pub interned : (is_new : Bool) (place : ℕ) (ys : List X)
      → is_new ≡ not (list_any (eq x) xs)
      → ys ≡ (if list_any (eq x) xs then xs else xs ++ x ∷ [])
      → place ≡ position_or_len (eq x) xs
      → StandsAt eq ys place x
      → MatchBool is_new (Lacks eq xs x × (place ≡ length xs) × (ys ≡ xs ++ x ∷ [])) (StandsAt eq xs place x × (ys ≡ xs))
  interned is_new place ys added keys index stored = by (list_any (eq x) xs) refl
    where
      by : (b : Bool) → list_any (eq x) xs ≡ b → MatchBool is_new (Lacks eq xs x × (place ≡ length xs) × (ys ≡ xs ++ x ∷ [])) (StandsAt eq xs place x × (ys ≡ xs))
      by true any =
          let same : ys ≡ xs = keys ∙ ap (λ b. if b then xs else xs ++ x ∷ []) any in
          subst (λ b. MatchBool b (Lacks eq xs x × (place ≡ length xs) × (ys ≡ xs ++ x ∷ [])) (StandsAt eq xs place x × (ys ≡ xs))) (sym (added ∙ ap not any)) (subst (λ l. StandsAt eq l place x) same stored, same)
      by false none =
          let longer : ys ≡ xs ++ x ∷ [] = keys ∙ ap (λ b. if b then xs else xs ++ x ∷ []) none in
          subst (λ b. MatchBool b (Lacks eq xs x × (place ≡ length xs) × (ys ≡ xs ++ x ∷ [])) (StandsAt eq xs place x × (ys ≡ xs))) (sym (added ∙ ap not none)) (none, index ∙ none_place (eq x) xs none, longer)

  -- a list with room has at most as many values as handles can name
  pub interned-small : {E : Type 0} (ys : List X) (r : Result (Handle × Bool) E) → IsInterned eq xs x r ys → length xs < most_values → length ys ≤ most_values
  interned-small ys (Ok p) is room = by p.1 is
    where
      by : (b : Bool) → MatchBool b (Lacks eq xs x × (p.0.0 ≡ length xs) × (ys ≡ xs ++ x ∷ [])) (StandsAt eq xs p.0.0 x × (ys ≡ xs)) → length ys ≤ most_values
      by true h = omega (arith, ap length h.2, length-append xs (x ∷ []))
      by false h = omega (arith, ap length h.1)
  interned-small ys (Err e) is room = omega (arith, ap length is.1)

module _ {X : Type 0} (eq : X → X → Bool) (laws : IsEquivalence eq) (xs : List X) (distinct : IsDistinct eq xs) where
  one_value : (i : ℕ) (x y : X) → slice_get xs i ≡ Some x → slice_get xs i ≡ Some y → eq x y ≡ true
  one_value i x y at_x at_y =
      let same : x ≡ y = cc in
      subst (λ z. eq x z ≡ true) same (laws.refl x)

  apart : (i j : ℕ) (x y : X) → i < j → slice_get xs i ≡ Some x → slice_get xs j ≡ Some y → eq x y ≡ false
  apart i j x y below at_x at_y =
      rw (← get_or_from_slice_get xs i x x at_x, ← get_or_from_slice_get xs j y x at_y)
      (apart_from_distinct eq xs i j x distinct below (slice_get_within xs j y at_y))

  -- in a list of distinct values two places have equal values exactly where they are one place
  pub equal_at : (i j : ℕ) → AreEqualAt eq xs i j (i == j)
  equal_at i j x y at_x at_y = by (cases_order i j)
    where
      apart_at : eq x y ≡ false → (i ≢ j) → eq x y ≡ (i == j)
      apart_at unequal differ = unequal ∙ sym (false_from_ne_true (i == j) (λ e. differ (eqb-true i j e)))

      by : (i ≡ j) ⊎ ((i < j) ⊎ (j < i)) → eq x y ≡ (i == j)
      by (inl same) = one_value i x y at_x (rw same at_y) ∙ sym (eq-eqb i j same)
      by (inr (inl below)) = apart_at (apart i j x y below at_x at_y) (λ e. omega arith)
      by (inr (inr above)) = apart_at (laws.symm x y ∙ apart j i y x above at_y at_x) (λ e. omega arith)

  -- a value that the list lacks stands at no place
  pub lacks-absent : (x : X) → Lacks eq xs x → (i : ℕ) → slice_get xs i ≡ Some x → ⊥
  lacks-absent x none i at = true≢false (sym (any_passes_from_place (eq x) xs i x at (laws.refl x)) ∙ none)

  -- a value stands at one place
  pub one_place : (i j : ℕ) (x : X) → slice_get xs i ≡ Some x → slice_get xs j ≡ Some x → i ≡ j
  one_place i j x at_i at_j = eqb-true i j (sym (equal_at i j x x at_i at_j) ∙ laws.refl x)

-- a value that is put at the end moves no other
slice_get-push : {X : Type 0} (xs : List X) (x : X) (i : ℕ) (y : X) → slice_get xs i ≡ Some y → slice_get (xs ++ x ∷ []) i ≡ Some y
slice_get-push [] x i y at = absurd (cc)
slice_get-push (z ∷ xs) x zero y at = at
slice_get-push (z ∷ xs) x (suc i) y at = slice_get-push xs x i y at

-- and stands at the end
slice_get-end : {X : Type 0} (xs : List X) (x : X) → slice_get (xs ++ x ∷ []) (length xs) ≡ Some x
slice_get-end [] x = refl
slice_get-end (z ∷ xs) x = slice_get-end xs x

module _ {X E : Type 0} (eq : X → X → Bool) (xs ys : List X) (x : X) where
  -- a list grows by one value at most
  pub length-interned : (r : Result (Handle × Bool) E) → IsInterned eq xs x r ys → length ys ≤ length xs + 1
  length-interned (Ok p) is = by p.1 is
    where
      by : (b : Bool) → MatchBool b (Lacks eq xs x × (p.0.0 ≡ length xs) × (ys ≡ xs ++ x ∷ [])) (StandsAt eq xs p.0.0 x × (ys ≡ xs)) → length ys ≤ length xs + 1
      by true h = omega (arith, ap length h.2, length-append xs (x ∷ []))
      by false h = omega (arith, ap length h.1)
  length-interned (Err e) is = omega (arith, ap length is.1)

  -- the place that is answered is one of the list
  pub interned-within : (r : Result (Handle × Bool) E) → IsInterned eq xs x r ys → IfOk r (λ p. p.0.0 < length ys)
  interned-within (Ok p) is = by p.1 is
    where
      by : (b : Bool) → MatchBool b (Lacks eq xs x × (p.0.0 ≡ length xs) × (ys ≡ xs ++ x ∷ [])) (StandsAt eq xs p.0.0 x × (ys ≡ xs)) → p.0.0 < length ys
      by true h = omega (arith, h.1, ap length h.2, length-append xs (x ∷ []))
      by false h = omega (arith, slice_get_within xs p.0.0 h.0.0 h.0.1, ap length h.1)
  interned-within (Err e) is = tt

  -- a place keeps its value
  pub interned-kept : (r : Result (Handle × Bool) E) → IsInterned eq xs x r ys → (i : ℕ) (y : X) → slice_get xs i ≡ Some y → slice_get ys i ≡ Some y
  interned-kept (Ok p) is i y at = by p.1 is
    where
      by : (b : Bool) → MatchBool b (Lacks eq xs x × (p.0.0 ≡ length xs) × (ys ≡ xs ++ x ∷ [])) (StandsAt eq xs p.0.0 x × (ys ≡ xs)) → slice_get ys i ≡ Some y
      by true h = rw h.2 (slice_get-push xs x i y at)
      by false h = rw h.1 at
  interned-kept (Err e) is i y at = rw is.1 at

  -- where `==` is equality of values, the value itself stands at the place that is answered
  pub interned-exact : ((a b : X) → eq a b ≡ true → a ≡ b) → (r : Result (Handle × Bool) E) → IsInterned eq xs x r ys → IfOk r (λ p. slice_get ys p.0.0 ≡ Some x)
  interned-exact exact (Ok p) is = by p.1 is
    where
      by : (b : Bool) → MatchBool b (Lacks eq xs x × (p.0.0 ≡ length xs) × (ys ≡ xs ++ x ∷ [])) (StandsAt eq xs p.0.0 x × (ys ≡ xs)) → slice_get ys p.0.0 ≡ Some x
      by true h = rw (h.2, h.1) (slice_get-end xs x)
      by false h = rw (h.1, exact x h.0.0 h.0.2) h.0.1
  interned-exact exact (Err e) is = tt

-- Whether some value of a list passes a test.
use Rattle.std.proofs.Common.{◌≡◌, ◌∙◌, sym, ap, refl, inl, inr, true≢false, ℕ, ◌+◌, add-one, zero, suc, Bool, true, false, Some, None, List, [], ◌∷◌, take}
use Rattle.std.specs.Prelude.{◌||◌, slice_get}
use Rattle.std.specs.List.{list_any}
use Rattle.std.proofs.lemmas.Bool.{or_cases}
use Rattle.breadth_first.specs.Searches.{IsAt, Stands}
use Rattle.obligation_paths.proofs.OriginLaws.{take_whole}

module _ {X : Type 0} (test : X → Bool) where
  pub any_none : (xs : List X) → list_any test (take 0 xs) ≡ false
  any_none [] = refl
  any_none (x ∷ xs) = refl

  or_right : (r : Bool) → (r || true) ≡ true
  or_right true = refl
  or_right false = refl

  front : (r s : Bool) → (r || s) ≡ false → (r ≡ false) × (s ≡ false)
  front true s h = absurd (let never : true ≡ false = h in cc)
  front false s h = (refl, h)

  both : (r s : Bool) → r ≡ false → s ≡ false → (r || s) ≡ false
  both r s one other = ap (λ z. z || s) one ∙ other

  -- one value more that doesn't pass
  next_from : (xs : List X) (k : ℕ) (x : X) → IsAt xs k x → test x ≡ false → list_any test (take k xs) ≡ false → list_any test (take (suc k) xs) ≡ false
  next_from [] k x here fails none = absurd (let never : None ≡ Some x = here in cc)
  next_from (y ∷ xs) zero x here fails none = (
      let same : y ≡ x = cc in
      both (test y) (list_any test (take 0 xs)) (ap test same ∙ fails) (any_none xs))
  next_from (y ∷ xs) (suc k) x here fails none =
      let parts = front (test y) (list_any test (take k xs)) none in
      both (test y) (list_any test (take (suc k) xs)) parts.0 (next_from xs k x here fails parts.1)

  pub any_next : (xs : List X) (k : ℕ) (x : X) → IsAt xs k x → test x ≡ false → list_any test (take k xs) ≡ false → list_any test (take (k + 1) xs) ≡ false
  any_next xs k x here fails none = ap (λ n. list_any test (take n xs)) (add-one k) ∙ next_from xs k x here fails none

  -- a value that passes
  pub any_here : (xs : List X) (k : ℕ) (x : X) → IsAt xs k x → test x ≡ true → list_any test xs ≡ true
  any_here [] k x here is = absurd (let never : None ≡ Some x = here in cc)
  any_here (y ∷ xs) zero x here is = (let same : y ≡ x = cc in ap (λ z. z || list_any test xs) (ap test same ∙ is))
  any_here (y ∷ xs) (suc k) x here is = ap (λ z. test y || z) (any_here xs k x here is) ∙ or_right (test y)

  -- no value passes
  pub any_end : (xs : List X) (k : ℕ) → slice_get xs k ≡ None → list_any test (take k xs) ≡ false → list_any test xs ≡ false
  any_end xs k end none = ap (list_any test) (sym (take_whole xs k end)) ∙ none

  -- a value that passes stands somewhere
  pub any_stands : (xs : List X) → list_any test xs ≡ true → (x : X) × (Stands xs x × (test x ≡ true))
  any_stands [] h = absurd (true≢false (sym h))
  any_stands (x ∷ xs) h =
      elim (or_cases (test x) (list_any test xs) h) [
        | inl is ↦ (x, ((0, refl), is))
        | inr rest ↦ let one = any_stands xs rest in (one.0, ((suc one.1.0.0, one.1.0.1), one.1.1))
      ]

  pub stands_any : (xs : List X) (x : X) → Stands xs x → test x ≡ true → list_any test xs ≡ true
  stands_any xs x at is = any_here xs at.0 x at.1 is

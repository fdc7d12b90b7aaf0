-- Sets of pairs: what is put in, and what is found there.
use Rattle.std.proofs.Common.{◌≡◌, ◌∙◌, sym, ap, refl, subst, arith, true≢false, ℕ, Bool, true, false, cond, ◌⊎◌, inl, inr, Option, Some, None, List, [], ◌∷◌, ◌++◌, length, get_or}
use Rattle.std.specs.Prelude.{◌↔◌, if◌then◌else◌, nat_lt, MatchOption}
use Rattle.std.specs.List.{list_any, position, position_or_len}
use Rattle.std.proofs.lemmas.Bool.{ltb-false}
use Rattle.std.proofs.lemmas.List.Quantifiers.{position-Some}
use Rattle.std.proofs.lemmas.List.Sums.{fails_before_first}
use Rattle.std.proofs.lemmas.Option.{get_or_from_slice_get, slice_get-get_or}
use Rattle.indexmap.specs.IndexSet.{insert_key}
use Rattle.breadth_first.specs.Searches.{IsAt, Stands}
use Rattle.breadth_first.proofs.ListLaws.{at_last, at_push, at_within, stands_append}
use Rattle.reached_pairs.proofs.VisitLaws.{lacks_stands, put_old}

none_by : (test : Bool) (n : ℕ) → cond test (Some n) None ≡ None → test ≡ false
none_by true n h = absurd (let never : Some n ≡ None = h in cc)
none_by false n h = refl

module _ {X : Type 0} (eq : X → X → Bool) (exact : (x y : X) → eq x y ≡ true → x ≡ y) (same : (x : X) → eq x x ≡ true) where
  found_by : (xs : List X) (x : X) (test : Bool) → list_any (eq x) xs ≡ test → (test ≡ true) ↔ Stands xs x
  found_by xs x true is = ((λ _. (put_old eq xs (if list_any (eq x) xs then xs else xs ++ x ∷ []) x exact is refl).0), (λ _. refl))
  found_by xs x false is = ((λ h. absurd (true≢false (sym h))), (λ h. absurd (lacks_stands eq xs x (same x) is h)))

  -- a test for a value in a list tells whether it stands there
  pub found : (xs : List X) (x : X) (test : Bool) → test ≡ list_any (eq x) xs → (test ≡ true) ↔ Stands xs x
  found xs x test is = found_by xs x test (sym is)

  put_by : (xs : List X) (x y : X) (test : Bool) → list_any (eq x) xs ≡ test → Stands (if test then xs else xs ++ x ∷ []) y ↔ (Stands xs y ⊎ (x ≡ y))
  put_by xs x y true is = (
    (λ h. inl h),
    (λ h. elim h [ inl before ↦ before | inr last ↦ subst (λ (z : X). Stands xs z) last (put_old eq xs (if list_any (eq x) xs then xs else xs ++ x ∷ []) x exact is refl).0 ]),
  )
  put_by xs x y false is = (
    (λ h. elim (at_push xs x h.0 y h.1) [ inl before ↦ inl (h.0, before) | inr last ↦ inr last.1 ]),
    (λ h. elim h [
      | inl before ↦ stands_append xs (x ∷ []) y before
      | inr last ↦ subst (λ (z : X). Stands (xs ++ x ∷ []) z) last (length xs, at_last xs x)
    ]),
  )

  -- a set has a value more
  pub put : (xs ys : List X) (x : X) → ys ≡ insert_key eq xs x → (y : X) → Stands ys y ↔ (Stands xs y ⊎ (x ≡ y))
  put xs ys x is y = subst (λ (zs : List X). Stands zs y ↔ (Stands xs y ⊎ (x ≡ y))) (sym is) (put_by xs x y (list_any (eq x) xs) refl)

  -- the place at which a value is found
  pub number_by : (xs : List X) (x : X) (r : Option ℕ) → r ≡ position (eq x) xs → MatchOption r (Stands xs x → ⊥) (λ n. IsAt xs n x)
  number_by xs x None is = λ stands. (
      let past = ltb-false (position_or_len (eq x) xs) (length xs) (none_by (nat_lt (position_or_len (eq x) xs) (length xs)) (position_or_len (eq x) xs) (sym is)) in
      let inside = at_within xs stands.0 x stands.1 in
      let fails = fails_before_first (eq x) xs stands.0 x (omega (arith, past, inside)) in
      let here : get_or xs stands.0 x ≡ x = get_or_from_slice_get xs stands.0 x x stands.1 in
      true≢false (sym (same x) ∙ ap (eq x) (sym here) ∙ fails))
  number_by xs x (Some n) is =
      let found = position-Some (eq x) xs n x (sym is) in
      slice_get-get_or xs n x found.0 ∙ ap Some (sym (exact x (get_or xs n x) found.1))

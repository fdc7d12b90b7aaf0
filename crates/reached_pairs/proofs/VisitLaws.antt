-- The `==` of visits is equality, and a visit is put into a set by it.
use Rattle.std.proofs.Common.{◌≡◌, ◌∙◌, sym, ap, refl, subst, rules, ℕ, suc, zero, Bool, true, false, not, Some, None, List, [], ◌∷◌, ◌++◌, true≢false}
use Rattle.std.specs.Prelude.{◌||◌, if◌then◌else◌}
use Rattle.std.specs.List.{list_any}
use Rattle.breadth_first.specs.Searches.{IsAt, Stands}
use Rattle.reached_pairs.specs.declared.visit.Visit.{Visit}
use Rattle.reached_pairs.specs.contracts.visit.VisitPartialEq.TheImpl as visit_eq

pub exact_visit : (a b : Visit) → (visit_eq.ghosts).eq a b ≡ true → a ≡ b
exact_visit a b h = search rules

pub same_visit : (a : Visit) → (visit_eq.ghosts).eq a a ≡ true
same_visit a = search rules

module _ {X : Type 0} (test : X → Bool) where
  any_by : (x : X) (xs : List X) (b : Bool) → test x ≡ b → (b || list_any test xs) ≡ true → (list_any test xs ≡ true → (k : ℕ) × ((y : X) × (IsAt xs k y × (test y ≡ true)))) → (k : ℕ) × ((y : X) × (IsAt (x ∷ xs) k y × (test y ≡ true)))
  any_by x xs true is any rest = (0, (x, (refl, is)))
  any_by x xs false is any rest = let one = rest any in (suc one.0, (one.1.0, one.1.1))

  -- a value that passes stands somewhere
  any_stands : (xs : List X) → list_any test xs ≡ true → (k : ℕ) × ((y : X) × (IsAt xs k y × (test y ≡ true)))
  any_stands [] any = absurd (true≢false (sym any))
  any_stands (x ∷ xs) any = any_by x xs (test x) refl any (λ h. any_stands xs h)

  none_by : (x : X) (xs : List X) (b : Bool) → test x ≡ b → (b || list_any test xs) ≡ false → (test x ≡ false) × (list_any test xs ≡ false)
  none_by x xs true is none = absurd (true≢false none)
  none_by x xs false is none = (is, none)

  none_passes : (xs : List X) (k : ℕ) (y : X) → list_any test xs ≡ false → IsAt xs k y → test y ≡ false
  none_passes [] k y none here = absurd (let never : None ≡ Some y = here in cc)
  none_passes (x ∷ xs) zero y none here =
      let same : x ≡ y = cc in
      subst (λ (z : X). test z ≡ false) same (none_by x xs (test x) refl none).0
  none_passes (x ∷ xs) (suc k) y none here = none_passes xs k y (none_by x xs (test x) refl none).1 here

module _ {X : Type 0} (eq : X → X → Bool) where
  -- a value that is new is put last
  pub put_new : (xs ys : List X) (x : X) → ((y : X) → eq y y ≡ true) → list_any (eq x) xs ≡ false → ys ≡ (if list_any (eq x) xs then xs else xs ++ x ∷ []) → (Stands xs x → ⊥) × (ys ≡ xs ++ x ∷ [])
  put_new xs ys x same none is = (
    (λ stands. true≢false (sym (same x) ∙ none_passes (eq x) xs stands.0 x none stands.1)),
    is ∙ ap (λ b. if b then xs else xs ++ x ∷ []) none,
  )

  -- a value that stands there changes nothing
  pub put_old : (xs ys : List X) (x : X) → ((y z : X) → eq y z ≡ true → y ≡ z) → list_any (eq x) xs ≡ true → ys ≡ (if list_any (eq x) xs then xs else xs ++ x ∷ []) → Stands xs x × (ys ≡ xs)
  put_old xs ys x exact any is =
      let one = any_stands (eq x) xs any in (
        (one.0, one.1.1.0 ∙ ap Some (sym (exact x one.1.0 one.1.1.1))),
        is ∙ ap (λ b. if b then xs else xs ++ x ∷ []) any,
      )

  pub lacks_stands : (xs : List X) (x : X) → eq x x ≡ true → list_any (eq x) xs ≡ false → Stands xs x → ⊥
  lacks_stands xs x same none stands = true≢false (sym same ∙ none_passes (eq x) xs stands.0 x none stands.1)

-- a flag that a value is new
pub new_flag : (held fresh : Bool) → fresh ≡ not held → fresh ≡ true → held ≡ false
new_flag true fresh is h = absurd (true≢false (sym h ∙ is))
new_flag false fresh is h = refl

pub old_flag : (held fresh : Bool) → fresh ≡ not held → fresh ≡ false → held ≡ true
old_flag true fresh is h = refl
old_flag false fresh is h = absurd (true≢false (sym is ∙ h))

-- Lists with a strict order: from each element on there is one that none in the list is behind.
use Rattle.std.proofs.Common.{◌≡◌, ◌⊎◌, inl, inr, Bool, true, false, true≢false, ◌||◌, cond, Some, None, List, [], ◌∷◌, find, refl, sym, subst, ap, ◌∙◌}
use Rattle.std.specs.List.{list_any}

pub not_true : (b : Bool) → (b ≡ true → ⊥) → b ≡ false
not_true true h = absurd (h refl)
not_true false h = refl

neither : (a b : Bool) → a ≡ false → b ≡ false → (a || b) ≡ false
neither true b h g = absurd (true≢false h)
neither false b h g = g

first_false : (a b : Bool) → (a || b) ≡ false → a ≡ false
first_false true b h = h
first_false false b h = refl

second_false : (a b : Bool) → (a || b) ≡ false → b ≡ false
second_false true b h = absurd (true≢false h)
second_false false b h = h

second_true : (a b : Bool) → a ≡ false → (a || b) ≡ true → b ≡ true
second_true true b h g = absurd (true≢false h)
second_true false b h g = g

fewer : {X : Type 0} (f g : X → Bool) → ((d : X) → g d ≡ true → f d ≡ true) → (xs : List X) → list_any f xs ≡ false → list_any g xs ≡ false
fewer f g within [] none = refl
fewer f g within (y ∷ ys) none = neither (g y) (list_any g ys) (not_true (g y) (λ is. true≢false (sym (within y is) ∙ first_false (f y) (list_any f ys) none))) (fewer f g within ys (second_false (f y) (list_any f ys) none))

-- ---- the last one

pub record IsLast {X : Type 0} (behind : X → X → Bool) (xs : List X) (x : X) : Type 0 where
  pub last : X
  pub none : list_any (λ d. behind last d) xs ≡ false
  pub from : (last ≡ x) ⊎ (behind x last ≡ true)

pub last_from : {X : Type 0} (behind : X → X → Bool) → ((x : X) → behind x x ≡ false) → ((x y z : X) → behind x y ≡ true → behind y z ≡ true → behind x z ≡ true) → (xs : List X) (x : X) → IsLast behind xs x
last_from behind never onward [] x = record { last = x; none = refl; from = inl refl }
last_from {X} behind never onward (y ∷ ys) x = by (last_from behind never onward ys x)
  where
    by : IsLast behind ys x → IsLast behind (y ∷ ys) x
    by l = choose (behind l.last y) refl
      where
        choose : (b : Bool) → behind l.last y ≡ b → IsLast behind (y ∷ ys) x
        choose false is = record { last = l.last; none = neither (behind l.last y) (list_any (λ d. behind l.last d) ys) is l.none; from = l.from }
        choose true is = record { last = y; none = neither (behind y y) (list_any (λ d. behind y d) ys) (never y) (fewer (λ d. behind l.last d) (λ d. behind y d) (λ d h. onward l.last y d is h) ys l.none); from = inr (elim l.from [ inl same ↦ subst (λ z. behind z y ≡ true) same is | inr far ↦ onward x l.last y far is ]) }

-- ---- the first that passes a test

pub record IsFound {X : Type 0} (test : X → Bool) (xs : List X) : Type 0 where
  pub found : X
  pub is : find test xs ≡ Some found
  pub passes : test found ≡ true

pub found_or_none : {X : Type 0} (test : X → Bool) (xs : List X) → IsFound test xs ⊎ (find test xs ≡ None)
found_or_none test [] = inr refl
found_or_none test (y ∷ ys) = by (test y) refl (found_or_none test ys)
  where
    by : (b : Bool) → test y ≡ b → IsFound test ys ⊎ (find test ys ≡ None) → IsFound test (y ∷ ys) ⊎ (find test (y ∷ ys) ≡ None)
    by true is rest = inl (record { found = y; is = ap (λ b. cond b (Some y) (find test ys)) is; passes = is })
    by false is (inl f) = inl (record { found = f.found; is = ap (λ b. cond b (Some y) (find test ys)) is ∙ f.is; passes = f.passes })
    by false is (inr none) = inr (ap (λ b. cond b (Some y) (find test ys)) is ∙ none)

pub found_where : {X : Type 0} (test same : X → Bool) → ((z : X) → same z ≡ true → test z ≡ true) → (xs : List X) → list_any same xs ≡ true → IsFound test xs
found_where test same within [] held = absurd (true≢false (sym held))
found_where test same within (y ∷ ys) held = by (test y) refl (λ rest. found_where test same within ys rest)
  where
    by : (b : Bool) → test y ≡ b → (list_any same ys ≡ true → IsFound test ys) → IsFound test (y ∷ ys)
    by true is more = record { found = y; is = ap (λ b. cond b (Some y) (find test ys)) is; passes = is }
    by false is more =
        let other = not_true (same y) (λ h. true≢false (sym (within y h) ∙ is)) in
        let f = more (second_true (same y) (list_any same ys) other held) in
        record { found = f.found; is = ap (λ b. cond b (Some y) (find test ys)) is ∙ f.is; passes = f.passes }

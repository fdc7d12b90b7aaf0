-- Lists of which each two elements stand in a relation, the earlier one first.
use Rattle.std.proofs.Common.{◌≡◌, ◌∙◌, inl, inr, ap, refl, sym, subst, true≢false, arith, ℕ, zero, suc, ◌<◌, Bool, true, false, cond, Option, None, Some, List, [], ◌∷◌, ◌++◌, Contains, map}
use Rattle.std.specs.Prelude.{slice_get, if◌then◌else◌}
use Rattle.std.specs.List.{AllZip, filter, list_any}
use Rattle.std.proofs.lemmas.Bool.{or_left, or_right}
use Rattle.std.proofs.lemmas.List.Elements.{Contains-append_left, Contains-push}
use Rattle.std.proofs.lemmas.Option.{same_Some}
use Rattle.accepted_programs.proofs.Elements.{contains-cases, contains-first, contains-later, contains-none}
use Rattle.program_reading.specs.DoubleMembers.{repeats}

abbrev pub Each : {X : Type 0} → (X → Type 0) → List X → Type 0
Each P [] = Unit {0}
Each P (x ∷ xs) = P x × Each P xs

abbrev pub Apart : {X : Type 0} → (X → X → Type 0) → List X → Type 0
Apart R [] = Unit {0}
Apart R (x ∷ xs) = Each (R x) xs × Apart R xs

none_is_some : {X : Type 0} (x : X) → ◌≡◌ {A = Option X} None (Some x) → ⊥
none_is_some x h = cc

-- ---- each

pub each_from : {X : Type 0} (P : X → Type 0) (xs : List X) → ((x : X) → Contains xs x → P x) → Each P xs
each_from P [] h = tt
each_from P (x ∷ xs) h = (h x (contains-first x xs), each_from P xs (λ y c. h y (contains-later x xs y c)))

pub each_both : {X : Type 0} (P : X → Type 0) (xs ys : List X) → Each P xs → Each P ys → Each P (xs ++ ys)
each_both P [] ys h g = g
each_both P (x ∷ xs) ys h g = (h.0, each_both P xs ys h.1 g)

pub each_so : {X : Type 0} (P Q : X → Type 0) (xs : List X) → ((x : X) → P x → Q x) → Each P xs → Each Q xs
each_so P Q [] step h = tt
each_so P Q (x ∷ xs) step h = (step x h.0, each_so P Q xs step h.1)

pub each_mapped : {X Y : Type 0} (P : Y → Type 0) (f : X → Y) (xs : List X) → Each (λ x. P (f x)) xs → Each P (map f xs)
each_mapped P f [] h = tt
each_mapped P f (x ∷ xs) h = (h.0, each_mapped P f xs h.1)

each_at : {X : Type 0} (P : X → Type 0) (xs : List X) (i : ℕ) (x : X) → Each P xs → slice_get xs i ≡ Some x → P x
each_at P [] i x h at = absurd (none_is_some x at)
each_at P (y ∷ ys) zero x h at = subst P (same_Some y x at) h.0
each_at P (y ∷ ys) (suc i) x h at = each_at P ys i x h.1 at

-- ---- each two

pub apart_both : {X : Type 0} (R : X → X → Type 0) (xs ys : List X) → Apart R xs → Apart R ys → Each (λ x. Each (R x) ys) xs → Apart R (xs ++ ys)
apart_both R [] ys h g cross = g
apart_both R (x ∷ xs) ys h g cross = (each_both (R x) xs ys h.0 cross.0, apart_both R xs ys h.1 g cross.1)

pub apart_mapped : {X Y : Type 0} (S : X → X → Type 0) (R : Y → Y → Type 0) (f : X → Y) (xs : List X) → ((x y : X) → S x y → R (f x) (f y)) → Apart S xs → Apart R (map f xs)
apart_mapped S R f [] step h = tt
apart_mapped S R f (x ∷ xs) step h = (each_mapped (R (f x)) f xs (each_so (S x) (λ y. R (f x) (f y)) xs (step x) h.0), apart_mapped S R f xs step h.1)

pub apart_at : {X : Type 0} (R : X → X → Type 0) (xs : List X) (i j : ℕ) (x y : X) → Apart R xs → slice_get xs i ≡ Some x → slice_get xs j ≡ Some y → i < j → R x y
apart_at R [] i j x y h at_x at_y before = absurd (none_is_some x at_x)
apart_at R (z ∷ zs) zero zero x y h at_x at_y before = absurd (omega (arith, before))
apart_at R (z ∷ zs) zero (suc j) x y h at_x at_y before = let P : _ → Type 0 = λ w. R w y in subst P (same_Some z x at_x) (each_at (R z) zs j y h.0 at_y)
apart_at R (z ∷ zs) (suc i) zero x y h at_x at_y before = absurd (omega (arith, before))
apart_at R (z ∷ zs) (suc i) (suc j) x y h at_x at_y before = let less : i < j = omega (arith, before) in apart_at R zs i j x y h.1 at_x at_y less

-- ---- where nothing is repeated

cons_is_nil : {X : Type 0} (x : X) (xs : List X) → ◌≡◌ {A = List X} (x ∷ xs) [] → ⊥
cons_is_nil x xs h = cc

no_repeat : {X : Type 0} (b : Bool) (x : X) (xs ys : List X) → (if b then x ∷ xs else ys) ≡ [] → (b ≡ false) × (ys ≡ [])
no_repeat true x xs ys h = absurd (cons_is_nil x xs h)
no_repeat false x xs ys h = (refl, h)

passes_one : {X : Type 0} (f : X → Bool) (xs : List X) (x : X) → Contains xs x → f x ≡ true → list_any f xs ≡ true
passes_one f [] x c h = absurd (contains-none x c)
passes_one f (y ∷ ys) x c h =
    elim (contains-cases y ys x c) [
      | inl same ↦ or_left (f y) (list_any f ys) (ap f same ∙ h)
      | inr more ↦ or_right (f y) (list_any f ys) (passes_one f ys x more h)
    ]

-- none of the list that passes the test is the same as one before the list
later_apart : {X : Type 0} (same : X → X → Bool) (t : X → Bool) (before xs : List X) (w v : X) → repeats same before (filter t xs) ≡ [] → Contains before w → Contains xs v → t v ≡ true → same v w ≡ true → ⊥
later_apart same t before [] w v none earlier c passes alike = contains-none v c
later_apart {X} same t before (y ∷ ys) w v none earlier c passes alike = by (λ bs empty held more. later_apart same t bs ys w v empty held more passes alike) (t y) refl
  where
    tested : (b : Bool) → t y ≡ b → repeats same before (cond b (y ∷ filter t ys) (filter t ys)) ≡ []
    tested b e = let P : Bool → Type 0 = λ z. repeats same before (cond z (y ∷ filter t ys) (filter t ys)) ≡ [] in subst P e none

    by : ((bs : List X) → repeats same bs (filter t ys) ≡ [] → Contains bs w → Contains ys v → ⊥) → (b : Bool) → t y ≡ b → ⊥
    by further true e =
        let parts = no_repeat (list_any (same y) before) y (repeats same (before ++ y ∷ []) (filter t ys)) (repeats same (before ++ y ∷ []) (filter t ys)) (tested true e) in
        elim (contains-cases y ys v c) [
          | inl is ↦ true≢false (sym (passes_one (same y) before w earlier (ap (λ (z : X). same z w) is ∙ alike)) ∙ parts.0)
          | inr more ↦ further (before ++ y ∷ []) parts.1 (Contains-append_left before (y ∷ []) w earlier) more
        ]
    by further false e =
        elim (contains-cases y ys v c) [
          | inl is ↦ true≢false (sym passes ∙ ap t (sym is) ∙ e)
          | inr more ↦ further before (tested false e) earlier more
        ]

pub none_repeated : {X : Type 0} (same : X → X → Bool) (t : X → Bool) (before xs : List X) → repeats same before (filter t xs) ≡ [] → Apart (λ w v. t w ≡ true → t v ≡ true → same v w ≡ true → ⊥) xs
none_repeated same t before [] none = tt
none_repeated {X} same t before (y ∷ ys) none = by (λ bs empty. none_repeated same t bs ys empty) (t y) refl
  where
    tested : (b : Bool) → t y ≡ b → repeats same before (cond b (y ∷ filter t ys) (filter t ys)) ≡ []
    tested b e = let P : Bool → Type 0 = λ z. repeats same before (cond z (y ∷ filter t ys) (filter t ys)) ≡ [] in subst P e none

    by : ((bs : List X) → repeats same bs (filter t ys) ≡ [] → Apart (λ w v. t w ≡ true → t v ≡ true → same v w ≡ true → ⊥) ys) → (b : Bool) → t y ≡ b → Apart (λ w v. t w ≡ true → t v ≡ true → same v w ≡ true → ⊥) (y ∷ ys)
    by further true e =
        let parts = no_repeat (list_any (same y) before) y (repeats same (before ++ y ∷ []) (filter t ys)) (repeats same (before ++ y ∷ []) (filter t ys)) (tested true e) in (
          each_from (λ v. t y ≡ true → t v ≡ true → same v y ≡ true → ⊥) ys (λ v c first passes alike. later_apart same t (before ++ y ∷ []) ys y v parts.1 (Contains-push before y) c passes alike),
          further (before ++ y ∷ []) parts.1,
        )
    by further false e = (
      each_from (λ v. t y ≡ true → t v ≡ true → same v y ≡ true → ⊥) ys (λ v c first passes alike. true≢false (sym first ∙ e)),
      further before (tested false e),
    )

-- ---- two lists, place by place

pub zip_before : {A B : Type 0} (R : A → B → Type 0) (xs : List A) (ys : List B) (i : ℕ) (y : B) → AllZip R xs ys → slice_get ys i ≡ Some y → (x : A) × (slice_get xs i ≡ Some x) × R x y
zip_before R [] [] i y all at = absurd (none_is_some y at)
zip_before R [] (z ∷ ys) i y all at = absurd all
zip_before R (x ∷ xs) [] i y all at = absurd all
zip_before R (x ∷ xs) (z ∷ ys) zero y all at = (x, refl, subst (R x) (same_Some z y at) all.0)
zip_before R (x ∷ xs) (z ∷ ys) (suc i) y all at = zip_before R xs ys i y all.1 at

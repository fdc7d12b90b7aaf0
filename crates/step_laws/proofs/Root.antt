-- All classes stand under `Object` (JLS 4.3.2, 8.1.4).
use Rattle.std.proofs.Common.{◌≡◌, ◌∙◌, ◌⊎◌, inl, inr, sym, ap, refl, subst, arith, eqb-true, true≢false, ℕ, zero, suc, ◌+◌, ◌<◌, ◌≤◌, ◌||◌, Bool, true, false, not, Option, Some, None, List, [], ◌∷◌, ◌++◌, Contains, IsSomeAnd, codes, length, map, get_or, slice_index, slice_get}
use Rattle.std.specs.Prelude.{is_some}
use Rattle.std.specs.List.Sorted.{IsStrictlyIncreasing}
use Rattle.std.proofs.lemmas.List.{length-map}
use Rattle.std.proofs.lemmas.List.Elements.{Contains-append_left, Contains-append_right}
use Rattle.program_model.specs.declared.kinds.ClassId.{ClassId}
use Rattle.program_model.specs.declared.program.Class.{Class}
use Rattle.program_model.specs.declared.program.Program.{Program}
use Rattle.program_model.specs.Hierarchy.{IsDirectSuper, IsHierarchy, IsUnder, above, class_number, implied_super, itself}
use Rattle.program_model.specs.Lookups.{class_at, optional}
use Rattle.program_model.specs.SuperTests.{is_class}
use Rattle.program_model.specs.Validity.{IsTypedProgram, has_super_class}

-- ---- lists of rising numbers

abbrev Rising : ℕ → List ℕ → Type 0
Rising b [] = Unit {0}
Rising b (x ∷ xs) = (b ≤ x) × Rising (x + 1) xs

abbrev Among : List ℕ → ℕ → Type 0
Among [] z = ⊥
Among (x ∷ xs) z = (z ≡ x) ⊎ Among xs z

from_bound : (b : ℕ) (xs : List ℕ) (z : ℕ) → Rising b xs → Among xs z → b ≤ z
from_bound b [] z rising among = absurd among
from_bound b (x ∷ xs) z rising (inl same) = omega (arith, rising.0, same)
from_bound b (x ∷ xs) z rising (inr rest) = let later = from_bound (x + 1) xs z rising.1 rest in omega (arith, rising.0, later)

-- among numbers behind x there is not x
not_first : (x : ℕ) (xs : List ℕ) (z : ℕ) → x + 1 ≤ z → (z ≡ x) ⊎ Among xs z → Among xs z
not_first x xs z behind (inl same) = absurd (omega (arith, same))
not_first x xs z behind (inr rest) = rest

no_more : (xs ys : List ℕ) (b : ℕ) → Rising b ys → Rising b xs → ((z : ℕ) → Among ys z → Among xs z) → length ys ≤ length xs
no_more [] [] b rising_y rising_x within = omega arith
no_more [] (y ∷ ys) b rising_y rising_x within = absurd (within y (inl refl))
no_more (x ∷ xs) [] b rising_y rising_x within = omega arith
no_more (x ∷ xs) (y ∷ ys) b rising_y rising_x within = elim (within y (inl refl)) [
  | inl same ↦
      let rising : Rising (x + 1) ys = subst (λ n. Rising (n + 1) ys) same rising_y.1 in
      let rest = no_more xs ys (x + 1) rising rising_x.1 (λ z among. not_first x xs z (from_bound (x + 1) ys z rising among) (within z (inr among))) in
      omega (arith, rest)
  | inr later ↦
      let behind = from_bound (x + 1) xs y rising_x.1 later in
      let rest = no_more xs (y ∷ ys) (x + 1) (behind, rising_y.1) rising_x.1 (λ z among. not_first x xs z (from_bound (x + 1) (y ∷ ys) z (behind, rising_y.1) among) (within z among)) in
      omega (arith, rest)
]

fewer : (xs ys : List ℕ) (b z : ℕ) → Rising b ys → Rising b xs → ((n : ℕ) → Among ys n → Among xs n) → Among xs z → (Among ys z → ⊥) → length ys < length xs
fewer [] ys b z rising_y rising_x within more none = absurd more
fewer (x ∷ xs) [] b z rising_y rising_x within more none = omega arith
fewer (x ∷ xs) (y ∷ ys) b z rising_y rising_x within more none = elim (within y (inl refl)) [
  | inl same ↦
      let rising : Rising (x + 1) ys = subst (λ n. Rising (n + 1) ys) same rising_y.1 in
      let other : Among xs z = elim more [ inl here ↦ absurd (none (inl (here ∙ sym same))) | inr rest ↦ rest ] in
      let rest = fewer xs ys (x + 1) z rising rising_x.1 (λ n among. not_first x xs n (from_bound (x + 1) ys n rising among) (within n (inr among))) other (λ among. none (inr among)) in
      omega (arith, rest)
  | inr later ↦
      let behind = from_bound (x + 1) xs y rising_x.1 later in
      let rest = no_more xs (y ∷ ys) (x + 1) (behind, rising_y.1) rising_x.1 (λ n among. not_first x xs n (from_bound (x + 1) (y ∷ ys) n (behind, rising_y.1) among) (within n among)) in
      omega (arith, rest)
]

rising_from : (b : ℕ) (xs : List ℕ) → (0 < length xs → b ≤ slice_index xs 0) → IsStrictlyIncreasing xs → Rising b xs
rising_from b [] low increasing = tt
rising_from b (x ∷ xs) low increasing = (
  low (omega arith),
  rising_from (x + 1) xs (λ h. let next = increasing 0 (omega (arith, h)) in omega (arith, next)) (λ k h.
      let same : suc k + 1 ≡ suc (k + 1) = omega arith in
      let next = increasing (suc k) (omega (arith, h)) in
      let P : ℕ → Type 0 = λ n. slice_index xs k < slice_index (x ∷ xs) n in
      subst P same next),
)

-- ---- classes by their numbers

record Held (xs : List ClassId) (z : ℕ) : Type 0 where
  found : ClassId
  same : found.0 ≡ z
  held : Contains xs found

among_of : (xs : List ClassId) (d : ClassId) (k : ℕ) → k < length xs → get_or xs k d ≡ d → Among (map class_number xs) d.0
among_of [] d k h is = absurd (omega arith)
among_of (x ∷ xs) d zero h is = inl (ap class_number (sym is))
among_of (x ∷ xs) d (suc k) h is = inr (among_of xs d k (omega arith) is)

of_among : (xs : List ClassId) (z : ℕ) → Among (map class_number xs) z → Held xs z
of_among [] z among = absurd among
of_among (x ∷ xs) z (inl here) = record { found = x; same = sym here; held = (0, omega arith, refl) }
of_among (x ∷ xs) z (inr rest) = let r = of_among xs z rest in record { found = r.found; same = r.same; held = (suc r.held.0, omega (arith, r.held.1), r.held.2) }

-- a direct super type has fewer above it
fewer_above : (p : Program) (c d : ClassId) (k e : Class) → IsHierarchy p → class_at p c ≡ Some k → class_at p d ≡ Some e → IsDirectSuper p c d → length e.above.items < length k.above.items
fewer_above p c d k e hierarchy at_c at_d direct =
    let of_c = hierarchy.supers c k at_c in
    let of_d = hierarchy.supers d e at_d in
    let xs = map class_number k.above.items in
    let ys = map class_number e.above.items in
    let within : (z : ℕ) → Among ys z → Among xs z = λ z among.
    let f = of_among e.above.items z among in
    let under : IsUnder p d f.found = (of_d.above.exact f.found).0 f.held in
    let here : Contains k.above.items f.found = (of_c.above.exact f.found).1 (above c d f.found direct under) in
    subst (Among xs) f.same (among_of k.above.items f.found here.0 here.1 here.2) in
    let own : Contains k.above.items c = (of_c.above.exact c).1 (itself c) in
    let none : Among ys c.0 → ⊥ = λ among.
    let f = of_among e.above.items c.0 among in
    let under : IsUnder p d f.found = (of_d.above.exact f.found).0 f.held in
    let whole : f.found ≡ c = λ i. record { 0 = f.same i } in
    of_c.acyclic d direct (subst (IsUnder p d) whole under) in
    let less = fewer xs ys 0 c.0 (rising_from 0 ys (λ _. omega arith) of_d.above.ordered) (rising_from 0 xs (λ _. omega arith) of_c.above.ordered) within (among_of k.above.items c own.0 own.1 own.2) none in
    omega (arith, less, length-map k.above.items class_number, length-map e.above.items class_number)

-- ---- all classes stand under `Object`

some_at : {X : Type 0} (xs : List X) (n : ℕ) → n < length xs → (x : X) × (slice_get xs n ≡ Some x)
some_at [] n below = absurd (omega arith)
some_at (x ∷ xs) zero below = (x, refl)
some_at (x ∷ xs) (suc n) below = some_at xs n (omega arith)

direct_super : (p : Program) (c e : ClassId) (k : Class) → class_at p c ≡ Some k → k.sup ≡ Some e → IsDirectSuper p c e
direct_super p c e k at is =
    let C : Option ClassId → Type 0 = λ o. Contains (optional o) e in
    (k, at, Contains-append_left (optional k.sup ++ k.faces.items) (implied_super p k.interface) e (Contains-append_left (optional k.sup) k.faces.items e (subst C (sym is) (0, (omega arith), refl))))

implied_direct : (p : Program) (c : ClassId) (k : Class) → class_at p c ≡ Some k → k.interface ≡ true → IsDirectSuper p c p.core.object
implied_direct p c k at is =
    let C : Bool → Type 0 = λ b. Contains (implied_super p b) p.core.object in
    (k, at, Contains-append_right (optional k.sup ++ k.faces.items) (implied_super p k.interface) p.core.object (subst C (sym is) (0, (omega arith), refl)))

-- the classes with so few above them stand under `Object`
abbrev AreUnder : Program → ℕ → Type 0
AreUnder p m = (c : ClassId) (k : Class) → class_at p c ≡ Some k → length k.above.items ≤ m → IsUnder p c p.core.object

module _ (p : Program) (typed : IsTypedProgram p) where
  class_of_super : (c e : ClassId) (k : Class) → class_at p c ≡ Some k → IsDirectSuper p c e → (x : Class) × (class_at p e ≡ Some x)
  class_of_super c e k at direct = some_at p.classes.items e.0 ((typed.hierarchy.supers c k at).known e direct)

  under_step : (m : ℕ) (c : ClassId) (k : Class) → class_at p c ≡ Some k → AreUnder p m → length k.above.items ≤ suc m → IsUnder p c p.core.object
  under_step m c k at rest few = by_super k.sup refl (typed.classes c k at).super_class
    where
      no_super : (interface same : Bool) → k.interface ≡ interface → is_class c p.core.object ≡ same → false ≡ not (interface || same) → IsUnder p c p.core.object
      no_super true same is equal none = above c p.core.object p.core.object (implied_direct p c k at is) (itself p.core.object)
      no_super false true is equal none =
          let number = eqb-true c.0 p.core.object.0 equal in
          let whole : p.core.object ≡ c = λ i. record { 0 = sym number i } in
          subst (λ (d : ClassId). IsUnder p d p.core.object) whole (itself p.core.object)
      no_super false false is equal none = absurd (true≢false (sym none))

      by_super : (o : Option ClassId) → k.sup ≡ o → is_some k.sup ≡ has_super_class p c k → IsUnder p c p.core.object
      by_super None sup has = no_super k.interface (is_class c p.core.object) refl refl (sym (ap is_some sup) ∙ has)
      by_super (Some e) sup has =
          let direct = direct_super p c e k at sup in
          let j = class_of_super c e k at direct in
          let less = fewer_above p c e k j.0 typed.hierarchy at j.1 direct in
          above c e p.core.object direct (rest e j.0 j.1 (omega (arith, less, few)))

  all_under : (m : ℕ) → AreUnder p m
  all_under zero c k at few =
      let own = ((typed.hierarchy.supers c k at).above.exact c).1 (itself c) in
      absurd (let some = own.1 in omega (arith, some, few))
  all_under (suc m) c k at few = under_step m c k at (all_under m) few

  -- each class of the table does so
  pub each_under_object : (c : ClassId) (k : Class) → class_at p c ≡ Some k → IsUnder p c p.core.object
  each_under_object c k at = all_under (length k.above.items) c k at (omega arith)

  -- `String` is there, so it does
  pub string_under_object : IsUnder p p.core.string p.core.object
  string_under_object = go (class_at p p.core.string) refl typed.core.string
    where
      go : (x : Option Class) → class_at p p.core.string ≡ x → IsSomeAnd x (λ k. k.name ≡ codes "java.lang.String") → IsUnder p p.core.string p.core.object
      go None at named = absurd named
      go (Some k) at named = all_under (length k.above.items) p.core.string k at (omega arith)

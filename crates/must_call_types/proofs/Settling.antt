-- Must-call sets are given to classes in the order of how many are above them: a class's super types have theirs before it.
use Rattle.std.proofs.Common.{◌≡◌, ◌∙◌, inl, inr, ℕ, ◌+◌, ◌<◌, ◌≤◌, List, [], ◌∷◌, map, fold, set, length, get_or, slice_get, All, ap, subst, sym, refl, arith, zero, suc}
use Rattle.std.proofs.Math.ListN.{get_or-map}
use Rattle.std.proofs.lemmas.List.{get_or-map as get_or_map_at}
use Rattle.std.proofs.lemmas.List.{get_or-set_other, get_or-set_same, length-map, length-set}
use Rattle.std.proofs.Math.Seq.{map-set_same}
use Rattle.std.proofs.lemmas.Bool.{cases_eq, cases_lt}
use Rattle.program_model.specs.declared.kinds.ClassId.{ClassId}
use Rattle.program_model.specs.declared.program.Class.{Class}
use Rattle.program_model.specs.NameSets.{Names, no_names}
use Rattle.annotation_rules.specs.MustCallSets.{must_in}
use Rattle.effective_signatures.specs.Sets.{own_or}
use Rattle.must_call_types.specs.MustSets.{but_set, inherited_or_own, named_supers, set_at, settled, with_own_set, with_set, IsDue, IsGraded, IsMustSet, IsSettledTo}

-- ---- a write elsewhere

get_set_other : {X : Type 0} (xs : List X) (i j : ℕ) (y : X) → (j ≡ i → ⊥) → slice_get (set xs i y) j ≡ slice_get xs j
get_set_other [] i j y other = refl
get_set_other (x ∷ xs) zero zero y other = absurd (other refl)
get_set_other (x ∷ xs) zero (suc k) y other = refl
get_set_other (x ∷ xs) (suc n) zero y other = refl
get_set_other (x ∷ xs) (suc n) (suc k) y other = get_set_other xs n k y (λ same. other (ap suc same))

-- ---- the union of the same sets is the same

same_union : (now next : List Class) (names : Names) (ds : List ClassId) → All (λ d. set_at next d ≡ set_at now d) ds → fold (with_set next) names ds ≡ fold (with_set now) names ds
same_union now next names [] same = refl
same_union now next names (d ∷ ds) same =
    let first : with_set next names d ≡ with_set now names d = ap (λ s. Rattle.std.specs.FinSet.union names s) (same 0 d (omega arith)) in
    ap (λ s. fold (with_set next) s ds) first ∙ same_union now next (with_set now names d) ds (λ k e h. same (suc k) e (omega arith))

same_inherited : (now next : List Class) (k : Class) → All (λ d. set_at next d ≡ set_at now d) (named_supers k) → inherited_or_own next k ≡ inherited_or_own now k
same_inherited now next k same = ap (own_or k.own_must) (same_union now next no_names (named_supers k) same)

-- ---- one class more

-- what the super types of a class have stays where a class is written that has at least as much above it
supers_stay : (now : List Class) (i j : ℕ) (k x y : Class) → IsGraded now → j < length now → i < length now
    → length (get_or now j k).above.items ≤ length (get_or now i x).above.items
    → All (λ d. set_at (set now i y) d ≡ set_at now d) (named_supers (get_or now j k))
supers_stay now i j k x y graded below within least n e h =
    let d = get_or (named_supers (get_or now j k)) n e in
    ap must_in (get_set_other now i d.0 y (λ same.
    let inside : d.0 < length now = omega (arith, same) in
    let lower = graded j k below n e h x inside in
    let here = ap (λ (p : ℕ). length (get_or now p x).above.items) same in
    omega (arith, lower, here, least)))

pub kept_one : (now : List Class) (i : ℕ) (k : Class) → map but_set (set now i (settled now (get_or now i k))) ≡ map but_set now
kept_one now i k = map-set_same but_set now i (settled now (get_or now i k)) k refl

earlier : (size i j h : ℕ) → (j ≡ i → ⊥) → IsDue size (i + 1) j h → IsDue size i j h
earlier size i j h other (inl below) = inl below
earlier size i j h other (inr (same, before)) = elim (cases_lt j i) [ inl lt ↦ inr (same, lt) | inr ge ↦ absurd (other (omega arith)) ]

due_least : (size i j h : ℕ) → IsDue size i j h → h ≤ size
due_least size i j h (inl below) = omega arith
due_least size i j h (inr (same, before)) = omega arith

pub settled_one : (now : List Class) (size i : ℕ) (x : Class) → IsGraded now → i < length now → size ≡ length (get_or now i x).above.items
    → IsSettledTo now size i → IsSettledTo (set now i (settled now (get_or now i x))) size (i + 1)
settled_one now size i x graded within level before j k below due =
    let y = settled now (get_or now i x) in
    let next = set now i y in
    elim (cases_eq j i) [
      | inl same ↦
          let at : get_or next j k ≡ y = ap (λ p. get_or next p k) same ∙ get_or-set_same now i y k within in
          let stay = supers_stay now i i x x y graded within within (omega arith) in
          subst (λ z. IsMustSet next z) (sym at) (sym (same_inherited now next (get_or now i x) stay))
      | inr other ↦
          let at : get_or next j k ≡ get_or now j k = get_or-set_other now i j y k other in
          let inside : j < length now = omega (arith, below, length-set now i y) in
          let due_now = subst (λ (z : Class). IsDue size (i + 1) j (length z.above.items)) at due in
          let least = due_least size (i + 1) j (length (get_or now j k).above.items) due_now in
          let stay = supers_stay now i j k x y graded inside within (omega (arith, least, level)) in
          let old = before j k inside (earlier size i j (length (get_or now j k).above.items) other due_now) in
          subst (λ z. IsMustSet next z) (sym at) (old ∙ sym (same_inherited now next (get_or now j k) stay))
    ]

-- the class at i has another number of classes above it
pub skipped_one : (now : List Class) (size i : ℕ) → ((k : Class) → length (get_or now i k).above.items ≡ size → ⊥) → IsSettledTo now size i → IsSettledTo now size (i + 1)
skipped_one now size i other before j k below due = elim (cases_eq j i) [
  | inl same ↦ before j k below (not_here j k same due)
  | inr apart ↦ before j k below (earlier size i j (length (get_or now j k).above.items) apart due)
]
  where
    not_here : (j : ℕ) (k : Class) → j ≡ i → IsDue size (i + 1) j (length (get_or now j k).above.items) → IsDue size i j (length (get_or now j k).above.items)
    not_here j k same (inl lower) = inl lower
    not_here j k same (inr (level, lt)) = absurd (other k (ap (λ (p : ℕ). length (get_or now p k).above.items) (sym same) ∙ level))

-- ---- one level more

up : (size n j h : ℕ) → j < n → IsDue (size + 1) 0 j h → IsDue size n j h
up size n j h below (inl lower) = elim (cases_lt h size) [ inl lt ↦ inl lt | inr ge ↦ inr (omega arith, below) ]
up size n j h below (inr (same, before)) = absurd (omega arith)

pub level_more : (now : List Class) (size : ℕ) → IsSettledTo now size (length now) → IsSettledTo now (size + 1) 0
level_more now size before j k below due = before j k below (up size (length now) j (length (get_or now j k).above.items) below due)

-- ---- all but the sets stays

but_set_at : (old now : List Class) (i : ℕ) (k : Class) → map but_set now ≡ map but_set old → but_set (get_or now i k) ≡ but_set (get_or old i k)
but_set_at old now i k same = sym (get_or-map but_set now i k) ∙ ap (λ xs. get_or xs i (but_set k)) same ∙ get_or-map but_set old i k

level_at : (old now : List Class) (i : ℕ) (k : Class) → map but_set now ≡ map but_set old → length (get_or now i k).above.items ≡ length (get_or old i k).above.items
level_at old now i k same = ap (λ (z : Class). length z.above.items) (but_set_at old now i k same)

length_kept : (old now : List Class) → map but_set now ≡ map but_set old → length now ≡ length old
length_kept old now same = sym (length-map now but_set) ∙ ap length same ∙ length-map old but_set

pub graded_kept : (old now : List Class) → map but_set now ≡ map but_set old → IsGraded old → IsGraded now
graded_kept old now same graded i k below n d h e inside =
    let supers : named_supers (get_or now i k) ≡ named_supers (get_or old i k) = ap named_supers (but_set_at old now i k same) in
    let len = length_kept old now same in
    let super_index : ℕ = (get_or (named_supers (get_or now i k)) n d).0 in
    let moved : (get_or (named_supers (get_or now i k)) n d).0 ≡ (get_or (named_supers (get_or old i k)) n d).0 = ap (λ ds. (get_or ds n d).0) supers in
    let lower = graded i k (omega arith) n d (omega (arith, h, ap length supers)) e (omega (arith, inside, moved, len)) in
    let there = level_at old now (get_or (named_supers (get_or now i k)) n d).0 e same in
    let moved_level = ap (λ (p : ℕ). length (get_or old p e).above.items) moved in
    let here = level_at old now i k same in
    omega (arith, lower, there, moved_level, here)

-- all classes have their sets where none has more above it than the last level
pub all_settled : (old now : List Class) (size : ℕ) → map but_set now ≡ map but_set old → All (λ (k : Class). length k.above.items ≤ size) old → IsSettledTo now (size + 1) 0 → All (IsMustSet now) now
all_settled old now size same least after j k below =
    let len = length_kept old now same in
    let here = level_at old now j k same in
    let most = least j k (omega arith) in
    after j k below (inl (omega (arith, here, most)))

-- ---- for the code

some_element : {X : Type 0} (xs : List X) (i : ℕ) → i < length xs → X
some_element [] i h = absurd (omega arith)
some_element (x ∷ xs) i h = x

pub kept_by : (now next : List Class) (i : ℕ) → i < length now → ((k : Class) → next ≡ set now i (settled now (get_or now i k))) → map but_set next ≡ map but_set now
kept_by now next i within is = let k = some_element now i within in ap (map but_set) (is k) ∙ kept_one now i k

pub settled_by : (now next : List Class) (size i level : ℕ) → IsGraded now → i < length now → ((k : Class) → level ≡ length (get_or now i k).above.items)
    → level ≡ size → IsSettledTo now size i → ((k : Class) → next ≡ set now i (settled now (get_or now i k))) → IsSettledTo next size (i + 1)
settled_by now next size i level graded within here same before is =
    let k = some_element now i within in
    subst (λ ns. IsSettledTo ns size (i + 1)) (sym (is k)) (settled_one now size i k graded within (sym same ∙ here k) before)

-- ---- with the sets of their own annotations the classes stay graded

own_at : (table : List (List ℕ)) (xs : List Class) (i : ℕ) (k : Class) → i < length xs → get_or (map (with_own_set table) xs) i k ≡ with_own_set table (get_or xs i k)
own_at table xs i k h = get_or_map_at (with_own_set table) xs i k k h

pub graded_own : (table : List (List ℕ)) (xs : List Class) → IsGraded xs → IsGraded (map (with_own_set table) xs)
graded_own table xs graded i k below n d h e inside =
    let ys = map (with_own_set table) xs in
    let len = length-map xs (with_own_set table) in
    let within : i < length xs = omega (arith, below, len) in
    let at = own_at table xs i k within in
    let supers : named_supers (get_or ys i k) ≡ named_supers (get_or xs i k) = ap named_supers at in
    let moved : (get_or (named_supers (get_or ys i k)) n d).0 ≡ (get_or (named_supers (get_or xs i k)) n d).0 = ap (λ ds. (get_or ds n d).0) supers in
    let inner : (get_or (named_supers (get_or xs i k)) n d).0 < length xs = omega (arith, inside, moved, len) in
    let lower = graded i k within n d (omega (arith, h, ap length supers)) e inner in
    let there = ap (λ (z : Class). length z.above.items) (own_at table xs (get_or (named_supers (get_or xs i k)) n d).0 e inner) in
    let moved_level = ap (λ (p : ℕ). length (get_or ys p e).above.items) moved in
    let here = ap (λ (z : Class). length z.above.items) at in
    omega (arith, lower, there, moved_level, here)

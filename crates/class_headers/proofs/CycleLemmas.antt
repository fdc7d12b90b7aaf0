-- Lemmas on classes above themselves, and on the least of refusals that a relation gives.
use Rattle.std.proofs.Common.{◌≡◌, ◌↔◌, ◌∙◌, sym, ap, refl, subst, arith, inl, inr, ⊎_elim, ℕ, ◌+◌, ◌<◌, ◌≤◌, Bool, true, false, true≢false, IsTrue, cond, Option, Some, None, List, [], ◌∷◌, ◌++◌, length, map}
use Rattle.std.specs.Prelude.{slice_get, ◌⊎◌, filter}
use Rattle.std.specs.List.{range_with_len}
use Rattle.std.proofs.lemmas.List.{map-append}
use Rattle.std.proofs.lemmas.List.Elements.{filter-append}
use Rattle.std.proofs.lemmas.Option.{slice_get_within}
use Rattle.class_names.proofs.NameLemmas.{range_push}
use Rattle.std.specs.List.{Contains}
use Rattle.std.proofs.lemmas.Bool.{cases_lt, eq-eqb, eqb-true}
use Rattle.std.proofs.lemmas.List.Folds.{Any-from_list_any, list_any-from_Any}
use Rattle.rlc_base.specs.declared.code.Code.TheVariants as refused
use Rattle.rlc_base.specs.declared.faults.Refusal.{Refusal}
use Rattle.program_model.specs.declared.kinds.ClassId.{ClassId}
use Rattle.program_model.specs.SuperTests.{has_class, is_class}
use Rattle.refusal_order.specs.Refusals.{is_before, least, lesser_of, refused_at, where_true}
use Rattle.class_names.specs.ClassNames.{class_number}
use Rattle.class_headers.specs.Cases.{IsCycleAt, IsCycleCase}
use Rattle.class_order.specs.Cases.{IsLeast}
use Rattle.class_order.proofs.LeastLemmas.{least_joined, least_same, not_before_itself}
use Rattle.class_headers.specs.Cycles.{closes}
use Rattle.class_order.specs.Declarations.{Declaration, place_of}
use Rattle.class_headers.specs.Search.{AreFound}
use Rattle.class_headers.specs.SuperTypes.{IsAboveItself, IsUnder, itself, above, right_above}
use Rattle.class_headers.proofs.SearchLemmas.{under_more}

same_class : (c d : ClassId) → c.0 ≡ d.0 → c ≡ d
same_class c d same = λ i. record { 0 = same i }

pub has_class_contains : (cs : List ClassId) (d : ClassId) → has_class cs d ≡ true → Contains cs d
has_class_contains cs d passes =
    let found = Any-from_list_any (λ x. is_class x d) cs passes in
    let P : ClassId → Type 0 = λ x. Contains cs x in
    subst P (same_class found.1 d (eqb-true found.1.0 d.0 found.4)) (found.0, found.2, found.3)

pub contains_has_class : (cs : List ClassId) (d : ClassId) → Contains cs d → has_class cs d ≡ true
contains_has_class cs d here = list_any-from_Any (λ x. is_class x d) cs (here.0, d, here.1, here.2, eq-eqb d.0 d.0 refl)

-- the classes that are found are those that the class stands under
pub found_under : (direct : List (List ClassId)) (found : List ClassId) (c d : ClassId) (b : Bool) → b ≡ has_class found d → AreFound direct c found → IsTrue b ↔ IsUnder direct c d
found_under direct found c d b is h = (
  (λ passes. (h.exact d).0 (has_class_contains found d (sym is ∙ passes))),
  (λ under. is ∙ contains_has_class found d ((h.exact d).1 under)),
)

-- a chain that leads back to its begin
closed_chain : (direct : List (List ClassId)) (c b : ClassId) → IsUnder direct c b → Contains (right_above direct b) c → IsAboveItself direct c
closed_chain direct c b (itself same) has = (same, has, itself same)
closed_chain direct c b (above x e y first rest) has = (e, first, under_more direct e y x rest has)

-- the last step of such a chain
last_step : (direct : List (List ClassId)) (c e d : ClassId) → IsUnder direct c e → IsUnder direct e d → (e ≡ d) ⊎ ((b : ClassId) × IsUnder direct c b × Contains (right_above direct b) d)
last_step direct c e d under (itself same) = inl refl
last_step direct c e d under (above x f y first rest) = inr (⊎_elim
    (λ same. (x, under, subst (λ (z : ClassId). Contains (right_above direct x) z) same first))
    (λ found. found)
    (last_step direct c f y (under_more direct c x f under first) rest))

pub cycle_ends : (direct : List (List ClassId)) (c : ClassId) → IsAboveItself direct c → (b : ClassId) × IsUnder direct c b × Contains (right_above direct b) c
cycle_ends direct c h = ⊎_elim
    (λ same. (c, itself c, subst (λ (z : ClassId). Contains (right_above direct c) z) same h.1))
    (λ found. found)
    (last_step direct c h.0 c (above c h.0 h.0 h.1 (itself h.0)) h.2)

-- a class stands above itself exactly where a class that it stands under has it right above
pub closes_law : (direct : List (List ClassId)) (found : List ClassId) (c : ClassId) → AreFound direct c found → IsTrue (closes direct found c) ↔ IsAboveItself direct c
closes_law direct found c h = (
  (λ passes.
      let some = Any-from_list_any (λ b. has_class (right_above direct b) c) found passes in
      closed_chain direct c some.1 ((h.exact some.1).0 (some.0, some.2, some.3)) (has_class_contains (right_above direct some.1) c some.4)),
  (λ cycle.
      let last = cycle_ends direct c cycle in
      let here = (h.exact last.0).1 last.1 in
      list_any-from_Any (λ b. has_class (right_above direct b) c) found (here.0, last.0, here.1, here.2, contains_has_class (right_above direct last.0) c last.2)),
)

-- ---- the refusals of classes above themselves

-- the refusal of one class
pub case_least : (direct : List (List ClassId)) (c : ClassId) (o : Option Declaration) (d : Declaration) (b : Bool) → o ≡ Some d → IsTrue b ↔ IsAboveItself direct c → IsLeast (IsCycleAt direct c o) (least (where_true b refused.CyclicSupers (place_of d)))
case_least direct c o d b is cycle = subst (λ q. IsLeast (IsCycleAt direct c q) (least (where_true b refused.CyclicSupers (place_of d)))) (sym is) (by_test b cycle)
  where
    by_test : (b : Bool) → IsTrue b ↔ IsAboveItself direct c → IsLeast (IsCycleAt direct c (Some d)) (least (where_true b refused.CyclicSupers (place_of d)))
    by_test true cycle = ((cycle.0 refl, refl), λ s due. ap (λ x. is_before x (refused_at refused.CyclicSupers (place_of d))) due.1 ∙ not_before_itself (refused_at refused.CyclicSupers (place_of d)))
    by_test false cycle = λ r due. absurd (true≢false (sym (cycle.1 due.0)))

pub none_least : (direct : List (List ClassId)) (c : ClassId) (o : Option Declaration) → o ≡ None → IsLeast (IsCycleAt direct c o) None
none_least direct c o is = subst (λ q. IsLeast (IsCycleAt direct c q) None) (sym is) (λ r due. due)

-- a refusal of one of the first classes
abbrev pub IsEarlyCycle : List Declaration → List (List ClassId) → ℕ → Refusal → Type 0
IsEarlyCycle order direct n r = (c : ClassId) × (c.0 < n) × IsCycleAt direct c (slice_get order c.0) r

pub cycles_more : (order : List Declaration) (direct : List (List ClassId)) (n : ℕ) (x y : Option Refusal) → IsLeast (IsEarlyCycle order direct n) x → IsLeast (IsCycleAt direct (class_number n) (slice_get order n)) y → IsLeast (IsEarlyCycle order direct (n + 1)) (lesser_of x y)
cycles_more order direct n x y h g =
    least_joined (IsEarlyCycle order direct n) (IsCycleAt direct (class_number n) (slice_get order n)) (IsEarlyCycle order direct (n + 1)) x y
    (λ r due. ⊎_elim
    (λ below. inl (due.0, below, due.2))
    (λ past. let within = due.1 in let last : due.0.0 ≡ n = omega arith in inr (subst (λ (c : ClassId). IsCycleAt direct c (slice_get order c.0) r) (same_class due.0 (class_number n) last) due.2))
    (cases_lt due.0.0 n))
    (λ r due. (due.0, (let within = due.1 in omega arith), due.2))
    (λ r due. (class_number n, (omega arith), due))
    h g

there : (direct : List (List ClassId)) (c : ClassId) (o : Option Declaration) (r : Refusal) → IsCycleAt direct c o r → (d : Declaration) × (o ≡ Some d)
there direct c None r due = absurd due
there direct c (Some d) r due = (d, refl)

pub cycles_all : (order : List Declaration) (direct : List (List ClassId)) (n : ℕ) (x : Option Refusal) → length order ≤ n → IsLeast (IsEarlyCycle order direct n) x → IsLeast (IsCycleCase order direct) x
cycles_all order direct n x all h =
    least_same (IsEarlyCycle order direct n) (IsCycleCase order direct) x
    (λ r due. (due.0, due.2))
    (λ r due.
    let found = there direct due.0 (slice_get order due.0.0) r due.1 in
    let within = slice_get_within order due.0.0 found.0 found.1 in
    (due.0, (omega arith), due.1))
    h

-- ---- the classes with a mark

pub marked_push : (p : ℕ → Bool) (n : ℕ) → map class_number (filter p (range_with_len 0 (n + 1))) ≡ map class_number (filter p (range_with_len 0 n)) ++ cond (p n) (class_number n ∷ []) []
marked_push p n =
    ap (λ xs. map class_number (filter p xs)) (range_push 0 n n (omega arith))
    ∙ ap (map class_number) (filter-append p (range_with_len 0 n) (n ∷ []))
    ∙ map-append class_number (filter p (range_with_len 0 n)) (filter p (n ∷ [])) ∙ ap (λ xs. map class_number (filter p (range_with_len 0 n)) ++ xs) (last (p n))
  where
    last : (b : Bool) → map class_number (cond b (n ∷ []) []) ≡ cond b (class_number n ∷ []) []
    last true = refl
    last false = refl

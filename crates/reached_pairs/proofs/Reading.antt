-- Visits as they are read in a list of facts.
use Rattle.std.proofs.Common.{◌≡◌, ◌∙◌, sym, ap, refl, arith, ℕ, ◌+◌, ◌<◌, zero, suc, Option, Some, None, List, [], ◌∷◌, ◌++◌, length, length-append, append_assoc}
use Rattle.std.specs.Prelude.{slice_get}
use Rattle.breadth_first.specs.Searches.{AreOnce, IsAt, Stands}
use Rattle.breadth_first.proofs.ListLaws.{at_place, map_at, map_same}
use Rattle.fact_pool.specs.declared.handle.Handle.{Handle}
use Rattle.reached_pairs.specs.declared.visit.Visit.{Visit}
use Rattle.reached_pairs.specs.Visited.{fact_in, facts_in, found_in, known_in, pair_of, pair_with, pairs_in, with_fact}

-- the part of a list of visits that is said without its pairs
pub record AreRead {F : Type 0} (facts : List F) (visits : List Visit) : Type 0 where
  pub handles : (k : ℕ) (v : Visit) (h : Handle) → IsAt visits k v → v.fact ≡ Some h → h.0 < length facts
  pub facts_once : AreOnce facts
  pub once : AreOnce visits

pub pairs_append : (xs ys : List Visit) → pairs_in (xs ++ ys) ≡ pairs_in xs ++ pairs_in ys
pairs_append [] ys = refl
pairs_append (v ∷ xs) ys = ap (λ zs. pair_of v ++ zs) (pairs_append xs ys) ∙ sym (append_assoc (pair_of v) (pairs_in xs) (pairs_in ys))

append_nothing : {X : Type 0} (xs : List X) → xs ++ [] ≡ xs
append_nothing [] = refl
append_nothing (x ∷ xs) = ap (λ ys. x ∷ ys) (append_nothing xs)

pub pairs_push : (xs : List Visit) (v : Visit) → pairs_in (xs ++ v ∷ []) ≡ pairs_in xs ++ pair_of v
pairs_push xs v = pairs_append xs (v ∷ []) ∙ ap (λ zs. pairs_in xs ++ zs) (append_nothing (pair_of v))

get_kept : {X : Type 0} (xs ys : List X) (k : ℕ) → k < length xs → slice_get (xs ++ ys) k ≡ slice_get xs k
get_kept [] ys k h = absurd (omega arith)
get_kept (x ∷ xs) ys zero h = refl
get_kept (x ∷ xs) ys (suc k) h = get_kept xs ys k (omega arith)

fact_kept : {F : Type 0} (facts more : List F) (o : Option Handle) → ((h : Handle) → o ≡ Some h → h.0 < length facts) → fact_in (facts ++ more) o ≡ fact_in facts o
fact_kept facts more None within = refl
fact_kept facts more (Some h) within = get_kept facts more h.0 (within h refl)

-- facts that come later change nothing of what was read
pub found_kept : {F : Type 0} (facts more : List F) (visits : List Visit) → ((k : ℕ) (v : Visit) (h : Handle) → IsAt visits k v → v.fact ≡ Some h → h.0 < length facts) → found_in (facts ++ more) visits ≡ found_in facts visits
found_kept facts more visits handles =
    map_same (known_in (facts ++ more)) (known_in facts) visits (λ k v here. ap (λ (o : Option _). (v.node, o)) (fact_kept facts more v.fact (λ h is. handles k v h here is)))

same_handle : {F : Type 0} (facts : List F) (a b : Option Handle) → AreOnce facts → ((h : Handle) → a ≡ Some h → h.0 < length facts) → ((h : Handle) → b ≡ Some h → h.0 < length facts) → fact_in facts a ≡ fact_in facts b → a ≡ b
same_handle facts None None once first second same = refl
same_handle facts None (Some h) once first second same =
    let at = at_place facts h.0 (second h refl) in
    absurd (let never : None ≡ Some at.0 = same ∙ at.1 in cc)
same_handle facts (Some h) None once first second same =
    let at = at_place facts h.0 (first h refl) in
    absurd (let never : Some at.0 ≡ None = sym at.1 ∙ same in cc)
same_handle facts (Some h) (Some g) once first second same =
    let at = at_place facts h.0 (first h refl) in
    let number : h.0 ≡ g.0 = once h.0 g.0 at.0 at.1 (sym same ∙ at.1) in
    λ i. Some (record { 0 = number i })

-- what was found is there once
pub found_once : {F : Type 0} (facts : List F) (visits : List Visit) → AreRead facts visits → AreOnce (found_in facts visits)
found_once {F} facts visits read i j x here there =
    let v = map_at (known_in facts) visits i x here in
    let w = map_at (known_in facts) visits j x there in
    let both : known_in facts v.0 ≡ known_in facts w.0 = v.1.1 ∙ sym w.1.1 in
    let nodes : v.0.node ≡ w.0.node = ap (λ (z : ℕ × Option F). z.0) both in
    let handles : v.0.fact ≡ w.0.fact = same_handle facts v.0.fact w.0.fact read.facts_once (λ h is. read.handles i v.0 h v.1.0 is) (λ h is. read.handles j w.0 h w.1.0 is) (ap (λ (z : ℕ × Option F). z.1) both) in
    let same : v.0 ≡ w.0 = λ i. record { node = nodes i; fact = handles i } in
    read.once i j v.0 v.1.0 (w.1.0 ∙ ap Some (sym same))

once_rest : {X : Type 0} (x : X) (xs : List X) → AreOnce (x ∷ xs) → AreOnce xs
once_rest x xs once i j y here there = let same : suc i ≡ suc j = once (suc i) (suc j) y here there in omega arith

once_first : {X : Type 0} (x : X) (xs : List X) → AreOnce (x ∷ xs) → Stands xs x → ⊥
once_first x xs once stands = let never : 0 ≡ suc stands.0 = once 0 (suc stands.0) x refl stands.1 in omega arith

once_cons : {X : Type 0} (x : X) (xs : List X) → AreOnce xs → (Stands xs x → ⊥) → AreOnce (x ∷ xs)
once_cons x xs once new zero zero y here there = refl
once_cons x xs once new zero (suc j) y here there = absurd (let same : x ≡ y = cc in new (j, there ∙ ap Some (sym same)))
once_cons x xs once new (suc i) zero y here there = absurd (let same : x ≡ y = cc in new (i, here ∙ ap Some (sym same)))
once_cons x xs once new (suc i) (suc j) y here there = ap suc (once i j y here there)

-- a pair of what was found is found
pub facts_stand : {F : Type 0} (found : List (ℕ × Option F)) (i : ℕ) (y : ℕ × F) → IsAt (facts_in found) i y → Stands found (y.0, Some y.1)
facts_stand [] i y here = absurd (let never : None ≡ Some y = here in cc)
facts_stand ((n, None) ∷ found) i y here = let one = facts_stand found i y here in (suc one.0, one.1)
facts_stand ((n, Some f) ∷ found) zero y here = (0, (let same : (n, f) ≡ y = cc in ap (λ z. Some (z.0, Some z.1)) same))
facts_stand ((n, Some f) ∷ found) (suc i) y here = let one = facts_stand found i y here in (suc one.0, one.1)

once_none : {X : Type 0} (i j : ℕ) (y : X) → IsAt [] i y → IsAt [] j y → i ≡ j
once_none i j y here there = absurd (let never : None ≡ Some y = here in cc)

pub pairs_once : {F : Type 0} (found : List (ℕ × Option F)) → AreOnce found → AreOnce (facts_in found)
pairs_once [] once = λ i j y here there. once_none i j y here there
pairs_once ((n, None) ∷ found) once = pairs_once found (once_rest (n, None) found once)
pairs_once ((n, Some f) ∷ found) once =
    once_cons (n, f) (facts_in found) (pairs_once found (once_rest (n, Some f) found once))
    (λ stands. once_first (n, Some f) found once (facts_stand found stands.0 (n, f) stands.1))

count_one : {F : Type 0} (facts : List F) (n : ℕ) (o : Option Handle) → ((h : Handle) → o ≡ Some h → h.0 < length facts) → length (with_fact n (fact_in facts o)) ≡ length (pair_with n o)
count_one facts n None within = refl
count_one facts n (Some h) within =
    let at = at_place facts h.0 (within h refl) in
    ap (λ x. length (with_fact n x)) at.1

-- there are as many pairs as visits with a fact
pub facts_count : {F : Type 0} (facts : List F) (visits : List Visit) → ((k : ℕ) (v : Visit) (h : Handle) → IsAt visits k v → v.fact ≡ Some h → h.0 < length facts) → length (facts_in (found_in facts visits)) ≡ length (pairs_in visits)
facts_count facts [] handles = refl
facts_count facts (v ∷ visits) handles =
    let one = count_one facts v.node v.fact (λ h is. handles 0 v h refl is) in
    let rest = facts_count facts visits (λ k w h here is. handles (suc k) w h here is) in
    let first = length-append (with_fact v.node (fact_in facts v.fact)) (facts_in (found_in facts visits)) in
    let second = length-append (pair_of v) (pairs_in visits) in
    first ∙ ap (λ n. n + length (facts_in (found_in facts visits))) one ∙ ap (λ n. length (pair_of v) + n) rest ∙ sym second

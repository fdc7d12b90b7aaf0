-- Steps that break rules, joined: what is known of a rule is known by the steps that break it.
use Rattle.std.proofs.Common.{◌≡◌, ◌∙◌, sym, ap, refl, subst, rules, arith, ℕ, ◌≤◌, ◌⊎◌, inl, inr, zero, suc, Bool, true, false, Option, Some, None, List, [], ◌∷◌, ◌++◌, true≢false}
use Rattle.std.specs.Prelude.{if◌then◌else◌}
use Rattle.std.specs.FinSet as set
use Rattle.indexmap.specs.IndexMap.{IndexMap}
use Rattle.rlc_base.proofs.SetLaws.{left_member, right_member, union_member}
use Rattle.breadth_first.specs.Searches.{IsAt, Stands}
use Rattle.body_faults.specs.Breaches.{Gathers, HasGathered}
use Rattle.body_faults.specs.Broken.{BrokenStep, joined, joined_all, same_breach}
use Rattle.body_faults.specs.declared.breach.Breach.{Breach}
use Rattle.body_faults.specs.declared.breach.Breached.{Breached}
use Rattle.body_faults.specs.contracts.breach.BreachEq.TheImpl.Laws as breach_laws

pub exact_breach : (x y : Breach) → same_breach x y ≡ true → x ≡ y
exact_breach x y h = search rules

pub same_self : (x : Breach) → same_breach x x ≡ true
same_self x = (breach_laws.laws-law).refl x

pub joined_append : (k : Breach) (known : Option Breached) (xs ys : List BrokenStep) → joined_all k known (xs ++ ys) ≡ joined_all k (joined_all k known xs) ys
joined_append k known [] ys = refl
joined_append k known (x ∷ xs) ys = joined_append k (if same_breach x.breach k then Some (joined known x) else known) xs ys

-- steps are joined one list after the other
pub gathers_more : {S : Type 0} (old now new : IndexMap Breach Breached S) (xs ys zs : List BrokenStep) → Gathers old now xs → Gathers now new ys → zs ≡ xs ++ ys → Gathers old new zs
gathers_more old now new xs ys zs before after is k =
    after k ∙ ap (λ (r : Option Breached). joined_all k r ys) (before k) ∙ sym (joined_append k _ xs ys) ∙ ap (joined_all k _) (sym is)

-- a step of the list breaks the rule, and the name is missing
abbrev pub IsMissing : Breach → List BrokenStep → ℕ → Type 0
IsMissing k xs m = (x : BrokenStep) × (Stands xs x × ((x.breach ≡ k) × (set.contains x.names m ≡ true)))

missing_on : (k : Breach) (x : BrokenStep) (xs : List BrokenStep) (m : ℕ) → IsMissing k xs m → IsMissing k (x ∷ xs) m
missing_on k x xs m (y, (stands, is)) = (y, ((suc stands.0, stands.1), is))

-- more steps are joined with what is known
record IsJoined (k : Breach) (z : Breached) (xs : List BrokenStep) (y : Breached) : Type 0 where
  visit : y.visit ≡ z.visit
  arc : y.arc ≡ z.arc
  kept : (m : ℕ) → set.contains z.missing m ≡ true → set.contains y.missing m ≡ true
  put : (m : ℕ) → IsMissing k xs m → set.contains y.missing m ≡ true
  only : (m : ℕ) → set.contains y.missing m ≡ true → (set.contains z.missing m ≡ true) ⊎ IsMissing k xs m

joined_by : (k : Breach) (z : Breached) (x : BrokenStep) (xs : List BrokenStep) (y : Breached) (r : Bool) → same_breach x.breach k ≡ r
    → IsJoined k (if r then joined (Some z) x else z) xs y → IsJoined k z (x ∷ xs) y
joined_by k z x xs y true is h = record {
  visit = h.visit;
  arc = h.arc;
  kept = λ m there. h.kept m (left_member z.missing x.names m there);
  put = put;
  only = λ m there. elim (h.only m there) [
    | inl new ↦ elim (union_member z.missing x.names m new) [
      | inl old ↦ inl old
      | inr here ↦ inr (x, ((0, refl), (exact_breach x.breach k is, here)))
    ]
    | inr later ↦ inr (missing_on k x xs m later)
  ];
}
  where
    put : (m : ℕ) → IsMissing k (x ∷ xs) m → set.contains y.missing m ≡ true
    put m (w, ((zero, at), (same, here))) =
        let one : x ≡ w = cc in
        h.kept m (right_member z.missing x.names m (subst (λ (v : BrokenStep). set.contains v.names m ≡ true) (sym one) here))
    put m (w, ((suc n, at), is)) = h.put m (w, ((n, at), is))
joined_by k z x xs y false is h = record {
  visit = h.visit;
  arc = h.arc;
  kept = h.kept;
  put = put;
  only = λ m there. elim (h.only m there) [
    | inl old ↦ inl old
    | inr later ↦ inr (missing_on k x xs m later)
  ];
}
  where
    put : (m : ℕ) → IsMissing k (x ∷ xs) m → set.contains y.missing m ≡ true
    put m (w, ((zero, at), (same, here))) =
        let one : x ≡ w = cc in
        absurd (true≢false (sym (same_self k) ∙ ap (λ (v : Breach). same_breach v k) (sym (ap (λ (v : BrokenStep). v.breach) one ∙ same)) ∙ is))
    put m (w, ((suc n, at), is)) = h.put m (w, ((n, at), is))

if_some : (r : Bool) (x y : Breached) → (if r then Some x else Some y) ≡ Some (if r then x else y)
if_some true x y = refl
if_some false x y = refl

joined_some : (k : Breach) (z : Breached) (xs : List BrokenStep) (y : Breached) → joined_all k (Some z) xs ≡ Some y → IsJoined k z xs y
joined_some k z [] y is =
    let same : z ≡ y = cc in
    subst (IsJoined k z []) same (record {
      visit = refl;
      arc = refl;
      kept = λ m h. h;
      put = λ m h. absurd (let never : None ≡ Some h.0 = h.1.0.1 in cc);
      only = λ m h. inl h;
    })
joined_some k z (x ∷ xs) y is =
    joined_by k z x xs y (same_breach x.breach k) refl
    (joined_some k (if same_breach x.breach k then joined (Some z) x else z) xs y
    (sym (ap (λ (r : Option Breached). joined_all k r xs) (if_some (same_breach x.breach k) (joined (Some z) x) z)) ∙ is))

-- what is known was joined from the steps that break the rule, and the first of them is told
pub record IsJoinedFrom (k : Breach) (xs : List BrokenStep) (y : Breached) : Type 0 where
  pub place : ℕ
  pub step : BrokenStep
  pub at : IsAt xs place step
  pub breach : step.breach ≡ k
  pub visit : y.visit ≡ step.visit
  pub arc : y.arc ≡ step.arc
  pub first : (j : ℕ) (w : BrokenStep) → IsAt xs j w → w.breach ≡ k → place ≤ j
  pub put : (m : ℕ) → IsMissing k xs m → set.contains y.missing m ≡ true
  pub only : (m : ℕ) → set.contains y.missing m ≡ true → IsMissing k xs m

from_by : (k : Breach) (x : BrokenStep) (xs : List BrokenStep) (y : Breached) (r : Bool) → same_breach x.breach k ≡ r
    → (joined_all k None xs ≡ Some y → IsJoinedFrom k xs y) → joined_all k (if r then Some (joined None x) else None) xs ≡ Some y → IsJoinedFrom k (x ∷ xs) y
from_by k x xs y true is rest h =
    let all = joined_some k (joined None x) xs y h in
    record {
      place = 0;
      step = x;
      at = refl;
      breach = exact_breach x.breach k is;
      visit = all.visit;
      arc = all.arc;
      first = λ j w here same. omega arith;
      put = put all;
      only = λ m there. elim (all.only m there) [
        | inl here ↦ (x, ((0, refl), (exact_breach x.breach k is, here)))
        | inr later ↦ missing_on k x xs m later
      ];
    }
  where
    put : IsJoined k (joined None x) xs y → (m : ℕ) → IsMissing k (x ∷ xs) m → set.contains y.missing m ≡ true
    put all m (w, ((zero, at), (same, here))) =
        let one : x ≡ w = cc in
        all.kept m (subst (λ (v : BrokenStep). set.contains v.names m ≡ true) (sym one) here)
    put all m (w, ((suc n, at), is)) = all.put m (w, ((n, at), is))
from_by k x xs y false is rest h =
    let all = rest h in
    record {
      place = suc all.place;
      step = all.step;
      at = all.at;
      breach = all.breach;
      visit = all.visit;
      arc = all.arc;
      first = first all;
      put = put all;
      only = λ m there. missing_on k x xs m (all.only m there);
    }
  where
    other : (w : BrokenStep) → x ≡ w → w.breach ≡ k → ⊥
    other w one same = true≢false (sym (same_self k) ∙ ap (λ (v : Breach). same_breach v k) (sym (ap (λ (v : BrokenStep). v.breach) one ∙ same)) ∙ is)

    first : (all : IsJoinedFrom k xs y) → (j : ℕ) (w : BrokenStep) → IsAt (x ∷ xs) j w → w.breach ≡ k → suc all.place ≤ j
    first all zero w at same = absurd (other w (let one : x ≡ w = cc in one) same)
    first all (suc j) w at same = (let low = all.first j w at same in omega (arith, low))

    put : IsJoinedFrom k xs y → (m : ℕ) → IsMissing k (x ∷ xs) m → set.contains y.missing m ≡ true
    put all m (w, ((zero, at), (same, here))) = absurd (other w (let one : x ≡ w = cc in one) same)
    put all m (w, ((suc n, at), is)) = all.put m (w, ((n, at), is))

pub joined_from : (k : Breach) (xs : List BrokenStep) (y : Breached) → joined_all k None xs ≡ Some y → IsJoinedFrom k xs y
joined_from k [] y is = absurd (let never : None ≡ Some y = is in cc)
joined_from k (x ∷ xs) y is = from_by k x xs y (same_breach x.breach k) refl (joined_from k xs y) is

still_known : (k : Breach) (z : Breached) (xs : List BrokenStep) → (y : Breached) × (joined_all k (Some z) xs ≡ Some y)
still_known k z [] = (z, refl)
still_known k z (x ∷ xs) =
    let rest = still_known k (if same_breach x.breach k then joined (Some z) x else z) xs in
    (rest.0, ap (λ (r : Option Breached). joined_all k r xs) (if_some (same_breach x.breach k) (joined (Some z) x) z) ∙ rest.1)

known_by : (k : Breach) (known : Option Breached) (x : BrokenStep) (xs : List BrokenStep) (r : Bool) → r ≡ true → (y : Breached) × (joined_all k (if r then Some (joined known x) else known) xs ≡ Some y)
known_by k known x xs true is = still_known k (joined known x) xs
known_by k known x xs false is = absurd (true≢false (sym is))

-- where a step breaks the rule, this is known
pub known_from : (k : Breach) (known : Option Breached) (xs : List BrokenStep) (n : ℕ) (x : BrokenStep) → IsAt xs n x → x.breach ≡ k → (y : Breached) × (joined_all k known xs ≡ Some y)
known_from k known [] n x at same = absurd (let never : None ≡ Some x = at in cc)
known_from k known (z ∷ xs) zero x at same =
    let one : z ≡ x = cc in
    known_by k known z xs (same_breach z.breach k) (ap (λ (v : Breach). same_breach v k) (ap (λ (v : BrokenStep). v.breach) one ∙ same) ∙ same_self k)
known_from k known (z ∷ xs) (suc n) x at same = known_from k (if same_breach z.breach k then Some (joined known z) else known) xs n x at same

-- steps are joined with all that came before them
pub has_more : {S : Type 0} (now new : IndexMap Breach Breached S) (xs ys zs : List BrokenStep) → HasGathered now xs → Gathers now new ys → zs ≡ xs ++ ys → HasGathered new zs
has_more now new xs ys zs before after is k =
    after k ∙ ap (λ (r : Option Breached). joined_all k r ys) (before k) ∙ sym (joined_append k None xs ys) ∙ ap (joined_all k None) (sym is)

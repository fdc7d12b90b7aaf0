-- A table of classes, each of which stands behind its super types and lists what these list and itself, is a hierarchy.
use Rattle.std.proofs.Common.{◌≡◌, ◌⊎◌, ◌<◌, ◌≤◌, ◌+◌, ℕ, zero, suc, nat_eq, nat_lt, Bool, true, false, ◌&&◌, ◌||◌, Option, Some, None, List, [], ◌∷◌, map, length, slice_index, Contains, refl, sym, ap, ◌∙◌, subst, arith, inl, inr}
use Rattle.std.specs.List.{list_all, list_any}
use Rattle.std.specs.List.Sorted.{IsStrictlyIncreasing}
use Rattle.std.proofs.lemmas.Bool.{and_parts, eq-eqb, eqb-true, ltb-true}
use Rattle.std.proofs.lemmas.List.Folds.{Any-from_list_any, list_any-from_Any}
use Rattle.std.proofs.lemmas.Option.{slice_get_within}
use Rattle.program_model.specs.declared.kinds.ClassId.{ClassId}
use Rattle.program_model.specs.declared.program.Class.{Class}
use Rattle.program_model.specs.declared.program.Program.{Program}
use Rattle.program_model.specs.Hierarchy.{HasSupers, IsDirectSuper, IsHierarchy, IsUnder, class_number, direct_supers, itself, above}
use Rattle.program_model.specs.Lookups.{class_at}
use Rattle.program_model.specs.SuperTests.{classes_above, has_class, is_class, is_under}
use Rattle.safety_examples.proofs.Tests.{passes_at, passes_in, test_each}

-- ---- the tests

abbrev pub comes_before : ℕ → ClassId → Bool
comes_before i d = nat_lt d.0 i

abbrev pub lists_all_of : Program → List ClassId → ClassId → Bool
lists_all_of p listed e = list_all (has_class listed) (classes_above e (class_at p e))

abbrev pub is_due : Program → ℕ → Class → ClassId → Bool
is_due p i k d = nat_eq i d.0 || list_any (λ e. is_under p e d) (direct_supers p k)

abbrev pub rises : ℕ → List ℕ → Bool
rises n [] = true
rises n (m ∷ ms) = nat_lt n m && rises m ms

abbrev pub rises_at_all : List ℕ → Bool
rises_at_all [] = true
rises_at_all (n ∷ ns) = rises n ns

-- what is tested of each class with its number
pub record IsPlaced (p : Program) : Type 0 where
  pub before : test_each (λ i k. list_all (comes_before i) (direct_supers p k)) p.classes.items ≡ true
  pub own : test_each (λ i k. has_class k.above.items (record { 0 = i })) p.classes.items ≡ true
  pub supers : test_each (λ i k. list_all (lists_all_of p k.above.items) (direct_supers p k)) p.classes.items ≡ true
  pub due : test_each (λ i k. list_all (is_due p i k) k.above.items) p.classes.items ≡ true
  pub order : test_each (λ i k. rises_at_all (map class_number k.above.items)) p.classes.items ≡ true

-- ---- what they say

same_class : (c d : ClassId) → c.0 ≡ d.0 → c ≡ d
same_class c d same = λ i. record { 0 = same i }

has_class_law : (cs : List ClassId) (d : ClassId) → has_class cs d ≡ true → Contains cs d
has_class_law cs d listed =
    let found = Any-from_list_any (λ x. is_class x d) cs listed in
    let P : ClassId → Type 0 = λ x. Contains cs x in
    subst P (same_class found.1 d (eqb-true found.1.0 d.0 found.4)) (found.0, found.2, found.3)

has_class_back : (cs : List ClassId) (d : ClassId) → Contains cs d → has_class cs d ≡ true
has_class_back cs d here = list_any-from_Any (λ x. is_class x d) cs (here.0, d, here.1, here.2, eq-eqb d.0 d.0 refl)

rises_within : (n : ℕ) (ns : List ℕ) → rises n ns ≡ true → IsStrictlyIncreasing (n ∷ ns)
rises_within n [] listed k within = absurd (omega arith)
rises_within n (m ∷ ms) listed zero within = ltb-true n m (and_parts (nat_lt n m) (rises m ms) listed).0
rises_within n (m ∷ ms) listed (suc k) within =
    let next : suc k + 1 ≡ suc (k + 1) = omega arith in
    subst (λ j. slice_index (m ∷ ms) k < slice_index (n ∷ m ∷ ms) j) (sym next) (rises_within m ms (and_parts (nat_lt n m) (rises m ms) listed).1 k (omega arith))

pub increasing : (ns : List ℕ) → rises_at_all ns ≡ true → IsStrictlyIncreasing ns
increasing [] listed k within = absurd (omega arith)
increasing (n ∷ ns) listed k within = rises_within n ns listed k within

-- one of two tests passes
either : (a b : Bool) → (a || b) ≡ true → (a ≡ true) ⊎ (b ≡ true)
either true b one = inl refl
either false b one = inr one

or_none : (b : Bool) → (b || false) ≡ true → b ≡ true
or_none true one = refl
or_none false one = one

module _ (p : Program) (tested : IsPlaced p) where
  super_before : (c d : ClassId) → IsDirectSuper p c d → d.0 < c.0
  super_before c d direct =
      let test = passes_at (λ i (k : Class). list_all (comes_before i) (direct_supers p k)) p.classes.items c.0 direct.0 tested.before direct.1 in
      ltb-true d.0 c.0 (passes_in (comes_before c.0) (direct_supers p direct.0) d test direct.2)

  under_before : (c d : ClassId) → IsUnder p c d → d.0 ≤ c.0
  under_before c d (itself same) = omega arith
  under_before c d (above b e f direct rest) = let first = super_before c e direct in let last = under_before e d rest in omega arith

  itself_listed : (c : ClassId) (found : Option Class) → class_at p c ≡ found → has_class (classes_above c found) c ≡ true
  itself_listed c None at = ap (λ b. b || false) (eq-eqb c.0 c.0 refl)
  itself_listed c (Some k) at = passes_at (λ i (k : Class). has_class k.above.items (record { 0 = i })) p.classes.items c.0 k tested.own at

  under_listed : (c d : ClassId) → IsUnder p c d → is_under p c d ≡ true
  under_listed c d (itself same) = itself_listed c (class_at p c) refl
  under_listed c d (above b e f direct rest) =
      let k = direct.0 in
      let test = passes_at (λ i (k : Class). list_all (lists_all_of p k.above.items) (direct_supers p k)) p.classes.items c.0 k tested.supers direct.1 in
      let all = passes_in (lists_all_of p k.above.items) (direct_supers p k) e test direct.2 in
      let one = has_class_law (classes_above e (class_at p e)) d (under_listed e d rest) in
      ap (λ (found : Option Class). has_class (classes_above c found) d) direct.1
      ∙ passes_in (has_class k.above.items) (classes_above e (class_at p e)) d all one

  equal_under : (c d : ClassId) → nat_eq c.0 d.0 ≡ true → IsUnder p c d
  equal_under c d same = let P : ClassId → Type 0 = λ x. IsUnder p c x in subst P (same_class c d (eqb-true c.0 d.0 same)) (itself c)

  module _ (n : ℕ) (lower : (c d : ClassId) → c.0 < n → is_under p c d ≡ true → IsUnder p c d) (c d : ClassId) (small : c.0 < suc n) where
    by_super : (k : Class) → class_at p c ≡ Some k → (e : ClassId) → Contains (direct_supers p k) e → is_under p e d ≡ true → IsUnder p c d
    by_super k at e has under =
        let first = super_before c e (k, at, has) in
        let smaller : e.0 < n = omega arith in
        above c e d (k, at, has) (lower e d smaller under)

    by_due : (k : Class) → class_at p c ≡ Some k → (nat_eq c.0 d.0 ≡ true) ⊎ (list_any (λ e. is_under p e d) (direct_supers p k) ≡ true) → IsUnder p c d
    by_due k at (inl same) = equal_under c d same
    by_due k at (inr some) = let found = Any-from_list_any (λ e. is_under p e d) (direct_supers p k) some in by_super k at found.1 (found.0, found.2, found.3) found.4

    by_class : (found : Option Class) → class_at p c ≡ found → has_class (classes_above c found) d ≡ true → IsUnder p c d
    by_class None at listed = equal_under c d (or_none (is_class c d) listed)
    by_class (Some k) at listed =
        let test = passes_at (λ i (k : Class). list_all (is_due p i k) k.above.items) p.classes.items c.0 k tested.due at in
        let due = passes_in (is_due p c.0 k) k.above.items d test (has_class_law k.above.items d listed) in
        by_due k at (either (nat_eq c.0 d.0) (list_any (λ e. is_under p e d) (direct_supers p k)) due)

  listed_under : (n : ℕ) (c d : ClassId) → c.0 < n → is_under p c d ≡ true → IsUnder p c d
  listed_under zero c d small listed = absurd (omega arith)
  listed_under (suc n) c d small listed = by_class n (listed_under n) c d small (class_at p c) refl listed

  supers : (c : ClassId) (k : Class) → class_at p c ≡ Some k → HasSupers p c k
  supers c k at =
      let within : c.0 < length p.classes.items = slice_get_within p.classes.items c.0 k at in
      let here : (d : ClassId) → is_under p c d ≡ has_class k.above.items d = λ d. ap (λ (found : Option Class). has_class (classes_above c found) d) at in
      record {
        known = λ d direct. let lower = super_before c d direct in omega arith;
        acyclic = λ d direct under. let lower = super_before c d direct in let upper = under_before d c under in absurd (omega arith);
        above = record {
          ordered = increasing (map class_number k.above.items) (passes_at (λ i (k : Class). rises_at_all (map class_number k.above.items)) p.classes.items c.0 k tested.order at);
          exact = λ d. (
            (λ has. listed_under (suc c.0) c d (omega arith) (here d ∙ has_class_back k.above.items d has)),
            (λ under. has_class_law k.above.items d (sym (here d) ∙ under_listed c d under)),
          );
        };
      }

  pub hierarchy : IsHierarchy p
  hierarchy = record { supers = supers }

  pub is_under_listed : (c d : ClassId) → is_under p c d ≡ true → IsUnder p c d
  is_under_listed c d listed = listed_under (suc c.0) c d (omega arith) listed

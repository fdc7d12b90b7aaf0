-- Each number of a set of places is that of one place.
use Rattle.std.proofs.Common.{◌≡◌, ◌∙◌, ap, refl, sym, subst, arith, ℕ, zero, suc, ◌-◌, ◌<◌, ◌≤◌, Bool, true, false, ◌||◌, true≢false, inl, inr}
use Rattle.std.specs.Prelude.{◌==◌, ◌⊎◌, nat_eq}
use Rattle.std.specs.FinSet as set
use Rattle.std.specs.Ordering.{nat_cmp}
use Rattle.std.specs.Cmp.{nat_cmp_total}
use Rattle.std.proofs.lemmas.Bool.{cases_lt}
use Rattle.std.proofs.lemmas.Bool.Decides.{nat_tests}
use Rattle.rlc_base.specs.NameSet.{inserted}
use Rattle.control_actions.specs.declared.place.Place.{Place}
use Rattle.control_actions.specs.declared.place.Place.TheVariants as places
use Rattle.java_control.specs.PlaceNumbers.{IsSmall, number_of}
use Rattle.java_control.specs.Sources.{is_place}
use Rattle.step_laws.specs.Facts.{PlaceSet, has, is_nowhere}
use Rattle.place_laws.specs.Places.{HasPlacesAlone}

-- ---- one number, one place

pub same_number : (x q : Place) → IsSmall x → IsSmall q → (number_of q == number_of x) ≡ is_place x q
same_number (places.Var i) (places.Var j) small also = grind (arith, nat_tests)
same_number (places.Var i) places.This small also = grind (arith, nat_tests)
same_number (places.Var i) (places.Field k) small also = grind (arith, nat_tests)
same_number (places.Var i) (places.Temp d) small also = grind (arith, nat_tests)
same_number (places.Var i) places.Super small also = grind (arith, nat_tests)
same_number places.This (places.Var j) small also = grind (arith, nat_tests)
same_number places.This places.This small also = grind (arith, nat_tests)
same_number places.This (places.Field k) small also = grind (arith, nat_tests)
same_number places.This (places.Temp d) small also = grind (arith, nat_tests)
same_number places.This places.Super small also = grind (arith, nat_tests)
same_number (places.Field j) (places.Var i) small also = grind (arith, nat_tests)
same_number (places.Field j) places.This small also = grind (arith, nat_tests)
same_number (places.Field j) (places.Field k) small also = grind (arith, nat_tests)
same_number (places.Field j) (places.Temp d) small also = grind (arith, nat_tests)
same_number (places.Field j) places.Super small also = grind (arith, nat_tests)
same_number (places.Temp d) (places.Var i) small also = grind (arith, nat_tests)
same_number (places.Temp d) places.This small also = grind (arith, nat_tests)
same_number (places.Temp d) (places.Field k) small also = grind (arith, nat_tests)
same_number (places.Temp d) (places.Temp e) small also = grind (arith, nat_tests)
same_number (places.Temp d) places.Super small also = grind (arith, nat_tests)
same_number places.Super (places.Var i) small also = grind (arith, nat_tests)
same_number places.Super places.This small also = grind (arith, nat_tests)
same_number places.Super (places.Field k) small also = grind (arith, nat_tests)
same_number places.Super (places.Temp d) small also = grind (arith, nat_tests)
same_number places.Super places.Super small also = grind (arith, nat_tests)

equal_numbers : (m n : ℕ) → nat_eq m n ≡ true → m ≡ n
equal_numbers m n same = grind (arith, nat_tests)

pub same_place : (x q : Place) → is_place x q ≡ true → x ≡ q
same_place (places.Var i) (places.Var j) same = ap places.Var (equal_numbers i j same)
same_place (places.Var i) places.This same = absurd (true≢false (sym same))
same_place (places.Var i) (places.Field k) same = absurd (true≢false (sym same))
same_place (places.Var i) (places.Temp d) same = absurd (true≢false (sym same))
same_place (places.Var i) places.Super same = absurd (true≢false (sym same))
same_place places.This (places.Var j) same = absurd (true≢false (sym same))
same_place places.This places.This same = refl
same_place places.This (places.Field k) same = absurd (true≢false (sym same))
same_place places.This (places.Temp d) same = absurd (true≢false (sym same))
same_place places.This places.Super same = absurd (true≢false (sym same))
same_place (places.Field j) (places.Var i) same = absurd (true≢false (sym same))
same_place (places.Field j) places.This same = absurd (true≢false (sym same))
same_place (places.Field j) (places.Field k) same = ap places.Field (equal_numbers j k same)
same_place (places.Field j) (places.Temp d) same = absurd (true≢false (sym same))
same_place (places.Field j) places.Super same = absurd (true≢false (sym same))
same_place (places.Temp d) (places.Var i) same = absurd (true≢false (sym same))
same_place (places.Temp d) places.This same = absurd (true≢false (sym same))
same_place (places.Temp d) (places.Field k) same = absurd (true≢false (sym same))
same_place (places.Temp d) (places.Temp e) same = ap places.Temp (equal_numbers d e same)
same_place (places.Temp d) places.Super same = absurd (true≢false (sym same))
same_place places.Super (places.Var i) same = absurd (true≢false (sym same))
same_place places.Super places.This same = absurd (true≢false (sym same))
same_place places.Super (places.Field k) same = absurd (true≢false (sym same))
same_place places.Super (places.Temp d) same = absurd (true≢false (sym same))
same_place places.Super places.Super same = refl

itself : (n : ℕ) → nat_eq n n ≡ true
itself n = grind (arith, nat_tests)

pub place_itself : (x : Place) → is_place x x ≡ true
place_itself (places.Var i) = itself i
place_itself places.This = refl
place_itself (places.Field k) = itself k
place_itself (places.Temp d) = itself d
place_itself places.Super = refl

pub number_small : (x : Place) → IsSmall x → number_of x < 242
number_small (places.Var i) small = omega (arith, small)
number_small places.This small = omega arith
number_small (places.Field k) small = omega (arith, small)
number_small (places.Temp d) small = omega (arith, small)
number_small places.Super small = omega arith

-- ---- each number has a place

abbrev IsNumbered : ℕ → Type 0
IsNumbered n = (q : Place) × IsSmall q × (number_of q ≡ n)

past_fields : (n : ℕ) → n < 242 → 177 ≤ n → IsNumbered n
past_fields n below above = elim (cases_lt n 241) [
  | inl temp ↦ (places.Temp (n - 177), omega (arith, temp, above), omega (arith, above))
  | inr last ↦ (places.Super, tt, omega (arith, below, last))
]

past_this : (n : ℕ) → n < 242 → 161 ≤ n → IsNumbered n
past_this n below above = elim (cases_lt n 177) [
  | inl field ↦ (places.Field (n - 161), omega (arith, field, above), omega (arith, above))
  | inr last ↦ past_fields n below last
]

past_variables : (n : ℕ) → n < 242 → 160 ≤ n → IsNumbered n
past_variables n below above = elim (cases_lt n 161) [
  | inl this ↦ (places.This, tt, omega (arith, this, above))
  | inr last ↦ past_this n below last
]

pub numbered : (n : ℕ) → n < 242 → (q : Place) × IsSmall q × (number_of q ≡ n)
numbered n below = elim (cases_lt n 160) [
  | inl variable ↦ (places.Var n, variable, refl)
  | inr above ↦ past_variables n below above
]

-- ---- sets of one place, and of some

abbrev IsFoundBelow : PlaceSet → ℕ → Type 0
IsFoundBelow held bound = (n : ℕ) × (n < bound) × (set.contains held n ≡ true)

one_more : (held : PlaceSet) (bound : ℕ) (b : Bool) → set.contains held bound ≡ b → ((n : ℕ) → n < bound → set.contains held n ≡ false) → IsFoundBelow held (suc bound) ⊎ ((n : ℕ) → n < suc bound → set.contains held n ≡ false)
one_more held bound true is none = inl (bound, omega arith, is)
one_more held bound false is none = inr (λ n below. elim (cases_lt n bound) [
  | inl less ↦ none n less
  | inr more ↦ subst (λ (k : ℕ). set.contains held k ≡ false) (let same : bound ≡ n = omega (arith, below, more) in same) is
])

search_below : (held : PlaceSet) (bound : ℕ) → IsFoundBelow held bound ⊎ ((n : ℕ) → n < bound → set.contains held n ≡ false)
search_below held zero = inr (λ n below. absurd (omega (arith, below)))
search_below held (suc bound) = elim (search_below held bound) [
  | inl found ↦ inl (found.0, omega (arith, found.1), found.2)
  | inr none ↦ one_more held bound (set.contains held bound) refl none
]

none_within : (held : PlaceSet) → ((n : ℕ) → set.contains held n ≡ true → ⊥) → is_nowhere held ≡ true
none_within held none = set.contains-is_subset nat_cmp_total held set.empty (λ n one. absurd (none n one))

pub some_held : (held : PlaceSet) → HasPlacesAlone held → is_nowhere held ≡ false → (q : Place) × IsSmall q × (has held q ≡ true)
some_held held alone some = elim (search_below held 242) [
  | inl found ↦ (let place = numbered found.0 found.1 in (place.0, place.1, ap (set.contains held) place.2 ∙ found.2))
  | inr none ↦ absurd (true≢false (sym (none_within held (λ n one. true≢false (sym one ∙ none n (alone n one)))) ∙ some))
]

or_nothing : (b : Bool) → (b || false) ≡ b
or_nothing true = refl
or_nothing false = refl

pub single_has : (x q : Place) → IsSmall x → IsSmall q → has (set.insert set.empty (number_of x)) q ≡ is_place x q
single_has x q small also =
    inserted set.empty (number_of x) (number_of q) ∙ ap (λ b. (number_of q == number_of x) || b) (set.contains-empty nat_cmp (number_of q)) ∙ or_nothing (number_of q == number_of x) ∙ same_number x q small also

only_one : (n k : ℕ) → set.contains (set.insert (set.empty {R = nat_cmp}) n) k ≡ (k == n)
only_one n k = inserted set.empty n k ∙ ap (λ b. (k == n) || b) (set.contains-empty nat_cmp k) ∙ or_nothing (k == n)

one_inside : (n : ℕ) (b : Bool) → set.is_subset (set.insert (set.empty {R = nat_cmp}) n) set.empty ≡ b → b ≡ false
one_inside n false within = refl
one_inside n true within =
    let inside = set.is_subset-contains nat_cmp_total (set.insert (set.empty {R = nat_cmp}) n) set.empty within n (only_one n n ∙ itself n) in
    absurd (true≢false (sym inside ∙ set.contains-empty nat_cmp n))

pub single_some : (x : Place) → is_nowhere (set.insert set.empty (number_of x)) ≡ false
single_some x = one_inside (number_of x) _ refl

same_as : (k n : ℕ) → (k == n) ≡ true → k ≡ n
same_as k n same = grind (arith, nat_tests)

pub single_alone : (x : Place) → IsSmall x → HasPlacesAlone (set.insert set.empty (number_of x))
single_alone x small = λ n one. (
    let same = same_as n (number_of x) (sym (only_one (number_of x) n) ∙ one) in
    let below = number_small x small in
    omega (arith, same, below))

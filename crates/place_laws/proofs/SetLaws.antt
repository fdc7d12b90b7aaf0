-- Which places are in a set, once others were put in or taken out.
use Rattle.std.proofs.Common.{◌≡◌, ◌∙◌, ap, refl, sym, subst, arith, ℕ, zero, suc, ◌+◌, ◌<◌, ◌≤◌, Bool, true, false, not, ◌&&◌, ◌||◌, true≢false, inl, inr}
use Rattle.std.specs.Prelude.{◌==◌, ◌⊎◌, nat_eq, nat_le, nat_lt, if◌then◌else◌}
use Rattle.std.specs.FinSet as set
use Rattle.std.specs.Cmp.{nat_cmp_total, unsigned_tied}
use Rattle.std.proofs.lemmas.Bool.Decides.{nat_tests}
use Rattle.rlc_base.specs.NameSet.{inserted}
use Rattle.program_model.specs.declared.tree.Body.{Body}
use Rattle.control_actions.specs.declared.action.Scope.{Scope}
use Rattle.control_actions.specs.declared.place.Place.{Place}
use Rattle.control_actions.specs.declared.place.Place.TheVariants as places
use Rattle.java_control.specs.PlaceNumbers.{IsSmall, number_of}
use Rattle.java_control.specs.Scopes.{drops_variable}
use Rattle.java_control.specs.Sources.{is_part, is_place, is_temp_among}
use Rattle.step_laws.specs.Facts.{PlaceSet, has, with_place, without, without_fields, without_fields_from, without_parts, without_temps, without_variables}
use Rattle.step_laws.specs.PlaceRows.{copied}
use Rattle.place_laws.specs.Places.{HasPlacesAlone, is_local}
use Rattle.place_laws.proofs.Numbers.{number_small, same_number}

-- ---- one place

pub removed : (s : PlaceSet) (n k : ℕ) → set.contains (set.remove s n) k ≡ (not (k == n) && set.contains s k)
removed s n k = set.contains-remove nat_cmp_total s n k ∙ ap (λ b. not b && set.contains s k) (unsigned_tied k n)

pub has_with : (held : PlaceSet) (x q : Place) → IsSmall x → IsSmall q → has (with_place held x) q ≡ (is_place x q || has held q)
has_with held x q small also = inserted held (number_of x) (number_of q) ∙ ap (λ b. b || has held q) (same_number x q small also)

pub has_without : (held : PlaceSet) (x q : Place) → IsSmall x → IsSmall q → has (without held x) q ≡ (not (is_place x q) && has held q)
has_without held x q small also = removed held (number_of x) (number_of q) ∙ ap (λ b. not b && has held q) (same_number x q small also)

with_or_without : (held : PlaceSet) (x q : Place) (b c : Bool) → IsSmall x → IsSmall q → is_place x q ≡ c → has (if b then with_place held x else without held x) q ≡ (if c then b else has held q)
with_or_without held x q true true small also is = has_with held x q small also ∙ ap (λ c. c || has held q) is
with_or_without held x q true false small also is = has_with held x q small also ∙ ap (λ c. c || has held q) is
with_or_without held x q false true small also is = has_without held x q small also ∙ ap (λ c. not c && has held q) is
with_or_without held x q false false small also is = has_without held x q small also ∙ ap (λ c. not c && has held q) is

pub has_copied : (held : PlaceSet) (x y q : Place) → IsSmall x → IsSmall q → has (copied held x y) q ≡ (if is_place x q then has held y else has held q)
has_copied held x y q small also = with_or_without held x q (has held y) (is_place x q) small also refl

-- ---- temps

apart : (d n e : ℕ) (b : Bool) → (not (nat_le (d + 1) e && nat_lt e (d + 1 + n)) && (not (nat_eq d e) && b)) ≡ (not (nat_le d e && nat_lt e (d + suc n)) && b)
apart d n e true = grind (arith, nat_tests)
apart d n e false = grind (arith, nat_tests)

none_among : (d e : ℕ) → (nat_le d e && nat_lt e (d + 0)) ≡ false
none_among d e = grind (arith, nat_tests)

-- a place that is no temp stays
module _ (q : Place) (no_temp : (d : ℕ) → is_place (places.Temp d) q ≡ false) (small : IsSmall q) where
  other_stays : (held : PlaceSet) (d n : ℕ) → d + n ≤ 64 → has (without_temps held d n) q ≡ has held q
  unfolding without_temps
  other_stays held d zero fits = refl
  other_stays held d (suc n) fits =
      other_stays (without held (places.Temp d)) (d + 1) n (omega (arith, fits)) ∙ has_without held (places.Temp d) q (omega (arith, fits)) small ∙ ap (λ b. not b && has held q) (no_temp d)

temp_stays : (held : PlaceSet) (d n e : ℕ) → d + n ≤ 64 → e < 64 → has (without_temps held d n) (places.Temp e) ≡ (not (nat_le d e && nat_lt e (d + n)) && has held (places.Temp e))
unfolding without_temps
temp_stays held d zero e fits small = sym (ap (λ b. not b && has held (places.Temp e)) (none_among d e))
temp_stays held d (suc n) e fits small =
    temp_stays (without held (places.Temp d)) (d + 1) n e (omega (arith, fits)) small
    ∙ ap (λ b. not (nat_le (d + 1) e && nat_lt e (d + 1 + n)) && b) (has_without held (places.Temp d) (places.Temp e) (omega (arith, fits)) small)
    ∙ apart d n e (has held (places.Temp e))

pub has_temps : (held : PlaceSet) (d n : ℕ) (q : Place) → d + n ≤ 64 → IsSmall q → has (without_temps held d n) q ≡ (not (is_temp_among d n q) && has held q)
has_temps held d n (places.Var i) fits small = other_stays (places.Var i) (λ e. refl) small held d n fits
has_temps held d n places.This fits small = other_stays places.This (λ e. refl) small held d n fits
has_temps held d n (places.Field k) fits small = other_stays (places.Field k) (λ e. refl) small held d n fits
has_temps held d n (places.Temp e) fits small = temp_stays held d n e fits small
has_temps held d n places.Super fits small = other_stays places.Super (λ e. refl) small held d n fits

-- ---- variables

-- the set without the variable with this number, where the scope has it
abbrev once : Body → Scope → PlaceSet → ℕ → PlaceSet
once b s held i = if drops_variable b s i then without held (places.Var i) else held

has_once : (held : PlaceSet) (i : ℕ) (c : Bool) (q : Place) → i < 160 → IsSmall q → has (if c then without held (places.Var i) else held) q ≡ (not (c && is_place (places.Var i) q) && has held q)
has_once held i true q inside small = has_without held (places.Var i) q inside small
has_once held i false q inside small = refl

-- a place that is no variable stays
module _ (b : Body) (s : Scope) (q : Place) (no_variable : (i : ℕ) → is_place (places.Var i) q ≡ false) (small : IsSmall q) where
  not_dropped : (held : PlaceSet) (i : ℕ) (c : Bool) → (not (c && is_place (places.Var i) q) && has held q) ≡ has held q
  not_dropped held i true = ap (λ d. not d && has held q) (no_variable i)
  not_dropped held i false = refl

  pub variable_aside : (held : PlaceSet) (i n : ℕ) → i + n ≤ 160 → has (without_variables b s held i n) q ≡ has held q
  unfolding without_variables
  variable_aside held i zero fits = refl
  variable_aside held i (suc n) fits =
      variable_aside (once b s held i) (i + 1) n (omega (arith, fits)) ∙ has_once held i (drops_variable b s i) q (omega (arith, fits)) small ∙ not_dropped held i (drops_variable b s i)

-- whether a variable is among `n` from number i on
abbrev is_among : ℕ → ℕ → ℕ → Bool
is_among i n j = nat_le i j && nat_lt j (i + n)

none_here : (i j : ℕ) → is_among i 0 j ≡ false
none_here i j = grind (arith, nat_tests)

first_here : (i n : ℕ) → is_among i (suc n) i ≡ true
first_here i n = grind (arith, nat_tests)

later_not : (i n : ℕ) → is_among (i + 1) n i ≡ false
later_not i n = grind (arith, nat_tests)

other_here : (i n j : ℕ) → nat_eq i j ≡ false → is_among (i + 1) n j ≡ is_among i (suc n) j
other_here i n j other = grind (arith, nat_tests)

one_number : (i j : ℕ) → nat_eq i j ≡ true → i ≡ j
one_number i j same = grind (arith, nat_tests)

variable_next : (drops : ℕ → Bool) (i n j : ℕ) (e held : Bool) → nat_eq i j ≡ e
    → (not (is_among (i + 1) n j && drops j) && (not (drops i && e) && held)) ≡ (not (is_among i (suc n) j && drops j) && held)
variable_next drops i n j false held other =
    (λ k. not (other_here i n j other k && drops j) && (not (right_false (drops i) k) && held))
  where
    right_false : (c : Bool) → (c && false) ≡ false
    right_false true = refl
    right_false false = refl
variable_next drops i n j true held same = subst (λ (k : ℕ). (not (is_among (i + 1) n k && drops k) && (not (drops i && true) && held)) ≡ (not (is_among i (suc n) k && drops k) && held)) (one_number i j same) (here (drops i))
  where
    here : (c : Bool) → (not (is_among (i + 1) n i && c) && (not (c && true) && held)) ≡ (not (is_among i (suc n) i && c) && held)
    here true = (λ k. not (later_not i n k && true) && false) ∙ sym (λ k. not (first_here i n k && true) && held)
    here false = (λ k. not (later_not i n k && false) && held) ∙ sym (λ k. not (first_here i n k && false) && held)

pub has_variables : (b : Body) (s : Scope) (held : PlaceSet) (i n j : ℕ) → i + n ≤ 160 → j < 160
    → has (without_variables b s held i n) (places.Var j) ≡ (not (is_among i n j && drops_variable b s j) && has held (places.Var j))
unfolding without_variables
has_variables b s held i zero j fits small = sym (ap (λ c. not (c && drops_variable b s j) && has held (places.Var j)) (none_here i j))
has_variables b s held i (suc n) j fits small =
    has_variables b s (once b s held i) (i + 1) n j (omega (arith, fits)) small
    ∙ ap (λ c. not (is_among (i + 1) n j && drops_variable b s j) && c) (has_once held i (drops_variable b s i) (places.Var j) (omega (arith, fits)) small)
    ∙ variable_next (drops_variable b s) i n j (nat_eq i j) (has held (places.Var j)) refl

-- ---- the parts of `this`

-- what is no part is no field, and not the super class's part
other_is_no_field : (q : Place) (k : ℕ) → is_part q ≡ false → is_place (places.Field k) q ≡ false
other_is_no_field (places.Var i) k other = refl
other_is_no_field (places.Temp d) k other = refl
other_is_no_field places.This k other = refl
other_is_no_field (places.Field j) k other = absurd (true≢false other)
other_is_no_field places.Super k other = refl

other_is_no_super : (q : Place) → is_part q ≡ false → is_place places.Super q ≡ false
other_is_no_super (places.Var i) other = refl
other_is_no_super (places.Temp d) other = refl
other_is_no_super places.This other = refl
other_is_no_super (places.Field j) other = refl
other_is_no_super places.Super other = absurd (true≢false other)

fields_aside : (q : Place) → is_part q ≡ false → IsSmall q → (held : PlaceSet) (k n : ℕ) → k + n ≤ 16 → has (without_fields_from held k n) q ≡ has held q
unfolding without_fields_from
fields_aside q other small held k zero fits = refl
fields_aside q other small held k (suc n) fits =
    fields_aside q other small (without held (places.Field k)) (k + 1) n (omega (arith, fits))
    ∙ has_without held (places.Field k) q (omega (arith, fits)) small ∙ ap (λ b. not b && has held q) (other_is_no_field q k other)

pub parts_apart : (held : PlaceSet) (q : Place) → is_part q ≡ false → IsSmall q → has (without_parts held) q ≡ has held q
parts_apart held q other small =
    has_without (without_fields held) places.Super q tt small ∙ ap (λ b. not b && has (without_fields held) q) (other_is_no_super q other) ∙ fields_aside q other small held 0 16 (omega arith)

-- a variable or a temp is none
local_is_no_part : (q : Place) → is_local q ≡ true → is_part q ≡ false
local_is_no_part (places.Var i) local = refl
local_is_no_part (places.Temp d) local = refl
local_is_no_part places.This local = absurd (true≢false (sym local))
local_is_no_part (places.Field j) local = absurd (true≢false (sym local))
local_is_no_part places.Super local = absurd (true≢false (sym local))

pub parts_aside : (held : PlaceSet) (q : Place) → is_local q ≡ true → IsSmall q → has (without_parts held) q ≡ has held q
parts_aside held q local small = parts_apart held q (local_is_no_part q local) small

-- ---- no more than there were

-- each number of the first set is one of the second
abbrev pub IsWithin : PlaceSet → PlaceSet → Type 0
IsWithin s t = (n : ℕ) → set.contains s n ≡ true → set.contains t n ≡ true

right_part : (a b : Bool) → (a && b) ≡ true → b ≡ true
right_part true b both = both
right_part false b both = absurd (true≢false (sym both))

pub without_within : (held : PlaceSet) (x : Place) → IsWithin (without held x) held
without_within held x = λ n one. right_part (not (n == number_of x)) (set.contains held n) (sym (removed held (number_of x) n) ∙ one)

pub temps_within : (held : PlaceSet) (d n : ℕ) → IsWithin (without_temps held d n) held
unfolding without_temps
temps_within held d zero = λ k one. one
temps_within held d (suc n) = λ k one. without_within held (places.Temp d) k (temps_within (without held (places.Temp d)) (d + 1) n k one)

once_within : (held : PlaceSet) (i : ℕ) (c : Bool) → IsWithin (if c then without held (places.Var i) else held) held
once_within held i true = without_within held (places.Var i)
once_within held i false = λ k one. one

pub variables_within : (b : Body) (s : Scope) (held : PlaceSet) (i n : ℕ) → IsWithin (without_variables b s held i n) held
unfolding without_variables
variables_within b s held i zero = λ k one. one
variables_within b s held i (suc n) = λ k one. once_within held i (drops_variable b s i) k (variables_within b s (once b s held i) (i + 1) n k one)

fields_within : (held : PlaceSet) (k n : ℕ) → IsWithin (without_fields_from held k n) held
unfolding without_fields_from
fields_within held k zero = λ j one. one
fields_within held k (suc n) = λ j one. without_within held (places.Field k) j (fields_within (without held (places.Field k)) (k + 1) n j one)

pub parts_within : (held : PlaceSet) → IsWithin (without_parts held) held
parts_within held = λ j one. fields_within held 0 16 j (without_within (without_fields held) places.Super j one)

-- ---- one place more

pub either : (a b : Bool) → (a || b) ≡ true → (a ≡ true) ⊎ (b ≡ true)
either true b one = inl refl
either false b one = inr one

number_is : (k n : ℕ) → (k == n) ≡ true → k ≡ n
number_is k n same = grind (arith, nat_tests)

pub with_within : (held : PlaceSet) (x : Place) (n : ℕ) → set.contains (with_place held x) n ≡ true → (n ≡ number_of x) ⊎ (set.contains held n ≡ true)
with_within held x n one = elim (either (n == number_of x) (set.contains held n) (sym (inserted held (number_of x) n) ∙ one)) [
  | inl same ↦ inl (number_is n (number_of x) same)
  | inr old ↦ inr old
]

pub alone_with : (held : PlaceSet) (x : Place) → IsSmall x → HasPlacesAlone held → HasPlacesAlone (with_place held x)
alone_with held x small alone = λ n one. elim (with_within held x n one) [
  | inl same ↦ (let below = number_small x small in omega (arith, same, below))
  | inr old ↦ alone n old
]

pub alone_within : (s t : PlaceSet) → IsWithin s t → HasPlacesAlone t → HasPlacesAlone s
alone_within s t within alone = λ n one. alone n (within n one)

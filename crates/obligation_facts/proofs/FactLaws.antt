-- The steps of the loops over places, and the test for no place.
use Rattle.std.proofs.Common.{◌≡◌, ◌↔◌, ℕ, suc, ◌+◌, ◌-◌, ◌<◌, ◌≤◌, Bool, true, false, ◌||◌, ◌&&◌, not, refl, sym, ap, ◌∙◌, arith, true≢false, ne_eqb, inl, inr}
use Rattle.std.specs.Prelude.{◌==◌, IsTrue, if◌then◌else◌}
use Rattle.std.proofs.lemmas.Bool.{and_right, cases_eq}
use Rattle.std.specs.FinSet as set
use Rattle.std.specs.Ordering.{nat_cmp}
use Rattle.std.specs.Cmp.{nat_cmp_total, unsigned_tied}
use Rattle.std.proofs.lemmas.Bool.Decides.{same_from_decides}
use Rattle.program_model.specs.declared.tree.Body.{Body}
use Rattle.control_actions.specs.declared.action.Scope.{Scope}
use Rattle.control_actions.specs.PlaceNumbers.{number_of}
use Rattle.control_actions.specs.declared.place.Place.{Place}
use Rattle.control_actions.specs.declared.place.Place.TheVariants as places
use Rattle.control_actions.specs.Scopes.{drops_variable}
use Rattle.obligation_facts.specs.Facts.{PlaceSet, has, without, is_nowhere, without_temps, without_variables, has_field_from, without_fields_from}
use Rattle.rlc_base.specs.NameSet.{same_members, same_within}

no_member : (held : PlaceSet) → set.is_subset set.empty held ≡ true
no_member held = set.contains-is_subset nat_cmp_total set.empty held (λ q one. absurd (true≢false (sym one ∙ set.contains-empty nat_cmp q)))

pub nowhere_where_empty : (held : PlaceSet) (r : Bool) → (IsTrue r ↔ (held ≡ set.empty)) → r ≡ is_nowhere held
nowhere_where_empty held r tells = same_from_decides {P = held ≡ set.empty} r (is_nowhere held) tells (
  λ within. same_within held set.empty within (no_member held),
  λ same. ap (λ s. set.is_subset s set.empty) same ∙ no_member set.empty,
)

-- temps
pub temps_next : (held : PlaceSet) (d e : ℕ) → d < e → without_temps held d (e - d) ≡ without_temps (without held (places.Temp d)) (d + 1) (e - (d + 1))
unfolding without_temps
temps_next held d e below = let one : e - d ≡ suc (e - (d + 1)) = omega arith in ap (λ n. without_temps held d n) one

pub temps_start : (held : PlaceSet) (d n : ℕ) → without_temps held d (d + n - d) ≡ without_temps held d n
temps_start held d n = let same : d + n - d ≡ n = omega arith in ap (λ n. without_temps held d n) same

pub temps_end : (held : PlaceSet) (d e : ℕ) → e ≤ d → without_temps held d (e - d) ≡ held
unfolding without_temps
temps_end held d e past = let none : e - d ≡ 0 = omega arith in ap (λ n. without_temps held d n) none

-- variables
absent_still : (held : PlaceSet) (n k : ℕ) → set.contains held n ≡ false → (not (k == n) && set.contains held k) ≡ set.contains held k
absent_still held n k absent = elim (cases_eq k n) [
  | inl same ↦ and_right (not (k == n)) _ (ap (set.contains held) same ∙ absent) ∙ sym (ap (set.contains held) same ∙ absent)
  | inr other ↦ ap (λ b. not b && set.contains held k) (ne_eqb k n other)
]

absent_goes : (held : PlaceSet) (x : Place) → has held x ≡ false → without held x ≡ held
absent_goes held x absent = same_members _ _ (λ k. set.contains-remove nat_cmp_total held (number_of x) k
    ∙ ap (λ b. not b && set.contains held k) (unsigned_tied k (number_of x)) ∙ absent_still held (number_of x) k absent)

-- where the place is not held, its variable may be dropped or not
pub absent_stays : (held : PlaceSet) (x : Place) (drops : Bool) → has held x ≡ false → held ≡ (if drops then without held x else held)
absent_stays held x true absent = sym (absent_goes held x absent)
absent_stays held x false absent = refl

pub variables_next : (b : Body) (s : Scope) (held : PlaceSet) (i e : ℕ) → i < e
    → without_variables b s held i (e - i) ≡ without_variables b s (if drops_variable b s i then without held (places.Var i) else held) (i + 1) (e - (i + 1))
unfolding without_variables
variables_next b s held i e below = let one : e - i ≡ suc (e - (i + 1)) = omega arith in ap (λ n. without_variables b s held i n) one

pub variables_end : (b : Body) (s : Scope) (held : PlaceSet) (i e : ℕ) → e ≤ i → without_variables b s held i (e - i) ≡ held
unfolding without_variables
variables_end b s held i e past = let none : e - i ≡ 0 = omega arith in ap (λ n. without_variables b s held i n) none

-- fields
pub fields_next : (held : PlaceSet) (k e : ℕ) → k < e → without_fields_from held k (e - k) ≡ without_fields_from (without held (places.Field k)) (k + 1) (e - (k + 1))
unfolding without_fields_from
fields_next held k e below = let one : e - k ≡ suc (e - (k + 1)) = omega arith in ap (λ n. without_fields_from held k n) one

pub fields_end : (held : PlaceSet) (k e : ℕ) → e ≤ k → without_fields_from held k (e - k) ≡ held
unfolding without_fields_from
fields_end held k e past = let none : e - k ≡ 0 = omega arith in ap (λ n. without_fields_from held k n) none

pub has_next : (held : PlaceSet) (k e : ℕ) → k < e → has_field_from held k (e - k) ≡ (has held (places.Field k) || has_field_from held (k + 1) (e - (k + 1)))
unfolding has_field_from
has_next held k e below = let one : e - k ≡ suc (e - (k + 1)) = omega arith in ap (λ n. has_field_from held k n) one

pub has_end : (held : PlaceSet) (k e : ℕ) → e ≤ k → has_field_from held k (e - k) ≡ false
unfolding has_field_from
has_end held k e past = let none : e - k ≡ 0 = omega arith in ap (λ n. has_field_from held k n) none

-- A place of a frame that a step neither sets nor empties is among the places after it where it was among them before.
use Rattle.std.proofs.Common.{◌≡◌, ◌∙◌, refl, sym, subst, arith, ℕ, zero, suc, ◌+◌, ◌-◌, ◌<◌, ◌≤◌, Bool, true, false, not, ◌&&◌, true≢false, eqb-true, Option, Some}
use Rattle.std.specs.Prelude.{◌==◌, if◌then◌else◌}
use Rattle.std.proofs.lemmas.Bool.{eq-eqb, or_right}
use Rattle.rlc_base.specs.NameSet.{inserted}
use Rattle.program_model.specs.declared.kinds.BodyId.{BodyId}
use Rattle.program_model.specs.declared.program.Program.{Program}
use Rattle.program_model.specs.declared.tree.Body.{Body}
use Rattle.program_model.specs.Lookups.{body_at}
use Rattle.java_control.specs.Calls.{completion_temp, is_reset_of_this}
use Rattle.java_control.specs.Owned.{field_number, place_of_field}
use Rattle.java_control.specs.PlaceNumbers.{IsSmall, number_of}
use Rattle.java_control.specs.Scopes.{drops_variable}
use Rattle.java_control.specs.Sources.{is_null_pointer, is_place}
use Rattle.control_actions.specs.declared.action.Action.{Action}
use Rattle.control_actions.specs.declared.action.Action.TheVariants as actions
use Rattle.control_actions.specs.declared.action.Edge.{Edge}
use Rattle.control_actions.specs.declared.action.Edge.TheVariants as edges
use Rattle.control_actions.specs.declared.action.Scope.{Scope}
use Rattle.control_actions.specs.declared.action.Scope.TheVariants as scopes
use Rattle.control_actions.specs.declared.place.Place.{Place}
use Rattle.control_actions.specs.declared.place.Place.TheVariants as places
use Rattle.ownership_rules.specs.Facts.{PlaceSet, has, has_temp, with_place, without, without_fields, without_fields_from, without_parts, without_scope, without_temps, without_variables}
use Rattle.ownership_rules.specs.SmallActions.{IsSmallAction, IsSmallScope}
use Rattle.place_laws.specs.Aliases.{called_places, gives_alias, without_operands, without_reset}
use Rattle.place_laws.specs.PlaceRows.{below, cast, copied, dropped, places_after, stored}
use Rattle.place_laws.proofs.SetLaws.{removed}
use Rattle.fact_laws.proofs.Places.{apart, no_field, no_temp}

-- the step neither sets nor empties the place, which is a variable or `this`
abbrev pub LeavesIt : Body → Action → Place → Type 0
LeavesIt b (actions.Copy x y) q = is_place x q ≡ false
LeavesIt b (actions.Move x y) q = (is_place x q ≡ false) × (is_place y q ≡ false)
LeavesIt b (actions.Plain x value) q = is_place x q ≡ false
LeavesIt b (actions.Drop s) q = (i : ℕ) → i < 160 → number_of q ≡ i → drops_variable b s i ≡ false
LeavesIt b (actions.Enter clause x first d) q = is_place (places.Var x) q ≡ false
LeavesIt b a q = Unit {0}

module _ (q : Place) (low : number_of q < 161) where
  -- the place is among these where it was
  abbrev pub IsStill : PlaceSet → PlaceSet → Type 0
  IsStill held s = has held q ≡ true → has s q ≡ true

  pub joined_still : (held : PlaceSet) (x : Place) → IsStill held (with_place held x)
  joined_still held x = λ is. inserted held (number_of x) (number_of q) ∙ or_right (number_of q == number_of x) (has held q) is

  pub left_still : (held : PlaceSet) (x : Place) → (number_of q ≡ number_of x → ⊥) → IsStill held (without held x)
  left_still held x other = λ is. removed held (number_of x) (number_of q) ∙ go is (number_of q == number_of x) refl
    where
      go : has held q ≡ true → (b : Bool) → (number_of q == number_of x) ≡ b → (not b && has held q) ≡ true
      go is true same = absurd (other (eqb-true (number_of q) (number_of x) same))
      go is false same = is

  temps_still : (held : PlaceSet) (d n : ℕ) → IsStill held (without_temps held d n)
  unfolding without_temps
  temps_still held d zero = λ is. is
  temps_still held d (suc n) = λ is. temps_still (without held (places.Temp d)) (d + 1) n (left_still held (places.Temp d) (no_temp q low d) is)

  fields_still : (held : PlaceSet) (k n : ℕ) → IsStill held (without_fields_from held k n)
  unfolding without_fields_from
  fields_still held k zero = λ is. is
  fields_still held k (suc n) = λ is. fields_still (without held (places.Field k)) (k + 1) n (left_still held (places.Field k) (no_field q low k) is)

  parts_still : (held : PlaceSet) → IsStill held (without_parts held)
  parts_still held = λ is. left_still (without_fields held) places.Super no_super (fields_still held 0 16 is)
    where
      no_super : number_of q ≡ 241 → ⊥
      no_super same = omega (arith, low, same)

  module _ (b : Body) (s : Scope) (free : (i : ℕ) → i < 160 → number_of q ≡ i → drops_variable b s i ≡ false) where
    one_still : (held : PlaceSet) (i : ℕ) → i < 160 → IsStill held (if drops_variable b s i then without held (places.Var i) else held)
    one_still held i inside = go (drops_variable b s i) refl
      where
        go : (c : Bool) → drops_variable b s i ≡ c → IsStill held (if c then without held (places.Var i) else held)
        go true drops = left_still held (places.Var i) (λ same. true≢false (sym drops ∙ free i inside same))
        go false drops = λ is. is

    variables_still : (held : PlaceSet) (i n : ℕ) → i + n ≤ 160 → IsStill held (without_variables b s held i n)
    unfolding without_variables
    variables_still held i zero few = λ is. is
    variables_still held i (suc n) few = λ is.
        variables_still (if drops_variable b s i then without held (places.Var i) else held) (i + 1) n (omega (arith, few)) (one_still held i (omega (arith, few)) is)

  scope_still : (b : Body) (s : Scope) → IsSmallScope s → ((i : ℕ) → i < 160 → number_of q ≡ i → drops_variable b s i ≡ false) → (held : PlaceSet) → IsStill held (without_scope b s held)
  scope_still b (scopes.Declared st) small free held = variables_still b (scopes.Declared st) free held 0 160 (omega arith)
  scope_still b (scopes.Variable x) small free held = left_still held (places.Var x) (λ same. true≢false (sym (eq-eqb x x refl) ∙ free x small same))
  scope_still b (scopes.Temp d) small free held = left_still held (places.Temp d) (no_temp q low d)
  scope_still b (scopes.TempsAbove d) small free held = temps_still held (d + 1) (63 - d)

  -- with one place more where `b` says so
  with_one_still : (held : PlaceSet) (x : Place) (b : Bool) → IsStill held (if b then with_place held x else held)
  with_one_still held x true = joined_still held x
  with_one_still held x false = λ is. is

  copied_still : (held : PlaceSet) (x : Place) (b : Bool) → (number_of q ≡ number_of x → ⊥) → IsStill held (if b then with_place held x else without held x)
  copied_still held x true other = joined_still held x
  copied_still held x false other = left_still held x other

  both_still : (held : PlaceSet) (d : ℕ) → IsStill held (without (without held (places.Temp d)) (places.Temp (d + 1)))
  both_still held d = λ is. left_still (without held (places.Temp d)) (places.Temp (d + 1)) (no_temp q low (d + 1)) (left_still held (places.Temp d) (no_temp q low d) is)

  stored_still : (held : PlaceSet) (d : ℕ) (e : Edge) → IsStill held (stored held d e)
  stored_still held d edges.Go = λ is.
      with_one_still (without (without held (places.Temp d)) (places.Temp (d + 1))) (places.Temp d) (has held (places.Temp (d + 1))) (both_still held d is)
  stored_still held d edges.Null = both_still held d
  stored_still held d edges.NonNull = both_still held d
  stored_still held d edges.True = both_still held d
  stored_still held d edges.False = both_still held d
  stored_still held d (edges.Throws c) = both_still held d

  cast_still : (held : PlaceSet) (d : ℕ) (e : Edge) → IsStill held (cast held d e)
  cast_still held d edges.Go = λ is. is
  cast_still held d edges.Null = λ is. is
  cast_still held d edges.NonNull = λ is. is
  cast_still held d edges.True = λ is. is
  cast_still held d edges.False = λ is. is
  cast_still held d (edges.Throws c) = left_still held (places.Temp d) (no_temp q low d)

  maybe_still : (held : PlaceSet) (d : ℕ) (b : Bool) → IsStill held (if b then without held (places.Temp d) else held)
  maybe_still held d true = left_still held (places.Temp d) (no_temp q low d)
  maybe_still held d false = λ is. is

  reset_still : (held : PlaceSet) (b : Bool) → IsStill held (if b then without_parts held else held)
  reset_still held true = parts_still held
  reset_still held false = λ is. is

  operands_still : (held : PlaceSet) (first n d : ℕ) → IsStill held (without (without_temps held first n) (places.Temp d))
  operands_still held first n d = λ is. left_still (without_temps held first n) (places.Temp d) (no_temp q low d) (temps_still held first n is)

  module _ (p : Program) (b : BodyId) (x : Body) (at : body_at p b ≡ Some x) (e : Edge) (held : PlaceSet) (small : IsSmall q) where
    called_still : (a : Action) (d : ℕ) → IsStill held (without_operands a (without_reset p a held)) → IsStill held (called_places p a d e held)
    called_still a d still = λ is. with_one_still (without_operands a (without_reset p a held)) (places.Temp d) (gives_alias p a e held) (still is)

    pub places_still : (a : Action) → IsSmallAction p a → LeavesIt x a q → IsStill held (places_after p b a e held)
    places_still actions.Skip fits leaves = λ is. is
    places_still (actions.Copy y z) fits leaves = copied_still held y (has held z) (apart y q fits.0 small leaves)
    places_still (actions.Move y z) fits leaves = λ is.
        left_still (copied held y z) z (apart z q fits.1 small leaves.1) (copied_still held y (has held z) (apart y q fits.0 small leaves.0) is)
    places_still (actions.Plain y value) fits leaves = left_still held y (apart y q fits small leaves)
    places_still (actions.Drop s) fits leaves = subst (λ (o : Option Body). IsStill held (dropped o s held)) (sym at) (scope_still x s fits leaves held)
    places_still (actions.Settle first c) fits leaves = λ is.
        with_one_still (below held first) (places.Temp first) (has_temp held (completion_temp c)) (temps_still held first (64 - first) is)
    places_still (actions.Enter clause y first d) fits leaves = λ is.
        temps_still (copied held (places.Var y) (places.Temp d)) first (64 - first) (copied_still held (places.Var y) (has held (places.Temp d)) (apart (places.Var y) q fits.0 small leaves) is)
    places_still (actions.Test d) fits leaves = left_still held (places.Temp d) (no_temp q low d)
    places_still (actions.Op k d n) fits leaves = operands_still held d n d
    places_still (actions.Get f d this) fits leaves = left_still held (places.Temp d) (no_temp q low d)
    places_still (actions.Put f d this) fits leaves = stored_still held d e
    places_still (actions.Cast t d) fits leaves = cast_still held d e
    places_still (actions.PutOwn f d) fits leaves = copied_still held (place_of_field p f) (has held (places.Temp d)) (no_field q low (field_number p f))
    places_still (actions.Call m d n form) fits leaves = called_still (actions.Call m d n form) d (λ is.
        operands_still (without_reset p (actions.Call m d n form) held) d n d (reset_still held (is_reset_of_this p (actions.Call m d n form)) is))
    places_still (actions.New m d n) fits leaves = called_still (actions.New m d n) d (operands_still held (d + 1) n d)
    places_still (actions.Super m d n) fits leaves = called_still (actions.Super m d n) d (operands_still held d n d)
    places_still (actions.Raise d c) fits leaves = maybe_still held d (is_null_pointer p e)
    places_still (actions.End c) fits leaves = λ is. is

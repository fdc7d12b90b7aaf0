-- A place of a frame into which a step puts nothing is among the places after it only where it was among them before.
use Rattle.std.proofs.Common.{◌≡◌, ◌∙◌, sym, arith, ℕ, ◌+◌, ◌-◌, ◌<◌, Bool, true, false, true≢false, Option, Some, None, inl, inr}
use Rattle.std.specs.Prelude.{if◌then◌else◌}
use Rattle.std.proofs.lemmas.Bool.{eq-eqb}
use Rattle.program_model.specs.declared.kinds.BodyId.{BodyId}
use Rattle.program_model.specs.declared.program.Program.{Program}
use Rattle.program_model.specs.declared.tree.Body.{Body}
use Rattle.program_model.specs.Lookups.{body_at}
use Rattle.java_control.specs.Calls.{completion_temp, is_reset_of_this}
use Rattle.java_control.specs.Owned.{field_number, place_of_field}
use Rattle.java_control.specs.PlaceNumbers.{IsSmall, number_of}
use Rattle.java_control.specs.Sources.{is_null_pointer, is_place}
use Rattle.control_actions.specs.declared.action.Action.{Action}
use Rattle.control_actions.specs.declared.action.Action.TheVariants as actions
use Rattle.control_actions.specs.declared.action.Edge.{Edge}
use Rattle.control_actions.specs.declared.action.Edge.TheVariants as edges
use Rattle.control_actions.specs.declared.action.Scope.{Scope}
use Rattle.control_actions.specs.declared.action.Scope.TheVariants as scopes
use Rattle.control_actions.specs.declared.place.Place.{Place}
use Rattle.control_actions.specs.declared.place.Place.TheVariants as places
use Rattle.ownership_rules.specs.Facts.{PlaceSet, has, has_temp, with_place, without, without_parts, without_scope, without_temps}
use Rattle.ownership_rules.specs.SmallActions.{IsSmallAction}
use Rattle.place_laws.specs.Aliases.{called_places, gives_alias, without_operands, without_reset}
use Rattle.place_laws.specs.PlaceRows.{below, cast, copied, dropped, places_after, stored}
use Rattle.place_laws.proofs.Numbers.{same_number}
use Rattle.place_laws.proofs.SetLaws.{parts_within, temps_within, variables_within, with_within, without_within}

-- the step puts nothing into the place, which is a variable or `this`
abbrev pub Avoids : Action → Place → Type 0
Avoids (actions.Copy x y) q = is_place x q ≡ false
Avoids (actions.Move x y) q = is_place x q ≡ false
Avoids (actions.Plain x value) q = is_place x q ≡ false
Avoids (actions.Enter clause x first d) q = is_place (places.Var x) q ≡ false
Avoids a q = Unit {0}

-- other places have other numbers
pub apart : (x q : Place) → IsSmall x → IsSmall q → is_place x q ≡ false → number_of q ≡ number_of x → ⊥
apart x q small also other same = true≢false (sym (eq-eqb (number_of q) (number_of x) same) ∙ same_number x q small also ∙ other)

module _ (q : Place) (low : number_of q < 161) where
  pub no_temp : (d : ℕ) → number_of q ≡ 177 + d → ⊥
  no_temp d same = omega (arith, low, same)

  pub no_field : (k : ℕ) → number_of q ≡ 161 + k → ⊥
  no_field k same = omega (arith, low, same)

  -- whether the place is among these where it was
  abbrev pub IsKept : PlaceSet → PlaceSet → Type 0
  IsKept held s = has s q ≡ true → has held q ≡ true

  pub joined : (held : PlaceSet) (x : Place) → (number_of q ≡ number_of x → ⊥) → IsKept held (with_place held x)
  joined held x other is = elim (with_within held x (number_of q) is) [
    | inl same ↦ absurd (other same)
    | inr old ↦ old
  ]

  pub left : (held : PlaceSet) (x : Place) → IsKept held (without held x)
  left held x = without_within held x (number_of q)

  temps_left : (held : PlaceSet) (d n : ℕ) → IsKept held (without_temps held d n)
  temps_left held d n = temps_within held d n (number_of q)

  -- with one place more where `b` says so
  with_one : (held : PlaceSet) (x : Place) (b : Bool) → (number_of q ≡ number_of x → ⊥) → IsKept held (if b then with_place held x else held)
  with_one held x true other = joined held x other
  with_one held x false other = λ is. is

  copied_kept : (held : PlaceSet) (x : Place) (b : Bool) → (number_of q ≡ number_of x → ⊥) → IsKept held (if b then with_place held x else without held x)
  copied_kept held x true other = joined held x other
  copied_kept held x false other = left held x

  scope_kept : (b : Body) (s : Scope) (held : PlaceSet) → IsKept held (without_scope b s held)
  scope_kept b (scopes.Declared st) held = variables_within b (scopes.Declared st) held 0 160 (number_of q)
  scope_kept b (scopes.Variable x) held = left held (places.Var x)
  scope_kept b (scopes.Temp d) held = left held (places.Temp d)
  scope_kept b (scopes.TempsAbove d) held = temps_left held (d + 1) (63 - d)

  dropped_kept : (o : Option Body) (s : Scope) (held : PlaceSet) → IsKept held (dropped o s held)
  dropped_kept None s held = λ is. is
  dropped_kept (Some b) s held = scope_kept b s held

  both_left : (held : PlaceSet) (d : ℕ) → IsKept held (without (without held (places.Temp d)) (places.Temp (d + 1)))
  both_left held d = λ is. left held (places.Temp d) (left (without held (places.Temp d)) (places.Temp (d + 1)) is)

  stored_kept : (held : PlaceSet) (d : ℕ) (e : Edge) → IsKept held (stored held d e)
  stored_kept held d edges.Go = λ is.
      both_left held d (with_one (without (without held (places.Temp d)) (places.Temp (d + 1))) (places.Temp d) (has held (places.Temp (d + 1))) (no_temp d) is)
  stored_kept held d edges.Null = both_left held d
  stored_kept held d edges.NonNull = both_left held d
  stored_kept held d edges.True = both_left held d
  stored_kept held d edges.False = both_left held d
  stored_kept held d (edges.Throws c) = both_left held d

  cast_kept : (held : PlaceSet) (d : ℕ) (e : Edge) → IsKept held (cast held d e)
  cast_kept held d edges.Go = λ is. is
  cast_kept held d edges.Null = λ is. is
  cast_kept held d edges.NonNull = λ is. is
  cast_kept held d edges.True = λ is. is
  cast_kept held d edges.False = λ is. is
  cast_kept held d (edges.Throws c) = left held (places.Temp d)

  maybe_left : (held : PlaceSet) (x : Place) (b : Bool) → IsKept held (if b then without held x else held)
  maybe_left held x true = left held x
  maybe_left held x false = λ is. is

  reset_left : (held : PlaceSet) (b : Bool) → IsKept held (if b then without_parts held else held)
  reset_left held true = parts_within held (number_of q)
  reset_left held false = λ is. is

  operands_left : (held : PlaceSet) (first n d : ℕ) → IsKept held (without (without_temps held first n) (places.Temp d))
  operands_left held first n d = λ is. temps_left held first n (left (without_temps held first n) (places.Temp d) is)

  module _ (p : Program) (b : BodyId) (e : Edge) (held : PlaceSet) (small : IsSmall q) where
    called_kept : (a : Action) (d : ℕ) → IsKept held (without_operands a (without_reset p a held)) → IsKept held (called_places p a d e held)
    called_kept a d kept = λ is. kept (with_one (without_operands a (without_reset p a held)) (places.Temp d) (gives_alias p a e held) (no_temp d) is)

    pub places_kept : (a : Action) → IsSmallAction p a → Avoids a q → IsKept held (places_after p b a e held)
    places_kept actions.Skip fits avoids = λ is. is
    places_kept (actions.Copy x y) fits avoids = copied_kept held x (has held y) (apart x q fits.0 small avoids)
    places_kept (actions.Move x y) fits avoids = λ is. copied_kept held x (has held y) (apart x q fits.0 small avoids) (left (copied held x y) y is)
    places_kept (actions.Plain x value) fits avoids = left held x
    places_kept (actions.Drop s) fits avoids = dropped_kept (body_at p b) s held
    places_kept (actions.Settle first c) fits avoids = λ is.
        temps_left held first (64 - first) (with_one (below held first) (places.Temp first) (has_temp held (completion_temp c)) (no_temp first) is)
    places_kept (actions.Enter clause x first d) fits avoids = λ is.
        copied_kept held (places.Var x) (has held (places.Temp d)) (apart (places.Var x) q fits.0 small avoids) (temps_left (copied held (places.Var x) (places.Temp d)) first (64 - first) is)
    places_kept (actions.Test d) fits avoids = left held (places.Temp d)
    places_kept (actions.Op k d n) fits avoids = operands_left held d n d
    places_kept (actions.Get f d this) fits avoids = left held (places.Temp d)
    places_kept (actions.Put f d this) fits avoids = stored_kept held d e
    places_kept (actions.Cast t d) fits avoids = cast_kept held d e
    places_kept (actions.PutOwn f d) fits avoids = copied_kept held (place_of_field p f) (has held (places.Temp d)) (no_field (field_number p f))
    places_kept (actions.Call m d n form) fits avoids = called_kept (actions.Call m d n form) d (λ is.
        reset_left held (is_reset_of_this p (actions.Call m d n form)) (operands_left (without_reset p (actions.Call m d n form) held) d n d is))
    places_kept (actions.New m d n) fits avoids = called_kept (actions.New m d n) d (operands_left held (d + 1) n d)
    places_kept (actions.Super m d n) fits avoids = called_kept (actions.Super m d n) d (operands_left held d n d)
    places_kept (actions.Raise d c) fits avoids = maybe_left held (places.Temp d) (is_null_pointer p e)
    places_kept (actions.End c) fits avoids = λ is. is

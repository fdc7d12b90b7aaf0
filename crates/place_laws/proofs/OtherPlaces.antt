-- `this`, its owning fields and its super class's part stay among the places of a fact in a step that sets variables and temps alone.
use Rattle.std.proofs.Common.{◌≡◌, ◌∙◌, ap, refl, sym, arith, ℕ, ◌+◌, ◌-◌, ◌<◌, ◌≤◌, Bool, true, false, not, ◌&&◌, ◌||◌, true≢false, Option, Some, None}
use Rattle.std.specs.Prelude.{if◌then◌else◌}
use Rattle.program_model.specs.declared.kinds.BodyId.{BodyId}
use Rattle.program_model.specs.declared.program.Program.{Program}
use Rattle.program_model.specs.declared.tree.Body.{Body}
use Rattle.program_model.specs.Lookups.{body_at}
use Rattle.control_actions.specs.declared.action.Action.{Action}
use Rattle.control_actions.specs.declared.action.Action.TheVariants as actions
use Rattle.control_actions.specs.declared.action.Edge.{Edge}
use Rattle.control_actions.specs.declared.action.Edge.TheVariants as edges
use Rattle.control_actions.specs.declared.action.PlainValue.{PlainValue}
use Rattle.control_actions.specs.declared.action.Scope.{Scope}
use Rattle.control_actions.specs.declared.action.Scope.TheVariants as scopes
use Rattle.control_actions.specs.declared.place.Place.{Place}
use Rattle.control_actions.specs.declared.place.Place.TheVariants as places
use Rattle.java_control.specs.Calls.{completion_temp, is_reset_of_this}
use Rattle.java_control.specs.PlaceNumbers.{IsSmall, number_of}
use Rattle.java_control.specs.Sources.{is_null_pointer, is_part, is_place, is_temp_among}
use Rattle.step_laws.specs.Facts.{PlaceSet, has, has_temp, with_place, without, without_parts, without_scope, without_temps}
use Rattle.step_laws.specs.SmallActions.{IsSmallAction, IsSmallScope}
use Rattle.step_laws.specs.Aliases.{called_places, gives_alias, without_operands, without_reset}
use Rattle.step_laws.specs.PlaceRows.{below, cast, copied, dropped, places_after, stored}
use Rattle.place_laws.specs.Places.{SetsLocals, is_local}
use Rattle.place_laws.proofs.SetLaws.{has_copied, has_temps, has_with, has_without, parts_apart, parts_within, variable_aside}

-- what is no variable and no temp
module _ (q : Place) (small : IsSmall q) (other : is_local q ≡ false) where
  no_temp : (d : ℕ) → is_place (places.Temp d) q ≡ false
  no_temp d = go q other
    where
      go : (z : Place) → is_local z ≡ false → is_place (places.Temp d) z ≡ false
      go (places.Var i) is = absurd (true≢false is)
      go (places.Temp e) is = absurd (true≢false is)
      go places.This is = refl
      go (places.Field k) is = refl
      go places.Super is = refl

  no_variable : (i : ℕ) → is_place (places.Var i) q ≡ false
  no_variable i = go q other
    where
      go : (z : Place) → is_local z ≡ false → is_place (places.Var i) z ≡ false
      go (places.Var j) is = absurd (true≢false is)
      go (places.Temp e) is = absurd (true≢false is)
      go places.This is = refl
      go (places.Field k) is = refl
      go places.Super is = refl

  no_local : (x : Place) → is_local x ≡ true → is_place x q ≡ false
  no_local (places.Var i) local = no_variable i
  no_local (places.Temp d) local = no_temp d
  no_local places.This local = absurd (true≢false (sym local))
  no_local (places.Field k) local = absurd (true≢false (sym local))
  no_local places.Super local = absurd (true≢false (sym local))

  no_temps : (d n : ℕ) → is_temp_among d n q ≡ false
  no_temps d n = go q other
    where
      go : (z : Place) → is_local z ≡ false → is_temp_among d n z ≡ false
      go (places.Var j) is = absurd (true≢false is)
      go (places.Temp e) is = absurd (true≢false is)
      go places.This is = refl
      go (places.Field k) is = refl
      go places.Super is = refl

  without_temp : (held : PlaceSet) (d : ℕ) → d < 64 → has (without held (places.Temp d)) q ≡ has held q
  without_temp held d fits = has_without held (places.Temp d) q fits small ∙ ap (λ b. not b && has held q) (no_temp d)

  without_all : (held : PlaceSet) (d n : ℕ) → d + n ≤ 64 → has (without_temps held d n) q ≡ has held q
  without_all held d n fits = has_temps held d n q fits small ∙ ap (λ b. not b && has held q) (no_temps d n)

  with_temp : (held : PlaceSet) (d : ℕ) → d < 64 → has (with_place held (places.Temp d)) q ≡ has held q
  with_temp held d fits = has_with held (places.Temp d) q fits small ∙ ap (λ b. b || has held q) (no_temp d)

  copied_aside : (held : PlaceSet) (x y : Place) → IsSmall x → is_place x q ≡ false → has (copied held x y) q ≡ has held q
  copied_aside held x y fits apart = has_copied held x y q fits small ∙ ap (λ b. if b then has held y else has held q) apart

  below_aside : (held : PlaceSet) (first : ℕ) → first < 64 → has (below held first) q ≡ has held q
  below_aside held first fits = without_all held first (64 - first) (omega (arith, fits))

  below_with_aside : (held : PlaceSet) (first : ℕ) (b : Bool) → first < 64 → has (if b then with_place (below held first) (places.Temp first) else below held first) q ≡ has held q
  below_with_aside held first true fits = with_temp (below held first) first fits ∙ below_aside held first fits
  below_with_aside held first false fits = below_aside held first fits

  scope_aside : (x : Body) (s : Scope) (held : PlaceSet) → IsSmallScope s → has (without_scope x s held) q ≡ has held q
  scope_aside x (scopes.Declared st) held fits = variable_aside x (scopes.Declared st) q no_variable small held 0 160 (omega arith)
  scope_aside x (scopes.Variable y) held fits = has_without held (places.Var y) q fits small ∙ ap (λ b. not b && has held q) (no_variable y)
  scope_aside x (scopes.Temp d) held fits = without_temp held d fits
  scope_aside x (scopes.TempsAbove d) held fits = without_all held (d + 1) (63 - d) (omega (arith, fits))

  dropped_aside : (x : Option Body) (s : Scope) (held : PlaceSet) → IsSmallScope s → has (dropped x s held) q ≡ has held q
  dropped_aside None s held fits = refl
  dropped_aside (Some x) s held fits = scope_aside x s held fits

  stored_left : (held : PlaceSet) (d : ℕ) → d + 1 < 64 → has (without (without held (places.Temp d)) (places.Temp (d + 1))) q ≡ has held q
  stored_left held d fits = without_temp (without held (places.Temp d)) (d + 1) fits ∙ without_temp held d (omega (arith, fits))

  stored_with : (held : PlaceSet) (d : ℕ) (b : Bool) → d + 1 < 64
      → has (if b then with_place (without (without held (places.Temp d)) (places.Temp (d + 1))) (places.Temp d) else without (without held (places.Temp d)) (places.Temp (d + 1))) q ≡ has held q
  stored_with held d true fits = with_temp (without (without held (places.Temp d)) (places.Temp (d + 1))) d (omega (arith, fits)) ∙ stored_left held d fits
  stored_with held d false fits = stored_left held d fits

  stored_aside : (held : PlaceSet) (d : ℕ) (e : Edge) → d + 1 < 64 → has (stored held d e) q ≡ has held q
  stored_aside held d edges.Go fits = stored_with held d (has held (places.Temp (d + 1))) fits
  stored_aside held d edges.Null fits = stored_left held d fits
  stored_aside held d edges.NonNull fits = stored_left held d fits
  stored_aside held d edges.True fits = stored_left held d fits
  stored_aside held d edges.False fits = stored_left held d fits
  stored_aside held d (edges.Throws c) fits = stored_left held d fits

  cast_aside : (held : PlaceSet) (d : ℕ) (e : Edge) → d < 64 → has (cast held d e) q ≡ has held q
  cast_aside held d edges.Go fits = refl
  cast_aside held d edges.Null fits = refl
  cast_aside held d edges.NonNull fits = refl
  cast_aside held d edges.True fits = refl
  cast_aside held d edges.False fits = refl
  cast_aside held d (edges.Throws c) fits = without_temp held d fits

  raised_aside : (held : PlaceSet) (d : ℕ) (b : Bool) → d < 64 → has (if b then without held (places.Temp d) else held) q ≡ has held q
  raised_aside held d true fits = without_temp held d fits
  raised_aside held d false fits = refl

  reset_aside : (held : PlaceSet) (b : Bool) → (b ≡ true → is_part q ≡ false) → has (if b then without_parts held else held) q ≡ has held q
  reset_aside held true none = parts_apart held q (none refl) small
  reset_aside held false none = refl

  reset_left : (held : PlaceSet) (b : Bool) → has (if b then without_parts held else held) q ≡ true → has held q ≡ true
  reset_left held true is = parts_within held (number_of q) is
  reset_left held false is = is

  module _ (p : Program) (b : BodyId) (e : Edge) (held : PlaceSet) where
    called_aside : (a : Action) (d : ℕ) → d < 64 → has (called_places p a d e held) q ≡ has (without_operands a (without_reset p a held)) q
    called_aside a d fits = go (gives_alias p a e held)
      where
        go : (c : Bool) → has (if c then with_place (without_operands a (without_reset p a held)) (places.Temp d) else without_operands a (without_reset p a held)) q ≡ has (without_operands a (without_reset p a held)) q
        go true = with_temp (without_operands a (without_reset p a held)) d fits
        go false = refl

    -- a place that is neither a variable nor a temp stays, where the step empties none but these; what creates the obligation of `this` anew empties its parts
    pub stays_aside : (a : Action) → IsSmallAction p a → SetsLocals a → ((x y : Place) → a ≡ actions.Move x y → is_local y ≡ true) → ((x : Place) (v : PlainValue) → a ≡ actions.Plain x v → is_local x ≡ true)
        → (is_reset_of_this p a ≡ true → is_part q ≡ false) → has (places_after p b a e held) q ≡ has held q
    stays_aside actions.Skip fits sets moves makes resets = refl
    stays_aside (actions.Copy x y) fits sets moves makes resets = copied_aside held x y fits.0 (no_local x sets)
    stays_aside (actions.Move x y) fits sets moves makes resets =
        has_without (copied held x y) y q fits.1 small ∙ ap (λ c. not c && has (copied held x y) q) (no_local y (moves x y refl)) ∙ copied_aside held x y fits.0 (no_local x sets)
    stays_aside (actions.Plain x v) fits sets moves makes resets = has_without held x q fits small ∙ ap (λ c. not c && has held q) (no_local x (makes x v refl))
    stays_aside (actions.Drop s) fits sets moves makes resets = dropped_aside (body_at p b) s held fits
    stays_aside (actions.Settle d c) fits sets moves makes resets = below_with_aside held d (has_temp held (completion_temp c)) fits.0
    stays_aside (actions.Enter clause x first d) fits sets moves makes resets = below_aside (copied held (places.Var x) (places.Temp d)) first fits.1 ∙ copied_aside held (places.Var x) (places.Temp d) fits.0 (no_variable x)
    stays_aside (actions.Test d) fits sets moves makes resets = without_temp held d fits
    stays_aside (actions.Op k d n) fits sets moves makes resets = without_temp (without_temps held d n) d fits.0 ∙ without_all held d n fits.1
    stays_aside (actions.Get f d this) fits sets moves makes resets = without_temp held d fits
    stays_aside (actions.Put f d this) fits sets moves makes resets = stored_aside held d e fits
    stays_aside (actions.Cast t d) fits sets moves makes resets = cast_aside held d e fits
    stays_aside (actions.PutOwn f d) fits sets moves makes resets = absurd sets
    stays_aside (actions.Call m d n form) fits sets moves makes resets =
        called_aside (actions.Call m d n form) d fits.0 ∙ without_temp (without_temps (without_reset p (actions.Call m d n form) held) d n) d fits.0
        ∙ without_all (without_reset p (actions.Call m d n form) held) d n fits.1 ∙ reset_aside held (is_reset_of_this p (actions.Call m d n form)) resets
    stays_aside (actions.New m d n) fits sets moves makes resets =
        called_aside (actions.New m d n) d (omega (arith, fits)) ∙ without_temp (without_temps held (d + 1) n) d (omega (arith, fits)) ∙ without_all held (d + 1) n (omega (arith, fits))
    stays_aside (actions.Super m d n) fits sets moves makes resets =
        called_aside (actions.Super m d n) d fits.0 ∙ without_temp (without_temps held d n) d fits.0 ∙ without_all held d n fits.1
    stays_aside (actions.Raise d c) fits sets moves makes resets = raised_aside held d (is_null_pointer p e) fits
    stays_aside (actions.End c) fits sets moves makes resets = refl

    -- so it was there before the step, if it is there after it
    pub left_aside : (a : Action) → IsSmallAction p a → SetsLocals a → ((x y : Place) → a ≡ actions.Move x y → is_local y ≡ true) → ((x : Place) (v : PlainValue) → a ≡ actions.Plain x v → is_local x ≡ true)
        → has (places_after p b a e held) q ≡ true → has held q ≡ true
    left_aside actions.Skip fits sets moves makes is = is
    left_aside (actions.Call m d n form) fits sets moves makes is =
        reset_left held (is_reset_of_this p (actions.Call m d n form)) (
        sym (called_aside (actions.Call m d n form) d fits.0 ∙ without_temp (without_temps (without_reset p (actions.Call m d n form) held) d n) d fits.0
        ∙ without_all (without_reset p (actions.Call m d n form) held) d n fits.1) ∙ is)
    left_aside a fits sets moves makes is = sym (stays_aside a fits sets moves makes (λ reset. absurd (true≢false (sym reset)))) ∙ is

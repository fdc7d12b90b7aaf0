-- An action that works in temps of some depth or more leaves the temps below.
use Rattle.std.proofs.Common.{◌≡◌, ℕ, ◌+◌, ◌<◌, ◌≤◌, Bool, true, false, ◌&&◌, ◌||◌, Some, None, max, min, nat_eq, nat_le, nat_lt, refl, ap, ◌∙◌, arith, if◌then◌else◌}
use Rattle.std.proofs.lemmas.Bool.Decides.{nat_tests}
use Rattle.program_model.specs.declared.kinds.FieldId.{FieldId}
use Rattle.program_model.specs.declared.program.Program.{Program}
use Rattle.program_model.specs.declared.tree.Body.{Body}
use Rattle.control_actions.specs.declared.action.Action.{Action}
use Rattle.control_actions.specs.declared.action.Action.TheVariants as actions
use Rattle.control_actions.specs.declared.action.Edge.{Edge}
use Rattle.control_actions.specs.declared.action.Edge.TheVariants as edges
use Rattle.control_actions.specs.declared.action.Scope.{Scope}
use Rattle.control_actions.specs.declared.action.Scope.TheVariants as scopes
use Rattle.control_actions.specs.declared.place.Place.{Place}
use Rattle.control_actions.specs.declared.place.Place.TheVariants as places
use Rattle.java_control.specs.Calls.{completion_temp, is_reset_of_this}
use Rattle.java_control.specs.Scopes.{drops_temp}
use Rattle.java_control.specs.Sources.{emptied, is_null_pointer, is_part, is_place, is_temp, is_temp_among, is_temp_from, is_throws, next_depth, source, source_or_itself, temp_of}
use Rattle.value_laws.specs.Thrown.{ActsFrom, PlaceFrom, ScopeFrom}

eq_apart : (d x : ℕ) → x < d → nat_eq d x ≡ false
eq_apart d x low = grind (arith, nat_tests)

le_apart : (d x : ℕ) → x < d → nat_le d x ≡ false
le_apart d x low = grind (arith, nat_tests)

lt_apart : (d x : ℕ) → x < d + 1 → nat_lt d x ≡ false
lt_apart d x low = grind (arith, nat_tests)

pub eq_self : (d : ℕ) → nat_eq d d ≡ true
eq_self d = grind (arith, nat_tests)

pub lt_self : (d : ℕ) → nat_lt d d ≡ false
lt_self d = grind (arith, nat_tests)

next_apart : (d x : ℕ) → x < d → x < 64 → nat_eq (next_depth d) x ≡ false
next_apart d x low small = eq_apart (next_depth d) x (let far : x < min (d + 1) 4294967295 = omega (arith, low, small) in far)

and_none : (b : Bool) → (b && false) ≡ false
and_none true = refl
and_none false = refl

place_apart : (n x : ℕ) (to : Place) → PlaceFrom n to → x < n → is_place to (places.Temp x) ≡ false
place_apart n x (places.Var i) deep low = refl
place_apart n x places.This deep low = refl
place_apart n x (places.Field k) deep low = refl
place_apart n x (places.Temp d) deep low = eq_apart d x (omega (arith, deep, low))
place_apart n x places.Super deep low = refl

scope_apart : (n x : ℕ) (s : Scope) → ScopeFrom n s → x < n → drops_temp s x ≡ false
scope_apart n x (scopes.Declared s) deep low = refl
scope_apart n x (scopes.Variable y) deep low = refl
scope_apart n x (scopes.Temp d) deep low = eq_apart d x (omega (arith, deep, low))
scope_apart n x (scopes.TempsAbove d) deep low = lt_apart d x (omega (arith, deep, low))

module _ (p : Program) (b : Body) (n x : ℕ) (low : x < n) (small : x < 64) where
  abbrev t : Place
  t = places.Temp x

  among_kept : (d m : ℕ) → n ≤ d → emptied (is_temp_among d m t) t ≡ Some t
  among_kept d m deep = ap (λ (c : Bool). emptied (c && nat_lt x (d + m)) t) (le_apart d x (omega (arith, deep, low)))

  temp_kept : (d : ℕ) → n ≤ d → emptied (is_temp d t) t ≡ Some t
  temp_kept d deep = ap (λ (c : Bool). emptied c t) (eq_apart d x (omega (arith, deep, low)))

  put_kept : (d : ℕ) → n ≤ d → (if is_temp d t then Some (places.Temp (next_depth d)) else emptied (is_temp (next_depth d) t) t) ≡ Some t
  put_kept d deep =
      ap (λ (c : Bool). if c then Some (places.Temp (next_depth d)) else emptied (is_temp (next_depth d) t) t) (eq_apart d x (omega (arith, deep, low)))
      ∙ ap (λ (c : Bool). emptied c t) (next_apart d x (omega (arith, deep, low)) small)

  store_kept : (d : ℕ) (f : FieldId) (this : Bool) (e : Edge) → n ≤ d → source p b (actions.Put f d this) e t ≡ Some t
  store_kept d f this edges.Go deep = put_kept d deep
  store_kept d f this (edges.Throws c) deep = among_kept d 2 deep
  store_kept d f this e deep = put_kept d deep

  call_kept : (resets : Bool) (d m : ℕ) → n ≤ d → emptied (is_temp_among d (max m 1) t || resets && is_part t) t ≡ Some t
  call_kept resets d m deep =
      ap (λ (c : Bool). emptied ((c && nat_lt x (d + max m 1)) || resets && false) t) (le_apart d x (omega (arith, deep, low)))
      ∙ ap (λ (c : Bool). emptied c t) (and_none resets)

  pub temp_stays : (a : Action) (e : Edge) → ActsFrom n a → source p b a e t ≡ Some t
  temp_stays actions.Skip e deep = refl
  temp_stays (actions.Copy to from) e deep = ap (λ (c : Bool). source_or_itself c from t) (place_apart n x to deep low)
  temp_stays (actions.Move to from) e deep =
      ap (λ (c : Bool). if c then None else source_or_itself (is_place to t) from t) (place_apart n x from deep.1 low)
      ∙ ap (λ (c : Bool). source_or_itself c from t) (place_apart n x to deep.0 low)
  temp_stays (actions.Plain to v) e deep = ap (λ (c : Bool). emptied c t) (place_apart n x to deep low)
  temp_stays (actions.Drop s) e deep = ap (λ (c : Bool). emptied c t) (scope_apart n x s deep low)
  temp_stays (actions.Settle d c) e deep =
      ap (λ (y : Bool). if y then temp_of (completion_temp c) else emptied (is_temp_from d t) t) (eq_apart d x (omega (arith, deep, low)))
      ∙ ap (λ (y : Bool). emptied y t) (le_apart d x (omega (arith, deep, low)))
  temp_stays (actions.Enter clause y first d) e deep = ap (λ (c : Bool). emptied c t) (le_apart first x (omega (arith, deep, low)))
  temp_stays (actions.Test d) e deep = temp_kept d deep
  temp_stays (actions.Op k d m) e deep = among_kept d (max m 1) deep
  temp_stays (actions.Get f d this) e deep = temp_kept d deep
  temp_stays (actions.Put f d this) e deep = store_kept d f this e deep
  temp_stays (actions.Cast u d) e deep = ap (λ (c : Bool). emptied (is_throws e && c) t) (eq_apart d x (omega (arith, deep, low))) ∙ ap (λ (c : Bool). emptied c t) (and_none (is_throws e))
  temp_stays (actions.PutOwn f d) e deep = refl
  temp_stays (actions.Call m d k form) e deep = call_kept (is_reset_of_this p (actions.Call m d k form)) d k deep
  temp_stays (actions.New m d k) e deep = among_kept d (k + 1) deep
  temp_stays (actions.Super m d k) e deep = among_kept d (max k 1) deep
  temp_stays (actions.Raise d c) e deep =
      ap (λ (y : Bool). emptied (is_null_pointer p e && y) t) (eq_apart d x (omega (arith, deep, low))) ∙ ap (λ (y : Bool). emptied y t) (and_none (is_null_pointer p e))
  temp_stays (actions.End c) e deep = absurd deep

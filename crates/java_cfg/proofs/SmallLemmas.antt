-- The tests on actions tell whether a set of places has room for the places that they name.
use Rattle.std.proofs.Common.{refl, ℕ, ◌+◌, ◌<◌, ◌≤◌, true, Some, None, Option}
use Rattle.std.specs.Prelude.{nat_lt, nat_le, not, ◌&&◌}
use Rattle.std.specs.Bool.{Decides}
use Rattle.std.proofs.lemmas.Bool.{le-leb, leb-true}
use Rattle.std.proofs.lemmas.Bool.Decides.{Decides-and, Decides-ltb, Decides-not}
use Rattle.program_model.specs.declared.program.Program.{Program}
use Rattle.control_actions.specs.declared.action.Action.{Action}
use Rattle.control_actions.specs.declared.action.Action.TheVariants as actions
use Rattle.control_actions.specs.declared.action.Scope.{Scope}
use Rattle.control_actions.specs.declared.action.Scope.TheVariants as scopes
use Rattle.control_actions.specs.declared.place.Place.{Place}
use Rattle.control_actions.specs.declared.place.Place.TheVariants as places
use Rattle.java_control.specs.Calls.{completion_temp}
use Rattle.java_control.specs.Owned.{place_of_field}
use Rattle.java_control.specs.PlaceNumbers.{IsSmall}
use Rattle.obligation_facts.specs.SmallActions.{IsSmallAction, IsSmallScope, IsSmallTemp}
use Rattle.java_cfg.specs.SmallTests.{are_small_operands, is_small_action, is_small_place, is_small_scope, is_small_temp}

always : Decides true (Unit {0})
always = (λ _. tt, λ _. refl)

Decides-leb : (a b : ℕ) → Decides (nat_le a b) (a ≤ b)
Decides-leb a b = (leb-true a b, le-leb a b)

Decides-place : (x : Place) → Decides (is_small_place x) (IsSmall x)
Decides-place (places.Var i) = Decides-ltb i 160
Decides-place places.This = always
Decides-place (places.Field k) = Decides-ltb k 16
Decides-place (places.Temp d) = Decides-ltb d 64
Decides-place places.Super = always

Decides-temp : (x : Option ℕ) → Decides (is_small_temp x) (IsSmallTemp x)
Decides-temp None = always
Decides-temp (Some d) = Decides-ltb d 64

Decides-scope : (s : Scope) → Decides (is_small_scope s) (IsSmallScope s)
Decides-scope (scopes.Declared s) = always
Decides-scope (scopes.Variable x) = Decides-ltb x 160
Decides-scope (scopes.Temp d) = Decides-ltb d 64
Decides-scope (scopes.TempsAbove d) = Decides-ltb d 64

Decides-operands : (d n : ℕ) → Decides (are_small_operands d n) ((d < 64) × (d + n ≤ 64))
Decides-operands d n = Decides-and (nat_lt d 64) (nat_le (d + n) 64) (Decides-ltb d 64) (Decides-leb (d + n) 64)

-- whether the action is small
pub Decides-action : (p : Program) (a : Action) → Decides (is_small_action p a) (IsSmallAction p a)
Decides-action p actions.Skip = always
Decides-action p (actions.Copy x y) = Decides-and (is_small_place x) (is_small_place y) (Decides-place x) (Decides-place y)
Decides-action p (actions.Move x y) = Decides-and (is_small_place x) (is_small_place y) (Decides-place x) (Decides-place y)
Decides-action p (actions.Plain x v) = Decides-place x
Decides-action p (actions.Drop s) = Decides-scope s
Decides-action p (actions.Settle d c) = Decides-and (nat_lt d 64) (is_small_temp (completion_temp c)) (Decides-ltb d 64) (Decides-temp (completion_temp c))
Decides-action p (actions.Enter clause x d from) =
    let depths = Decides-and (nat_lt d 64) (nat_lt from 64) (Decides-ltb d 64) (Decides-ltb from 64) in
    let all = Decides-and (nat_lt x 160) (nat_lt d 64 && nat_lt from 64) (Decides-ltb x 160) depths in
    (λ yes. let h = all.0 yes in (h.0, h.1.0, h.1.1), λ h. all.1 (h.0, (h.1, h.2)))
Decides-action p (actions.Test d) = Decides-ltb d 64
Decides-action p (actions.Op k d n) = Decides-operands d n
Decides-action p (actions.Get f d through_this) = Decides-ltb d 64
Decides-action p (actions.Put f d through_this) = Decides-ltb (d + 1) 64
Decides-action p (actions.Cast t d) = Decides-ltb d 64
Decides-action p (actions.PutOwn f d) = Decides-and (nat_lt d 64) (is_small_place (place_of_field p f)) (Decides-ltb d 64) (Decides-place (place_of_field p f))
Decides-action p (actions.Call m d n form) = Decides-operands d n
Decides-action p (actions.New m d n) = Decides-ltb (d + n) 64
Decides-action p (actions.Super m d n) = Decides-operands d n
Decides-action p (actions.Raise d c) = Decides-ltb d 64
Decides-action p (actions.End c) = Decides-temp (completion_temp c)

-- the action names a place that no set of places holds
pub Decides-large : (p : Program) (a : Action) → Decides (not (is_small_action p a)) (IsSmallAction p a → ⊥)
Decides-large p a = Decides-not (is_small_action p a) (Decides-action p a)

-- Tests on the places that an action names: whether a set of places has room for them.
use Rattle.std.specs.Prelude.{ℕ, ◌+◌, nat_lt, nat_le, Bool, true, ◌&&◌, Option, Some, None}
use Rattle.program_model.specs.declared.program.Program.{Program}
use Rattle.control_actions.specs.declared.action.Action.{Action}
use Rattle.control_actions.specs.declared.action.Action.TheVariants as actions
use Rattle.control_actions.specs.declared.action.Scope.{Scope}
use Rattle.control_actions.specs.declared.action.Scope.TheVariants as scopes
use Rattle.control_actions.specs.declared.place.Place.{Place}
use Rattle.control_actions.specs.declared.place.Place.TheVariants as places
use Rattle.java_control.specs.Calls.{completion_temp}
use Rattle.java_control.specs.Owned.{place_of_field}

abbrev pub is_small_place : Place → Bool
is_small_place (places.Var i) = nat_lt i 160
is_small_place places.This = true
is_small_place (places.Field k) = nat_lt k 16
is_small_place (places.Temp d) = nat_lt d 64
is_small_place places.Super = true

abbrev pub is_small_temp : Option ℕ → Bool
is_small_temp None = true
is_small_temp (Some d) = nat_lt d 64

abbrev pub is_small_scope : Scope → Bool
is_small_scope (scopes.Declared s) = true
is_small_scope (scopes.Variable x) = nat_lt x 160
is_small_scope (scopes.Temp d) = nat_lt d 64
is_small_scope (scopes.TempsAbove d) = nat_lt d 64

-- temps have room for `n` operands from depth `d` on
abbrev pub are_small_operands : ℕ → ℕ → Bool
are_small_operands d n = nat_lt d 64 && nat_le (d + n) 64

-- whether the action is small
abbrev pub is_small_action : Program → Action → Bool
is_small_action p actions.Skip = true
is_small_action p (actions.Copy x y) = is_small_place x && is_small_place y
is_small_action p (actions.Move x y) = is_small_place x && is_small_place y
is_small_action p (actions.Plain x v) = is_small_place x
is_small_action p (actions.Drop s) = is_small_scope s
is_small_action p (actions.Settle d c) = nat_lt d 64 && is_small_temp (completion_temp c)
is_small_action p (actions.Enter clause x d from) = nat_lt x 160 && (nat_lt d 64 && nat_lt from 64)
is_small_action p (actions.Test d) = nat_lt d 64
is_small_action p (actions.Op k d n) = are_small_operands d n
is_small_action p (actions.Get f d through_this) = nat_lt d 64
is_small_action p (actions.Put f d through_this) = nat_lt (d + 1) 64
is_small_action p (actions.Cast t d) = nat_lt d 64
is_small_action p (actions.PutOwn f d) = nat_lt d 64 && is_small_place (place_of_field p f)
is_small_action p (actions.Call m d n form) = are_small_operands d n
is_small_action p (actions.New m d n) = nat_lt (d + n) 64
is_small_action p (actions.Super m d n) = are_small_operands d n
is_small_action p (actions.Raise d c) = nat_lt d 64
is_small_action p (actions.End c) = is_small_temp (completion_temp c)

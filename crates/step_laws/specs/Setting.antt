-- The variables of the body that a step gives another value, and whether it gives `this` one.
use Rattle.std.specs.Prelude.{ℕ, Bool, false, ◌||◌, nat_eq}
use Rattle.program_model.specs.declared.tree.Body.{Body}
use Rattle.java_control.specs.Scopes.{drops_variable}
use Rattle.java_control.specs.Sources.{is_place, is_this_place}
use Rattle.control_actions.specs.declared.action.Action.{Action}
use Rattle.control_actions.specs.declared.action.Action.TheVariants as actions
use Rattle.control_actions.specs.declared.place.Place.TheVariants as places

-- the step gives the variable another value, or empties it
abbrev pub sets_variable : Body → Action → ℕ → Bool
sets_variable b (actions.Copy x y) v = is_place x (places.Var v)
sets_variable b (actions.Move x y) v = is_place y (places.Var v) || is_place x (places.Var v)
sets_variable b (actions.Plain x value) v = is_place x (places.Var v)
sets_variable b (actions.Drop x) v = drops_variable b x v
sets_variable b (actions.Enter clause x d k) v = nat_eq x v
sets_variable b _ v = false

-- the step gives `this` another value, or empties it
abbrev pub sets_this : Action → Bool
sets_this (actions.Copy x y) = is_this_place x
sets_this (actions.Move x y) = is_this_place y || is_this_place x
sets_this (actions.Plain x value) = is_this_place x
sets_this a = false

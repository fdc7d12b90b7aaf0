-- What a step names: the variable that it sets, and the method or constructor that it calls.
use Rattle.std.specs.Prelude.{◌≡◌, ◌<◌, true, false, length}
use Rattle.program_model.specs.declared.program.Program.{Program}
use Rattle.program_model.specs.declared.tree.Body.{Body}
use Rattle.program_model.specs.Lookups.{method_at}
use Rattle.accepted_programs.specs.Bodies.{constructs}
use Rattle.control_actions.specs.declared.action.Action.{Action}
use Rattle.control_actions.specs.declared.action.Action.TheVariants as actions
use Rattle.control_actions.specs.declared.place.Place.{Place}
use Rattle.control_actions.specs.declared.place.Place.TheVariants as places

-- the variable, where the place is one, is a variable of the body
abbrev pub IsInBody : Body → Place → Type 0
IsInBody b (places.Var i) = i < length b.vars.items
IsInBody b x = Unit {0}

-- the variable that the step sets is one of the body
abbrev pub HasTargetIn : Body → Action → Type 0
HasTargetIn b (actions.Copy x y) = IsInBody b x
HasTargetIn b (actions.Move x y) = IsInBody b x
HasTargetIn b (actions.Plain x v) = IsInBody b x
HasTargetIn b (actions.Enter clause x d k) = x < length b.vars.items
HasTargetIn b a = Unit {0}

-- a `new` names a constructor, and a call names none
abbrev pub IsOfItsKind : Program → Action → Type 0
IsOfItsKind p (actions.New m d n) = constructs (method_at p m) ≡ true
IsOfItsKind p (actions.Call m d n form) = constructs (method_at p m) ≡ false
IsOfItsKind p a = Unit {0}

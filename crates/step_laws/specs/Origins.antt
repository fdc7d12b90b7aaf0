-- The value of a temp that is known to hold no object after a step.
use Rattle.std.specs.Prelude.{◌≡◌, ◌⊎◌, ℕ, false, Option, Some, None}
use Rattle.program_model.specs.declared.program.Program.{Program}
use Rattle.program_model.specs.declared.tree.Body.{Body}
use Rattle.program_model.specs.Lookups.{method_at}
use Rattle.control_actions.specs.declared.action.Action.{Action}
use Rattle.control_actions.specs.declared.action.Action.TheVariants as actions
use Rattle.control_actions.specs.declared.action.Edge.{Edge}
use Rattle.control_actions.specs.declared.place.Place.{Place}
use Rattle.control_actions.specs.declared.place.Place.TheVariants as places
use Rattle.java_control.specs.Sources.{is_throws, source}
use Rattle.step_laws.specs.Operands.{GivesNone, IsNone, MakesText, NoObject, field_type, result_of}

-- what the action makes, where it throws nothing, is no object but of class `String`
abbrev pub MakesNone : Program → Action → Type 0
MakesNone p (actions.Plain y v) = IsNone v
MakesNone p (actions.Op k d n) = Unit {0}
MakesNone p (actions.Get f d through_this) = NoObject (field_type p f)
MakesNone p (actions.Call m d n form) = NoObject (result_of (method_at p m))
MakesNone p (actions.New m d n) = MakesText p m
MakesNone p a = ⊥

-- the value comes from this place, or else is made
abbrev pub ComesFromNone : Program → Body → (ℕ → Type 0) → Type 0 → Option Place → Type 0
ComesFromNone p b held made None = made
ComesFromNone p b held made (Some y) = GivesNone p b y held

-- the temp is cast to a type of no class
abbrev pub IsCastToNone : Action → ℕ → Type 0
IsCastToNone (actions.Cast t d) x = (x ≡ d) × NoObject (Some t)
IsCastToNone a x = ⊥

abbrev pub TakesNone : Program → Body → Action → Edge → (ℕ → Type 0) → ℕ → Type 0
TakesNone p b a e held x = ComesFromNone p b held ((is_throws e ≡ false) × MakesNone p a) (source p b a e (places.Temp x)) ⊎ ((is_throws e ≡ false) × IsCastToNone a x)

-- The value of a temp that is known to hold an object of the class or null after a step.
use Rattle.std.specs.Prelude.{◌≡◌, ◌⊎◌, ℕ, false, Option, Some, None}
use Rattle.program_model.specs.declared.kinds.ClassId.{ClassId}
use Rattle.program_model.specs.declared.program.Program.{Program}
use Rattle.program_model.specs.declared.tree.Body.{Body}
use Rattle.program_model.specs.Lookups.{method_at}
use Rattle.control_actions.specs.declared.action.Action.{Action}
use Rattle.control_actions.specs.declared.action.Action.TheVariants as actions
use Rattle.control_actions.specs.declared.action.Edge.{Edge}
use Rattle.control_actions.specs.declared.place.Place.{Place}
use Rattle.control_actions.specs.declared.place.Place.TheVariants as places
use Rattle.java_control.specs.Sources.{is_throws, source}
use Rattle.dispatch_laws.specs.ClassOperands.{field_type, own_type, result_of}
use Rattle.dispatch_laws.specs.ClassOperands.{GivesClass, GivesOwnType, GivesText, IsOfClass, OfClass}

-- what the action makes, where it throws nothing, is an object of the class or null, or a text where its operator gives one
abbrev pub MakesClass : Program → ClassId → Action → Type 0
MakesClass p bound (actions.Plain y v) = GivesOwnType p bound v
MakesClass p bound (actions.Op k d n) = GivesText k
MakesClass p bound (actions.Get f d through_this) = OfClass p bound (field_type p f)
MakesClass p bound (actions.Call m d n form) = OfClass p bound (result_of (method_at p m))
MakesClass p bound (actions.New m d n) = OfClass p bound (own_type (method_at p m))
MakesClass p bound a = ⊥

-- the value comes from this place, or else is made
abbrev pub ComesFromClass : Program → ClassId → Body → (ℕ → Type 0) → Type 0 → Option Place → Type 0
ComesFromClass p bound b held made None = made
ComesFromClass p bound b held made (Some y) = GivesClass p bound b y held

-- the temp is cast to a type under the class
abbrev pub IsCastToClass : Program → ClassId → Action → ℕ → Type 0
IsCastToClass p bound (actions.Cast t d) x = (x ≡ d) × IsOfClass p bound t
IsCastToClass p bound a x = ⊥

abbrev pub TakesClass : Program → ClassId → Body → Action → Edge → (ℕ → Type 0) → ℕ → Type 0
TakesClass p bound b a e held x =
    ComesFromClass p bound b held ((is_throws e ≡ false) × MakesClass p bound a) (source p b a e (places.Temp x)) ⊎ ((is_throws e ≡ false) × IsCastToClass p bound a x)

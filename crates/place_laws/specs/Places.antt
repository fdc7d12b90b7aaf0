-- Words for the laws on places: which are a frame's own, where a place of a fact comes from, and what a step sets.
pub use Rattle.ledger_frames.specs.Places.{class_by, class_of_method, owning_field, owning_field_beside, place_value}
pub use Rattle.ledger_frames.specs.Places.{class_of_method, place_value}
use Rattle.std.specs.Prelude.{◌≡◌, ℕ, ◌<◌, Bool, true, false, ◌&&◌, Option, Some, None, length}
use Rattle.std.specs.FinSet as set
use Rattle.program_model.specs.declared.program.Program.{Program}
use Rattle.control_actions.specs.declared.action.Action.{Action}
use Rattle.control_actions.specs.declared.action.Action.TheVariants as actions
use Rattle.control_actions.specs.declared.action.Edge.{Edge}
use Rattle.control_actions.specs.declared.action.Edge.TheVariants as edges
use Rattle.control_actions.specs.declared.place.Place.{Place}
use Rattle.control_actions.specs.declared.place.Place.TheVariants as places
use Rattle.step_laws.specs.Facts.{PlaceSet, has}
use Rattle.step_laws.specs.Aliases.{gives_alias}
use Rattle.ledger_state.specs.declared.locals.Locals.{Locals}
use Rattle.ledger_frames.specs.Frames.{is_made, made_place}

-- a variable or a temp
abbrev pub is_local : Place → Bool
is_local (places.Var i) = true
is_local (places.Temp d) = true
is_local places.This = false
is_local (places.Field k) = false
is_local places.Super = false

-- the source, where there is one, is among these places
abbrev pub has_source : PlaceSet → Option Place → Bool
has_source held None = false
has_source held (Some z) = has held z

-- a call that ends normally puts an alias of the resource of an operand, which is among these places, into the place
abbrev pub takes_alias : Program → Action → Edge → PlaceSet → Place → Bool
takes_alias p a e held q = gives_alias p a e held && is_made (made_place a) q

-- each number of the set is that of a place
abbrev pub HasPlacesAlone : PlaceSet → Type 0
HasPlacesAlone held = (n : ℕ) → set.contains held n ≡ true → n < 242

-- a store goes on or throws
abbrev pub IsStoreEdge : Edge → Type 0
IsStoreEdge edges.Go = Unit {0}
IsStoreEdge (edges.Throws c) = Unit {0}
IsStoreEdge edges.Null = ⊥
IsStoreEdge edges.NonNull = ⊥
IsStoreEdge edges.True = ⊥
IsStoreEdge edges.False = ⊥

abbrev pub IsWay : Action → Edge → Type 0
IsWay (actions.Put f d this) e = IsStoreEdge e
IsWay a e = Unit {0}

-- the place is none of the frame's variables, or one that it has
abbrev pub HasVariable : Locals → Place → Type 0
HasVariable l (places.Var i) = i < length l.variables
HasVariable l x = Unit {0}

-- the variable that the step sets is one that the frame has
abbrev pub HasTarget : Locals → Action → Type 0
HasTarget l (actions.Copy x y) = HasVariable l x
HasTarget l (actions.Move x y) = HasVariable l x
HasTarget l (actions.Plain x v) = HasVariable l x
HasTarget l (actions.Enter clause x b d) = x < length l.variables
HasTarget l a = Unit {0}

-- the step sets variables and temps alone
abbrev pub SetsLocals : Action → Type 0
SetsLocals (actions.Copy x y) = is_local x ≡ true
SetsLocals (actions.Move x y) = is_local x ≡ true
SetsLocals (actions.PutOwn f d) = ⊥
SetsLocals a = Unit {0}

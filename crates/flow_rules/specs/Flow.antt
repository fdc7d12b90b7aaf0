-- The flow rules: what a step makes of a fact. First it turns (mode, called names, need; a rule may be broken), and then
-- its places change.
use Rattle.std.specs.Prelude.{ℕ, not, if◌then◌else◌}
use Rattle.program_model.specs.declared.kinds.BodyId.{BodyId}
use Rattle.program_model.specs.declared.program.Program.{Program}
use Rattle.control_actions.specs.declared.action.Action.{Action}
use Rattle.control_actions.specs.declared.action.Action.TheVariants as actions
use Rattle.control_actions.specs.declared.action.Edge.{Edge}
use Rattle.control_actions.specs.declared.action.Edge.TheVariants as edges
use Rattle.control_actions.specs.declared.fact.Fact.{Fact}
use Rattle.control_actions.specs.declared.fact.Origin.{Origin}
use Rattle.control_actions.specs.declared.fact.Outcome.{Outcome}
use Rattle.control_actions.specs.declared.fact.Outcome.TheVariants.{Next, Gone, Fault}
use Rattle.control_actions.specs.declared.place.Place.TheVariants as places
use Rattle.java_control.specs.Sources.{is_null_pointer, is_throws}
use Rattle.obligation_facts.specs.Facts.{PlaceSet, has, is_held, leave}
use Rattle.alias_sets.specs.PlaceRows.{places_after}
use Rattle.called_methods.specs.CalledRows.{called_after}
use Rattle.owning_fields.specs.Stores.{stored}
use Rattle.flow_rules.specs.Calls.{called, with_called}
use Rattle.flow_rules.specs.Ends.{ended}
use Rattle.flow_rules.specs.declared.turn.Turn.{Turn}
use Rattle.flow_rules.specs.declared.turn.Turn.TheVariants.{Unchanged, Leaves, Decided}

abbrev pub turned : Outcome → Turn
turned (Next f) = Leaves f
turned Gone = Decided Gone
turned (Fault rule names) = Decided (Fault rule names)

-- A null value holds no object: only what a field owns is still known, and for null all was called.
abbrev pub null_tested : Program → BodyId → ℕ → Fact → Turn
null_tested p b d f =
    if not (has f.places (places.Temp d)) then Unchanged
    else (if is_held f.mode then Leaves (with_called f (called_after p b (actions.Test d) edges.Null f)) else Decided Gone)

abbrev pub tested : Program → BodyId → ℕ → Edge → Fact → Turn
tested p b d edges.Null f = null_tested p b d f
tested p b d e f = Leaves f

-- a cast that throws leaves the exception in t(d)
abbrev pub cast : Edge → Fact → Turn
cast e f = if is_throws e then Leaves f else Unchanged

-- a `throw` of null leaves the exception in t(d)
abbrev pub raised : Program → Edge → Fact → Turn
raised p e f = if is_null_pointer p e then Leaves f else Unchanged

-- the rows of the actions
abbrev pub turn : Program → BodyId → Origin → Action → Edge → Fact → Turn
turn p b o actions.Skip e f = Unchanged
turn p b o (actions.Copy x y) e f = Leaves f
turn p b o (actions.Move x y) e f = Leaves f
turn p b o (actions.Plain x v) e f = Leaves f
turn p b o (actions.Drop s) e f = Leaves f
turn p b o (actions.Settle d c) e f = Leaves f
turn p b o (actions.Enter clause x d from) e f = Leaves f
turn p b o (actions.Test d) e f = tested p b d e f
turn p b o (actions.Op k d n) e f = Leaves f
turn p b o (actions.Get g d through_this) e f = Leaves f
turn p b o (actions.Put g d through_this) e f = Leaves f
turn p b o (actions.Cast t d) e f = cast e f
turn p b o (actions.PutOwn g d) e f = Decided (stored p b o g d f)
turn p b o (actions.Call m d n form) e f = turned (called p b o (actions.Call m d n form) e f)
turn p b o (actions.New m d n) e f = turned (called p b o (actions.New m d n) e f)
turn p b o (actions.Super m d n) e f = turned (called p b o (actions.Super m d n) e f)
turn p b o (actions.Raise d c) e f = raised p e f
turn p b o (actions.End c) e f = Decided (ended p b o c f)

-- the places that hold the object from now on
abbrev pub placed : Origin → Fact → PlaceSet → Turn → Outcome
placed o f held Unchanged = Next f
placed o f held (Leaves g) = leave o g held
placed o f held (Decided outcome) = outcome

abbrev pub flow : Program → BodyId → Origin → Action → Edge → Fact → Outcome
flow p b o a e f = placed o f (places_after p b a e f.places) (turn p b o a e f)

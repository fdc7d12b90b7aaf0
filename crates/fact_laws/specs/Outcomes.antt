-- Words for the laws on owned facts: what an outcome comes to, and which rows of the flow rules a law is about.
use Rattle.std.specs.Prelude.{◌≡◌, false}
use Rattle.control_actions.specs.declared.action.Action.{Action}
use Rattle.control_actions.specs.declared.action.Action.TheVariants as actions
use Rattle.control_actions.specs.declared.action.Edge.{Edge}
use Rattle.control_actions.specs.declared.action.Edge.TheVariants as edges
use Rattle.control_actions.specs.declared.fact.Fact.{Fact}
use Rattle.control_actions.specs.declared.fact.Outcome.{Outcome}
use Rattle.control_actions.specs.declared.fact.Outcome.TheVariants.{Next, Gone, Fault}
use Rattle.control_actions.specs.declared.place.Place.TheVariants as places
use Rattle.ownership_rules.specs.Facts.{has}

-- a rule is broken, or the fact goes on as one of which this holds; it is not gone
abbrev pub After : (Fact → Type 0) → Outcome → Type 0
After P (Next g) = P g
After P Gone = ⊥
After P (Fault rule names) = Unit {0}

-- a rule is broken
abbrev pub IsFault : Outcome → Type 0
IsFault (Next g) = ⊥
IsFault Gone = ⊥
IsFault (Fault rule names) = Unit {0}

-- the action calls nothing, ends no frame, and stores into no owning field
abbrev pub IsPlainRow : Action → Type 0
IsPlainRow (actions.Call m d n form) = ⊥
IsPlainRow (actions.New m d n) = ⊥
IsPlainRow (actions.Super m d n) = ⊥
IsPlainRow (actions.End c) = ⊥
IsPlainRow (actions.PutOwn f d) = ⊥
IsPlainRow a = Unit {0}

-- the action calls a method
abbrev pub IsCallRow : Action → Type 0
IsCallRow (actions.Call m d n form) = Unit {0}
IsCallRow (actions.New m d n) = Unit {0}
IsCallRow (actions.Super m d n) = Unit {0}
IsCallRow a = ⊥

-- where a value is null, it is none that the fact speaks of
abbrev pub IsNotNull : Fact → Action → Edge → Type 0
IsNotNull f (actions.Test d) edges.Null = has f.places (places.Temp d) ≡ false
IsNotNull f a e = Unit {0}

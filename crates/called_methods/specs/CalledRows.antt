-- The methods that were called on an object, after a step (Checker Framework manual, Called Methods Checker).
use Rattle.std.specs.Prelude.{ℕ, zero, suc, Bool, ◌&&◌, Option, Some, None, List, [], length, if◌then◌else◌}
use Rattle.std.specs.FinSet as set
use Rattle.rlc_base.specs.declared.name_id.NameId.{NameId}
use Rattle.program_model.specs.declared.kinds.BodyId.{BodyId}
use Rattle.program_model.specs.declared.kinds.FieldId.{FieldId}
use Rattle.program_model.specs.declared.kinds.Target.{Target}
use Rattle.program_model.specs.declared.kinds.Target.TheVariants as promised
use Rattle.program_model.specs.declared.program.Program.{Program}
use Rattle.program_model.specs.declared.program.Method.{Method}
use Rattle.program_model.specs.declared.program.Promise.{Promise}
use Rattle.control_actions.specs.declared.action.Action.{Action}
use Rattle.control_actions.specs.declared.action.Action.TheVariants as actions
use Rattle.control_actions.specs.declared.action.Edge.{Edge}
use Rattle.control_actions.specs.declared.action.Edge.TheVariants as edges
use Rattle.control_actions.specs.declared.fact.Fact.{Fact}
use Rattle.control_actions.specs.declared.place.Place.TheVariants as places
use Rattle.control_actions.specs.Calls.{is_reset_of_this}
use Rattle.obligation_facts.specs.Callees.{callee, holds_operand, is_this_target, is_super_target, may_be_null_target}
use Rattle.control_actions.specs.Owned.{place_of_field}
use Rattle.obligation_facts.specs.Facts.{PlaceSet, Names, has, has_part, is_held}
use Rattle.must_call_sets.specs.MustCallSets.{no_names}
use Rattle.must_call_sets.specs.Signatures.{when, names_of_all}
use Rattle.must_call_sets.specs.Bodies.{has_field_place, promises_in, throwing_promises_in}

-- the place of an owning field of `this`, in a body of the class that declares it, is among these places
abbrev pub holds_field : Program → BodyId → PlaceSet → FieldId → Bool
holds_field p b held f = has_field_place p b f && has held (place_of_field p f)

-- ---- a call of a method without arguments counts for its name

abbrev pub interest_in : Option Method → Option NameId
interest_in None = None
interest_in (Some m) = m.sig.interest

-- the receiver is among these places; in `super.m()` the super class's part of `this` counts as the receiver
abbrev pub holds_receiver : Action → PlaceSet → Bool
holds_receiver a held = if is_super_target a then has held places.Super else holds_operand a held 0

abbrev pub with_name : Names → Option NameId → Names
with_name called None = called
with_name called (Some n) = set.insert called n.0

abbrev pub called_at_call : Program → Action → PlaceSet → Names → Names
called_at_call p a held called = if holds_receiver a held then with_name called (interest_in (callee p a)) else called

-- ---- what the signature promises

abbrev pub holds_target : Program → BodyId → Action → PlaceSet → Target → Bool
holds_target p b a held (promised.At k) = holds_operand a held k
holds_target p b a held (promised.OfField f) = is_this_target a && holds_field p b held f

abbrev pub promised_at : Program → BodyId → Action → PlaceSet → List Promise → Names
promised_at p b a held promises = names_of_all (λ (x : Promise). when (holds_target p b a held x.target) x.names) promises

-- the promises that hold at the edge; the exception of a null target is thrown before the call starts
abbrev pub promises_at : Program → Action → Edge → List Promise
promises_at p a edges.Go = promises_in (callee p a)
promises_at p a (edges.Throws t) = if may_be_null_target p a (edges.Throws t) then [] else throwing_promises_in (callee p a)
promises_at p a _ = []

-- ---- a reset of `this` empties what is held in its fields

abbrev pub is_emptied : Program → Action → PlaceSet → Bool
is_emptied p a held = is_reset_of_this p a && has_part held

-- all of a call: its own name, its promises, and then the reset of `this`
abbrev pub called_by : Program → BodyId → Action → Edge → Fact → Names
called_by p b a e f =
    if is_emptied p a f.places then no_names
    else set.union (called_at_call p a f.places f.called) (promised_at p b a f.places (promises_at p a e))

-- ---- a null value

abbrev pub names_below : ℕ → Names
names_below zero = no_names
names_below (suc n) = set.insert (names_below n) n

-- all names of the table
abbrev pub all_names : Program → Names
all_names p = names_below (length p.names)

abbrev pub called_on_null : Program → ℕ → Edge → Fact → Names
called_on_null p d edges.Null f = if has f.places (places.Temp d) && is_held f.mode then all_names p else f.called
called_on_null p d e f = f.called

-- the rows of the actions
abbrev pub called_after : Program → BodyId → Action → Edge → Fact → Names
called_after p b (actions.Test d) e f = called_on_null p d e f
called_after p b (actions.Call m d n form) e f = called_by p b (actions.Call m d n form) e f
called_after p b (actions.New m d n) e f = called_by p b (actions.New m d n) e f
called_after p b (actions.Super m d n) e f = called_by p b (actions.Super m d n) e f
called_after p b a e f = f.called

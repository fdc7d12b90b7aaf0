-- What a call makes of the places that hold an object.
use Rattle.std.specs.Prelude.{ℕ, ◌+◌, Bool, false, Option, Some, None, if◌then◌else◌}
use Rattle.program_model.specs.declared.program.Program.{Program}
use Rattle.control_actions.specs.declared.action.Action.{Action}
use Rattle.control_actions.specs.declared.action.Action.TheVariants as actions
use Rattle.control_actions.specs.declared.action.Edge.{Edge}
use Rattle.control_actions.specs.declared.action.Edge.TheVariants as edges
use Rattle.control_actions.specs.declared.place.Place.TheVariants as places
use Rattle.control_actions.specs.Calls.{operand_at, is_reset_of_this}
use Rattle.obligation_facts.specs.Callees.{callee}
use Rattle.obligation_facts.specs.Facts.{PlaceSet, has_temp, with_place, without, without_temps, without_parts}
use Rattle.must_call_sets.specs.Bodies.{alias_in}

abbrev pub operand_of : Action → Option ℕ → Option ℕ
operand_of a None = None
operand_of a (Some k) = operand_at a k

-- the operand whose resource the result of a call is an alias of
abbrev pub alias_operand : Program → Action → Option ℕ
alias_operand p a = operand_of a (alias_in (callee p a))

-- the operands of a call are gone, and what its result place held
abbrev pub without_operands : Action → PlaceSet → PlaceSet
without_operands (actions.Call m d n form) held = without (without_temps held d n) (places.Temp d)
without_operands (actions.New m d n) held = without (without_temps held (d + 1) n) (places.Temp d)
without_operands (actions.Super m d n) held = without (without_temps held d n) (places.Temp d)
without_operands a held = held

-- a call that creates the obligation of `this` anew leaves nothing of what was held in its fields
abbrev pub without_reset : Program → Action → PlaceSet → PlaceSet
without_reset p a held = if is_reset_of_this p a then without_parts held else held

-- a call that ends normally gives an alias of an operand's resource
abbrev pub gives_alias : Program → Action → Edge → PlaceSet → Bool
gives_alias p a edges.Go held = has_temp held (alias_operand p a)
gives_alias p a e held = false

-- the places after a call whose result is in t(d)
abbrev pub called_places : Program → Action → ℕ → Edge → PlaceSet → PlaceSet
called_places p a d e held =
    let left = without_operands a (without_reset p a held) in
    if gives_alias p a e held then with_place left (places.Temp d) else left

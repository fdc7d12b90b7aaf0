-- The places that hold an object after a step, from those that held it before.
use Rattle.std.specs.Prelude.{ℕ, ◌+◌, ◌-◌, Option, Some, None, if◌then◌else◌}
use Rattle.program_model.specs.declared.kinds.BodyId.{BodyId}
use Rattle.program_model.specs.declared.program.Program.{Program}
use Rattle.program_model.specs.declared.tree.Body.{Body}
use Rattle.program_model.specs.Lookups.{body_at}
use Rattle.control_actions.specs.declared.action.Scope.{Scope}
use Rattle.control_actions.specs.declared.action.Action.{Action}
use Rattle.control_actions.specs.declared.action.Action.TheVariants as actions
use Rattle.control_actions.specs.declared.action.Edge.{Edge}
use Rattle.control_actions.specs.declared.action.Edge.TheVariants as edges
use Rattle.control_actions.specs.declared.place.Place.{Place}
use Rattle.control_actions.specs.declared.place.Place.TheVariants as places
use Rattle.control_actions.specs.Calls.{completion_temp}
use Rattle.control_actions.specs.Sources.{is_null_pointer}
use Rattle.control_actions.specs.Owned.{place_of_field}
use Rattle.obligation_facts.specs.Facts.{PlaceSet, has, has_temp, with_place, without, without_temps, without_scope}
use Rattle.alias_sets.specs.Aliases.{called_places}

-- `to` takes what `from` holds
abbrev pub copied : PlaceSet → Place → Place → PlaceSet
copied held to from = if has held from then with_place held to else without held to

-- without the temps from depth `first` on
abbrev pub below : PlaceSet → ℕ → PlaceSet
below held first = without_temps held first (64 - first)

-- t(first) takes the value of a completion's temp, and all other temps from there on are emptied
abbrev pub settled : PlaceSet → ℕ → Option ℕ → PlaceSet
settled held first value = if has_temp held value then with_place (below held first) (places.Temp first) else below held first

-- a variable takes the exception in t(d), and all temps from `first` on are emptied
abbrev pub entered : PlaceSet → ℕ → ℕ → ℕ → PlaceSet
entered held x first d = below (copied held (places.Var x) (places.Temp d)) first

-- a store leaves the stored value of t(d + 1) in t(d), where it goes on
abbrev pub stored : PlaceSet → ℕ → Edge → PlaceSet
stored held d edges.Go =
    let left = without (without held (places.Temp d)) (places.Temp (d + 1)) in
    if has held (places.Temp (d + 1)) then with_place left (places.Temp d) else left
stored held d e = without (without held (places.Temp d)) (places.Temp (d + 1))

-- a cast that throws leaves the exception in t(d)
abbrev pub cast : PlaceSet → ℕ → Edge → PlaceSet
cast held d (edges.Throws c) = without held (places.Temp d)
cast held d e = held

-- a `throw` of null leaves the exception in t(d)
abbrev pub raised : Program → PlaceSet → ℕ → Edge → PlaceSet
raised p held d e = if is_null_pointer p e then without held (places.Temp d) else held

abbrev pub dropped : Option Body → Scope → PlaceSet → PlaceSet
dropped None s held = held
dropped (Some b) s held = without_scope b s held

-- the rows of the actions
abbrev pub places_after : Program → BodyId → Action → Edge → PlaceSet → PlaceSet
places_after p b actions.Skip e held = held
places_after p b (actions.Copy x y) e held = copied held x y
places_after p b (actions.Move x y) e held = without (copied held x y) y
places_after p b (actions.Plain x v) e held = without held x
places_after p b (actions.Drop s) e held = dropped (body_at p b) s held
places_after p b (actions.Settle first c) e held = settled held first (completion_temp c)
places_after p b (actions.Enter clause x first d) e held = entered held x first d
places_after p b (actions.Test d) e held = without held (places.Temp d)
places_after p b (actions.Op k d n) e held = without (without_temps held d n) (places.Temp d)
places_after p b (actions.Get f d through_this) e held = without held (places.Temp d)
places_after p b (actions.Put f d through_this) e held = stored held d e
places_after p b (actions.Cast t d) e held = cast held d e
places_after p b (actions.PutOwn f d) e held = copied held (place_of_field p f) (places.Temp d)
places_after p b (actions.Call m d n form) e held = called_places p (actions.Call m d n form) d e held
places_after p b (actions.New m d n) e held = called_places p (actions.New m d n) d e held
places_after p b (actions.Super m d n) e held = called_places p (actions.Super m d n) d e held
places_after p b (actions.Raise d c) e held = raised p held d e
places_after p b (actions.End c) e held = held

-- The order of places: variables from 0, `this` at 160, owning fields from 161, temps from 177, the super class's part.
use Rattle.std.specs.Prelude.{ℕ, ◌+◌, ◌<◌}
use Rattle.control_actions.specs.declared.place.Place.{Place}
use Rattle.control_actions.specs.declared.place.Place.TheVariants as places

abbrev pub number_of : Place → ℕ
number_of (places.Var i) = i
number_of places.This = 160
number_of (places.Field k) = 161 + k
number_of (places.Temp d) = 177 + d
number_of places.Super = 241

-- a set of places has room for it
abbrev pub IsSmall : Place → Type 0
IsSmall (places.Var i) = i < 160
IsSmall places.This = Unit {0}
IsSmall (places.Field k) = k < 16
IsSmall (places.Temp d) = d < 64
IsSmall places.Super = Unit {0}

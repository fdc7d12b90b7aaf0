-- The steps that sets of places have room for: those of bodies that pass no limit on places.
use Rattle.std.specs.Prelude.{ℕ, ◌+◌, ◌<◌, ◌≤◌, Option, Some, None}
use Rattle.program_model.specs.declared.program.Program.{Program}
use Rattle.control_actions.specs.PlaceNumbers.{IsSmall}
use Rattle.control_actions.specs.Owned.{place_of_field}
use Rattle.control_actions.specs.declared.action.Action.{Action}
use Rattle.control_actions.specs.declared.action.Action.TheVariants as actions
use Rattle.control_actions.specs.declared.action.Scope.{Scope}
use Rattle.control_actions.specs.declared.action.Scope.TheVariants as scopes
use Rattle.control_actions.specs.Calls.{completion_temp}

-- the temp, where there is one, is in range
abbrev pub IsSmallTemp : Option ℕ → Type 0
IsSmallTemp None = Unit {0}
IsSmallTemp (Some d) = d < 64

abbrev pub IsSmallScope : Scope → Type 0
IsSmallScope (scopes.Declared s) = Unit {0}
IsSmallScope (scopes.Variable x) = x < 160
IsSmallScope (scopes.Temp d) = d < 64
IsSmallScope (scopes.TempsAbove d) = d < 64

-- a set of places has room for all places that the action names
abbrev pub IsSmallAction : Program → Action → Type 0
IsSmallAction p actions.Skip = Unit {0}
IsSmallAction p (actions.Copy x y) = IsSmall x × IsSmall y
IsSmallAction p (actions.Move x y) = IsSmall x × IsSmall y
IsSmallAction p (actions.Plain x v) = IsSmall x
IsSmallAction p (actions.Drop s) = IsSmallScope s
IsSmallAction p (actions.Settle d c) = (d < 64) × IsSmallTemp (completion_temp c)
IsSmallAction p (actions.Enter clause x d from) = (x < 160) × (d < 64) × (from < 64)
IsSmallAction p (actions.Test d) = d < 64
IsSmallAction p (actions.Op k d n) = (d < 64) × (d + n ≤ 64)
IsSmallAction p (actions.Get f d through_this) = d < 64
IsSmallAction p (actions.Put f d through_this) = d + 1 < 64
IsSmallAction p (actions.Cast t d) = d < 64
IsSmallAction p (actions.PutOwn f d) = (d < 64) × IsSmall (place_of_field p f)
IsSmallAction p (actions.Call m d n form) = (d < 64) × (d + n ≤ 64)
IsSmallAction p (actions.New m d n) = d + n < 64
IsSmallAction p (actions.Super m d n) = (d < 64) × (d + n ≤ 64)
IsSmallAction p (actions.Raise d c) = d < 64
IsSmallAction p (actions.End c) = IsSmallTemp (completion_temp c)

-- Controls that are named by numbers of a table of lists.
use Rattle.rlc_base.specs.declared.code.Code.TheVariants as refused
use Rattle.std.specs.Prelude.{◌≡◌, ◌<◌, ◌++◌, ℕ, Some, List, map, slice_get}
use Rattle.std.specs.List.{All, Contains}
use Rattle.rlc_base.specs.declared.faults.Stop.{Stop}
use Rattle.rlc_base.specs.declared.faults.Stop.TheVariants as stops
use Rattle.rlc_base.specs.declared.place.Pos.{Pos}
use Rattle.control_actions.specs.declared.cell.Cell.{Cell}
use Rattle.control_actions.specs.declared.triple.Triple.{Triple}
use Rattle.java_control.specs.Remaining.{Todo, todos}
use Rattle.java_control.specs.Tables.{list_at}
use Rattle.java_cfg.specs.declared.arc.Arc.{Arc}
use Rattle.java_cfg.specs.Limits.{refusal}

-- the control that a number names
abbrev pub control_at : List Cell → ℕ → List Todo
control_at cells n = todos (list_at cells n)

-- the controls that numbers name
abbrev pub controls : List Cell → List ℕ → List (List Todo)
controls cells numbers = map (control_at cells) numbers

-- the numbers of what is left after steps
abbrev pub ends_of : List Triple → List ℕ
ends_of triples = map (λ (t : Triple). t.to) triples

-- a list grew from `old` to `more` by values of `xs` alone
pub record Grows {X : Type 0} (old more xs : List X) : Type 0 where
  pub new : List X
  pub is : more ≡ old ++ new
  pub only : All (Contains xs) new

-- the arc is the step over the table, and names what is left by its place among the numbers
pub record IsLinked (numbers : List ℕ) (a : Arc) (t : Triple) : Type 0 where
  pub action : a.action ≡ t.action
  pub edge : a.edge ≡ t.edge
  pub target : slice_get numbers a.to ≡ Some t.to
  pub pos : a.pos ≡ t.pos

-- why numbers are not taken, where so many are held then
abbrev pub IsLinkCause : Pos → ℕ → Stop → Type 0
IsLinkCause pos count (stops.Refused r) = ⊥
IsLinkCause pos count (stops.TooMuch r) = (r ≡ refusal refused.MethodTooLarge pos) × (65536 < count)
IsLinkCause pos count stops.NoMemory = Unit {0}

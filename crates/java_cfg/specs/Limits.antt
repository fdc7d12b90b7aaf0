-- The limits on a body: how many controls it may reach, and how many places its frames may have.
use Rattle.std.specs.Prelude.{◌≡◌, ℕ, ◌<◌, Option, Some, None, List, filter, length}
use Rattle.std.specs.List.{All, Contains}
use Rattle.program_model.specs.declared.kinds.BodyId.{BodyId}
use Rattle.program_model.specs.declared.program.Program.{Program}
use Rattle.program_model.specs.declared.program.Class.{Class}
use Rattle.program_model.specs.declared.program.Method.{Method}
use Rattle.program_model.specs.declared.tree.Body.{Body}
use Rattle.program_model.specs.Lookups.{body_at, class_at, method_at}
use Rattle.rlc_base.specs.declared.code.Code.{Code}
use Rattle.rlc_base.specs.declared.code.Code.TheVariants as refused
use Rattle.rlc_base.specs.declared.faults.Refusal.{Refusal}
use Rattle.rlc_base.specs.declared.faults.Stop.{Stop}
use Rattle.rlc_base.specs.declared.faults.Stop.TheVariants as stops
use Rattle.rlc_base.specs.declared.place.Pos.{Pos}
use Rattle.java_control.specs.Control.{Step, next_of}
use Rattle.java_control.specs.Owned.{fields_in, is_owning}
use Rattle.java_control.specs.Remaining.{Todo, nowhere}
use Rattle.obligation_facts.specs.SmallActions.{IsSmallAction}
use Rattle.java_cfg.specs.Graphs.{IsReachable}
use Rattle.java_cfg.specs.Reach.{AreOnce}

-- more than `n` controls are reachable
pub record ReachesMore (p : Program) (b : BodyId) (n : ℕ) : Type 0 where
  pub controls : List (List Todo)
  pub reached : All (IsReachable p b) controls
  pub once : AreOnce controls
  pub more : n < length controls

abbrev pub variables_in : Option Body → ℕ
variables_in None = 0
variables_in (Some x) = length x.vars.items

-- how many parameters and locals a body has
abbrev pub variable_count : Program → BodyId → ℕ
variable_count p b = variables_in (body_at p b)

abbrev pub method_in : Program → Option Body → Option Method
method_in p None = None
method_in p (Some x) = method_at p x.method

-- the method or constructor whose body it is
abbrev pub method_of : Program → BodyId → Option Method
method_of p b = method_in p (body_at p b)

abbrev pub class_in : Program → Option Method → Option Class
class_in p None = None
class_in p (Some x) = class_at p x.class

-- how many fields of the class of a body's method have the mark `@Owning`
abbrev pub owning_count : Program → BodyId → ℕ
owning_count p b = length (filter (is_owning p) (fields_in (class_in p (method_of p b))))

abbrev pub place_in : Option Method → Pos
place_in None = nowhere
place_in (Some x) = x.pos

-- the place of the method whose body it is
abbrev pub method_place : Program → BodyId → Pos
method_place p b = place_in (method_of p b)

-- the frames of a body have more places than a set of places can hold
pub data HasTooManyPlaces (p : Program) (b : BodyId) : Type 0 where
  variables : 160 < variable_count p b → HasTooManyPlaces p b
  fields : 16 < owning_count p b → HasTooManyPlaces p b
  -- a step of a reachable control names a place past those that a set of places holds: a temp of depth 64 or more, a
  -- variable with a number from 160 on, or an owning field from number 16 on. In a body of a valid program a variable that
  -- is named is one of the body's, and an owning field that is named is one of its class's: there, where the cases above
  -- don't hold, it is a temp
  steps : (control : List Todo) (step : Step) → IsReachable p b control → Contains (next_of p b control) step → (IsSmallAction p step.action → ⊥) → HasTooManyPlaces p b

abbrev pub refusal : Code → Pos → Refusal
refusal code pos = record { code = code; pos = pos }

-- the limit that a body passes. Where it passes both, the number of its controls is told
pub data PassesLimit (p : Program) (b : BodyId) (r : Refusal) : Type 0 where
  too_large : r ≡ refusal refused.MethodTooLarge (method_place p b) → ReachesMore p b 65536 → PassesLimit p b r
  too_many_places : r ≡ refusal refused.TooManyPlaces (method_place p b) → (ReachesMore p b 65536 → ⊥) → HasTooManyPlaces p b → PassesLimit p b r

-- why a body has no graph
abbrev pub IsCause : Program → BodyId → Stop → Type 0
IsCause p b (stops.Refused r) = ⊥
IsCause p b (stops.TooMuch r) = PassesLimit p b r
IsCause p b stops.NoMemory = Unit {0}

-- why a search for the controls of a body stops, where `pos` is the place that it tells
abbrev pub IsSearchCause : Program → BodyId → Pos → Stop → Type 0
IsSearchCause p b pos (stops.Refused r) = ⊥
IsSearchCause p b pos (stops.TooMuch r) = (r ≡ refusal refused.MethodTooLarge pos) × ReachesMore p b 65536
IsSearchCause p b pos stops.NoMemory = Unit {0}

-- The frame after a step: what each of its places holds.
use Rattle.std.specs.Prelude.{ℕ, ◌+◌, max, min, Bool, true, false, Option, Some, None, List, length, map, if◌then◌else◌}
use Rattle.std.specs.List.{range_with_len}
use Rattle.program_model.specs.declared.kinds.MethodId.{MethodId}
use Rattle.program_model.specs.declared.program.Program.{Program}
use Rattle.program_model.specs.declared.tree.Body.{Body}
use Rattle.control_actions.specs.declared.action.Action.{Action}
use Rattle.control_actions.specs.declared.action.Action.TheVariants as actions
use Rattle.control_actions.specs.declared.action.Edge.{Edge}
use Rattle.control_actions.specs.declared.place.Place.{Place}
use Rattle.control_actions.specs.declared.place.Place.TheVariants as places
use Rattle.java_control.specs.Control.{Step}
use Rattle.java_control.specs.Sources.{is_place, source}
use Rattle.ledger_state.specs.declared.value.Value.{Value}
use Rattle.ledger_state.specs.declared.value.Value.TheVariants as values
use Rattle.ledger_state.specs.declared.locals.Locals.{Locals}
use Rattle.ledger_frames.specs.Choosing.{method_body}
use Rattle.ledger_calls.specs.Configuration.{Frame}
use Rattle.ledger_operations.specs.Places.{place_value}
use Rattle.ledger_state.specs.Contents.{HeapContents}

-- where a step puts the value that it makes
abbrev pub made_place : Action → Option Place
made_place (actions.Plain x v) = Some x
made_place (actions.Op k d n) = Some (places.Temp d)
made_place (actions.Get f d this) = Some (places.Temp d)
made_place (actions.Put f d this) = Some (places.Temp d)
made_place (actions.Cast t d) = Some (places.Temp d)
made_place (actions.Call m d n form) = Some (places.Temp d)
made_place (actions.New m d n) = Some (places.Temp d)
made_place (actions.Super m d n) = Some (places.Temp d)
made_place (actions.Raise d s) = Some (places.Temp d)
made_place actions.Skip = None
made_place (actions.Copy x y) = None
made_place (actions.Move x y) = None
made_place (actions.Drop x) = None
made_place (actions.Settle b c) = None
made_place (actions.Enter clause x b d) = None
made_place (actions.Test d) = None
made_place (actions.PutOwn f d) = None
made_place (actions.End c) = None

abbrev pub is_made : Option Place → Place → Bool
is_made None q = false
is_made (Some x) q = is_place x q

abbrev pub source_by : Program → Option Body → Action → Edge → Place → Option Place
source_by p None a e q = Some q
source_by p (Some b) a e q = source p b a e q

-- a place takes the value of its source; without one it holds what the step makes, or nothing
abbrev pub sourced : Program → HeapContents → MethodId → Locals → Action → Value → Place → Option Place → Value
sourced p h m l a v q (Some x) = place_value p h m l x
sourced p h m l a v q None = if is_made (made_place a) q then v else values.Nothing

-- what the place holds after the step that makes `v`
abbrev pub value_after : Program → HeapContents → MethodId → Locals → Action → Edge → Value → Place → Value
value_after p h m l a e v q = sourced p h m l a v q (source_by p (method_body p m) a e q)

abbrev pub depth_in : Place → ℕ
depth_in (places.Temp d) = d + 1
depth_in (places.Var i) = 0
depth_in places.This = 0
depth_in (places.Field k) = 0
depth_in places.Super = 0

abbrev pub depth_by : Option Place → ℕ
depth_by None = 0
depth_by (Some x) = depth_in x

-- the number of temps that a step leaves at least: its deepest target is one of them
abbrev pub depth_of : Action → ℕ
depth_of (actions.Copy x y) = depth_in x
depth_of (actions.Move x y) = depth_in x
depth_of (actions.Settle b c) = b + 1
depth_of a = depth_by (made_place a)

-- the places with these numbers, as far as 32 bits reach
abbrev pub numbers_below : ℕ → List ℕ
numbers_below n = range_with_len 0 (min n 4294967296)

-- the values of the frame after the step that makes `v`
abbrev pub locals_after : Program → HeapContents → MethodId → Locals → Action → Edge → Value → Locals
locals_after p h m l a e v = record {
  variables = map (λ i. value_after p h m l a e v (places.Var i)) (numbers_below (length l.variables));
  this = l.this;
  temps = map (λ d. value_after p h m l a e v (places.Temp d)) (numbers_below (max (length l.temps) (depth_of a)));
}

-- the frame after the step, with what is left to run
abbrev pub frame_after : Program → HeapContents → Frame → Step → Value → Frame
frame_after p h fr s v = record {
  method = fr.method;
  control = s.to;
  locals = locals_after p h fr.method fr.locals s.action s.edge v;
}

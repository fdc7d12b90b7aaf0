-- A step that ends a frame: that of `main` ends the run, and every other one takes the caller's step of the call as well.
use Rattle.std.specs.Prelude.{ℕ, ◌+◌, false, not, ◌&&◌, Option, Some, None, List, ◌++◌, if◌then◌else◌}
use Rattle.std.specs.FinSet as set
use Rattle.program_model.specs.declared.kinds.ClassId.{ClassId}
use Rattle.program_model.specs.declared.kinds.VType.{VType}
use Rattle.program_model.specs.declared.program.Program.{Program}
use Rattle.program_model.specs.declared.program.Method.{Method}
use Rattle.rlc_base.specs.declared.place.Pos.{Pos}
use Rattle.must_call_sets.specs.Bodies.{constructs}
use Rattle.must_call_sets.specs.MustCallSets.{must_of}
use Rattle.control_actions.specs.declared.action.Action.{Action}
use Rattle.control_actions.specs.declared.action.Action.TheVariants as actions
use Rattle.control_actions.specs.declared.action.Completion.{Completion}
use Rattle.control_actions.specs.declared.action.Completion.TheVariants as completions
use Rattle.ledger_state.specs.declared.entry.Entry.{Entry}
use Rattle.ledger_state.specs.declared.entry.LeakWord.TheVariants as words
use Rattle.ledger_state.specs.declared.entry.Owner.TheVariants as owners
use Rattle.ledger_state.specs.declared.value.Value.{Value}
use Rattle.ledger_state.specs.declared.value.Value.TheVariants as values
use Rattle.ledger_state.specs.declared.locals.Locals.{Locals}
use Rattle.ledger_state.specs.declared.object.Object.{Object}
use Rattle.ledger_obligations.specs.Obligations.{alias_born, end_frame, end_holder, finished, move, noted, reached, reset_roots}
use Rattle.ledger_entries.specs.Entries.{birth_entries, called_entries, leak_entries, owner_entries, reset_entries}
use Rattle.ledger_calls.specs.Calls.{alias_target, is_alias, operand_of, receiver_note, reset_target}
use Rattle.ledger_calls.specs.Conducts.{owning_in, result_in}
use Rattle.ledger_steps.specs.Effects.{Effect, left}
use Rattle.ledger_state.specs.Classes.{runtime_class}
use Rattle.ledger_state.specs.Contents.{HeapContents}
use Rattle.ledger_state.specs.Heaps.{change_one}
use Rattle.ledger_state.specs.Locals.{temp_value}
use Rattle.ledger_state.specs.Values.{default_of, number_of}

-- What the frame gives

-- the exception by which the frame ends
abbrev pub thrown_in : Locals → Completion → Option Value
thrown_in l (completions.Throw d t pos) = Some (temp_value l d)
thrown_in l (completions.ReturnValue d pos) = None
thrown_in l (completions.Return pos) = None
thrown_in l (completions.Break pos) = None
thrown_in l (completions.Continue pos) = None

abbrev pub exception_class : Program → HeapContents → Option Value → Option ClassId
exception_class p h None = None
exception_class p h (Some v) = runtime_class p h v

abbrev pub default_result : Option VType → Value
default_result None = values.Nothing
default_result (Some t) = default_of t

-- the value that the method gives; falling off its end gives 0, false or null
abbrev pub result_value : Locals → Option Method → Completion → Value
result_value l m (completions.ReturnValue d pos) = temp_value l d
result_value l m (completions.Return pos) = default_result (result_in m)
result_value l m (completions.Throw d t pos) = temp_value l d
result_value l m (completions.Break pos) = values.Nothing
result_value l m (completions.Continue pos) = values.Nothing

abbrev pub answered_normally : Value → Action → Value → Value
answered_normally self (actions.New m d n) v = self
answered_normally self (actions.Super m d n) v = values.Nothing
answered_normally self a v = v

-- what the caller's temp takes: the result of a call, the object of a `new`, or the exception
abbrev pub answered : Value → Action → Value → Option ClassId → Value
answered self a v None = answered_normally self a v
answered self a v (Some e) = v

-- The heap as the frame ends. Its method is `runs`, its caller is at position `i`, and the exception by which it ends has the class `e`

abbrev pub moved_as : Program → ℕ → Option VType → Value → HeapContents → HeapContents
moved_as p i None v h = h
moved_as p i (Some t) v h = move p t (owners.Frame i) v h

abbrev pub moved_normally : Program → ℕ → Option Method → Value → HeapContents → HeapContents
moved_normally p i runs v h = if owning_in runs && not (is_alias runs) then moved_as p i (result_in runs) v h else h

-- an owning result that is no alias moves to the caller's frame
abbrev pub result_moved : Program → ℕ → Option Method → Value → Option ClassId → HeapContents → HeapContents
result_moved p i runs v None h = moved_normally p i runs v h
result_moved p i runs v (Some e) h = h

-- a constructor that ends by an exception gives up what the owning fields of its `this` own
abbrev pub constructor_ended : Value → Option Method → Option ClassId → HeapContents → HeapContents
constructor_ended self runs None h = h
constructor_ended self runs (Some e) h = if constructs runs then end_holder (number_of self) h else h

-- what the frame owns when its result has moved is given up
abbrev pub frame_ended : Program → ℕ → Option Method → Value → Option ClassId → HeapContents → HeapContents
frame_ended p i runs v e h = end_frame (i + 1) (result_moved p i runs v e h)

-- and what a constructor's `this` owns that ends by an exception
abbrev pub frame_gone : Program → ℕ → Value → Option Method → Value → Option ClassId → HeapContents → HeapContents
frame_gone p i self runs v e h = constructor_ended self runs e (frame_ended p i runs v e h)

-- The heap as the call ends, which the caller's action `a` names `named`; `h` is the heap when the frame has gone

-- the call is noted on its receiver
abbrev pub returned_called : Program → Locals → Action → Option Method → HeapContents → HeapContents
returned_called p l a named h = noted p (receiver_note l a named) h

-- the roots that the call's reset reaches
abbrev pub returned_roots : Program → Locals → Action → Option Method → HeapContents → List ℕ
returned_roots p l a named h = reached (returned_called p l a named h) (reset_target (operand_of l a) named)

-- then these are reset
abbrev pub returned_reset : Program → Locals → Action → Option Method → HeapContents → HeapContents
returned_reset p l a named h = reset_roots p (returned_roots p l a named h) (returned_called p l a named h)

abbrev pub object_finished : Program → ℕ → Option Method → Option ℕ → Object → Object
object_finished p i m alias x =
    if is_alias m then alias_born p false alias (record x { called = set.empty })
    else finished (must_of p x.class) (owners.Frame i) (record x { called = set.empty })

abbrev pub self_finished : Program → ℕ → Option Method → Option ℕ → Option ℕ → HeapContents → HeapContents
self_finished p i m None alias h = h
self_finished p i m (Some k) alias h = change_one k (object_finished p i m alias) h

abbrev pub finished_by_new : Program → ℕ → Action → Option Method → Option ℕ → Option ℕ → HeapContents → HeapContents
finished_by_new p i (actions.New m d n) named self alias h = self_finished p i named self alias h
finished_by_new p i a named self alias h = h

-- the object is finished where its `new` ends normally
abbrev pub program_birth : Program → ℕ → Action → Option Method → Option ℕ → Option ℕ → Option ClassId → HeapContents → HeapContents
program_birth p i a named self alias None h = finished_by_new p i a named self alias h
program_birth p i a named self alias (Some e) h = h

-- the heap when the call has ended
abbrev pub call_ended : Program → ℕ → Value → Locals → Action → Option Method → Option ClassId → HeapContents → HeapContents
call_ended p i self l a named e h =
    program_birth p i a named (number_of self) (alias_target (operand_of l a) named) e (returned_reset p l a named h)

-- all of it: the frame ends, and then its call
abbrev pub returned_heap : Program → ℕ → Value → Locals → Action → Option Method → Option Method → Value → Option ClassId → HeapContents → HeapContents
returned_heap p i self l a runs named v e h = call_ended p i self l a named e (frame_gone p i self runs v e h)

-- the lines of the call's end, where `h` is the heap when the frame has gone
abbrev pub call_end_entries : Program → Pos → ℕ → Value → Locals → Action → Option Method → Option ClassId → HeapContents → List Entry
call_end_entries p pos i self l a named e h =
    called_entries p pos h (returned_called p l a named h)
    ++ reset_entries p pos (returned_roots p l a named h) (returned_called p l a named h)
    ++ birth_entries p pos (returned_reset p l a named h) (call_ended p i self l a named e h)

-- the leaks of the frame's end, at its own place
abbrev pub frame_end_leaks : Program → Pos → ℕ → Value → Option Method → Value → Option ClassId → HeapContents → List Entry
frame_end_leaks p pos i self runs v e h =
    leak_entries p words.Exit pos (result_moved p i runs v e h) (frame_ended p i runs v e h)
    ++ leak_entries p words.ConstructorThrow pos (frame_ended p i runs v e h) (frame_gone p i self runs v e h)

-- the frame of `main` ends
abbrev pub main_gone : Program → HeapContents → Pos → Effect
main_gone p h pos = record { heap = end_frame 1 h; lines = leak_entries p words.Exit pos h (end_frame 1 h) }

-- a frame ends at `pos`, and its call at `at`; `held` is what each frame holds after the step, the top one first
abbrev pub returned : Program → HeapContents → ℕ → Value → Locals → Action → Option Method → Option Method → Value → Option ClassId → Pos → Pos → List (List Value) → Effect
returned p h i self l a runs named v e pos at held =
    left p at held
    (call_end_entries p at i self l a named e (frame_gone p i self runs v e h) ++ owner_entries p at h (result_moved p i runs v e h))
    (frame_end_leaks p pos i self runs v e h)
    (returned_heap p i self l a runs named v e h)

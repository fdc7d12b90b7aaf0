-- A step that calls: a method of the program begins a frame, and one of the library begins and ends at once.
use Rattle.std.specs.Prelude.{ℕ, Option, Some, None, List, [], ◌++◌}
use Rattle.program_model.specs.declared.program.Program.{Program}
use Rattle.program_model.specs.declared.program.Method.{Method}
use Rattle.rlc_base.specs.declared.place.Pos.{Pos}
use Rattle.control_actions.specs.declared.action.Action.{Action}
use Rattle.control_actions.specs.declared.action.Action.TheVariants as actions
use Rattle.stub_conduct.specs.declared.choice.Conduct.{Conduct}
use Rattle.ledger_state.specs.declared.entry.Entry.{Entry}
use Rattle.ledger_state.specs.declared.entry.Owner.TheVariants as owners
use Rattle.ledger_state.specs.declared.value.Value.{Value}
use Rattle.ledger_state.specs.declared.value.Value.TheVariants as values
use Rattle.ledger_state.specs.declared.locals.Locals.{Locals}
use Rattle.ledger_obligations.specs.Obligations.{noted, reached, reset_roots}
use Rattle.ledger_entries.specs.Entries.{birth_entries, called_entries, owner_entries, reset_entries}
use Rattle.ledger_calls.specs.Calls.{arguments_moved, operand_of, reset_target}
use Rattle.ledger_calls.specs.Conducts.{library_birth, library_notes, object_made, positions}
use Rattle.ledger_steps.specs.Effects.{Effect, left}
use Rattle.ledger_state.specs.Contents.{HeapContents}
use Rattle.ledger_state.specs.Heaps.{append, next_number}

-- A call of the program's method begins a frame; the caller keeps its control and its places until that ends

abbrev pub object_begun : Option Method → HeapContents → HeapContents
object_begun None h = h
object_begun (Some m) h = append h m.class

-- a `new` of a program's class makes the object, which is not finished
abbrev pub object_of_new : Action → Option Method → HeapContents → HeapContents
object_of_new (actions.New m d n) x h = object_begun x h
object_of_new a x h = h

abbrev pub self_begun : Locals → Action → HeapContents → Value
self_begun l (actions.New m d n) h = values.Object (next_number h)
self_begun l a h = operand_of l a 0

-- the heap when the callee begins, at position `j`: its owning arguments have moved to it
abbrev pub began_heap : Program → Locals → Action → Option Method → ℕ → HeapContents → HeapContents
began_heap p l a named j h = arguments_moved p (owners.Frame j) l a named (object_of_new a named h)

abbrev pub began_entries : Program → Pos → Locals → Action → Option Method → ℕ → HeapContents → List Entry
began_entries p pos l a named j h = owner_entries p pos (object_of_new a named h) (began_heap p l a named j h)

-- the call begins a frame at position `j`; `held` is what each frame holds after the step, the top one first
abbrev pub started : Program → HeapContents → Locals → Action → Option Method → ℕ → Pos → List (List Value) → Effect
started p h l a named j pos held = left p pos held (began_entries p pos l a named j h) [] (began_heap p l a named j h)

-- A call of the library begins and ends in one step. What it does is asked of the conduct `d` of its method `m`, where the call
-- names `named`, and it may make the object that is the next one

-- the owning arguments have moved to the library, and the object that the call makes is there
abbrev pub library_made : Program → Locals → Action → Option Method → Conduct → HeapContents → HeapContents
library_made p l a named d h = object_made d (arguments_moved p owners.Library l a named h)

-- then the call is noted on its receiver, and its promises are kept
abbrev pub library_called : Program → Locals → Action → Option Method → Option Method → Conduct → HeapContents → HeapContents
library_called p l a named m d h =
    noted p (library_notes p (library_made p l a named d h) l a named m (next_number h) d) (library_made p l a named d h)

-- the roots that the call's reset reaches
abbrev pub library_roots : Program → Locals → Action → Option Method → Option Method → Conduct → HeapContents → List ℕ
library_roots p l a named m d h = reached (library_called p l a named m d h) (reset_target (positions l a (next_number h) d) named)

-- then these are reset
abbrev pub library_reset : Program → Locals → Action → Option Method → Option Method → Conduct → HeapContents → HeapContents
library_reset p l a named m d h = reset_roots p (library_roots p l a named m d h) (library_called p l a named m d h)

-- the heap when the call has ended: last the object that it makes gets its set and its owner, where the caller is at position `i`
abbrev pub library_heap : Program → Locals → Action → Option Method → Option Method → Conduct → ℕ → HeapContents → HeapContents
library_heap p l a named m d i h = library_birth p l a m i (next_number h) d (library_reset p l a named m d h)

abbrev pub library_entries : Program → Pos → Locals → Action → Option Method → Option Method → Conduct → ℕ → HeapContents → List Entry
library_entries p pos l a named m d i h =
    owner_entries p pos h (arguments_moved p owners.Library l a named h)
    ++ called_entries p pos (library_made p l a named d h) (library_called p l a named m d h)
    ++ reset_entries p pos (library_roots p l a named m d h) (library_called p l a named m d h)
    ++ birth_entries p pos (library_reset p l a named m d h) (library_heap p l a named m d i h)

-- the whole call, where the caller is at position `i`; `held` is what each frame holds after the step, the top one first
abbrev pub library_done : Program → HeapContents → Locals → Action → Option Method → Option Method → Conduct → ℕ → Pos → List (List Value) → Effect
library_done p h l a named m d i pos held =
    left p pos held (library_entries p pos l a named m d i h) [] (library_heap p l a named m d i h)

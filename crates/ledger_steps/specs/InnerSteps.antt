-- A step within a frame, which begins and ends no call: an operation, a store, or an exception that an operation throws.
use Rattle.std.specs.Prelude.{ℕ, zero, suc, ◌+◌, Bool, ◌&&◌, Option, Some, None, List, [], ◌++◌, slice_get, if◌then◌else◌}
use Rattle.program_model.specs.declared.kinds.ClassId.{ClassId}
use Rattle.program_model.specs.declared.kinds.FieldId.{FieldId}
use Rattle.program_model.specs.declared.kinds.MethodId.{MethodId}
use Rattle.program_model.specs.declared.program.Program.{Program}
use Rattle.program_model.specs.declared.program.Method.{Method}
use Rattle.program_model.specs.Lookups.{method_at}
use Rattle.rlc_base.specs.declared.place.Pos.{Pos}
use Rattle.must_call_sets.specs.Bodies.{constructs}
use Rattle.must_call_sets.specs.MustCallSets.{must_of}
use Rattle.control_actions.specs.declared.action.Action.{Action}
use Rattle.control_actions.specs.declared.action.Action.TheVariants as actions
use Rattle.control_actions.specs.Owned.{is_owning}
use Rattle.ledger_state.specs.declared.entry.Entry.{Entry}
use Rattle.ledger_state.specs.declared.entry.LeakWord.TheVariants as words
use Rattle.ledger_state.specs.declared.entry.Owner.TheVariants as owners
use Rattle.ledger_state.specs.declared.value.Value.{Value}
use Rattle.ledger_state.specs.declared.value.Value.TheVariants as values
use Rattle.ledger_state.specs.declared.locals.Locals.{Locals}
use Rattle.ledger_obligations.specs.Obligations.{displaced, finished, holder_roots, moved_in, stored_owning}
use Rattle.ledger_entries.specs.Entries.{leak_entries, owner_entries, reset_entries}
use Rattle.ledger_calls.specs.Calls.{alias_target, is_alias}
use Rattle.ledger_steps.specs.declared.store.Store.{Store}
use Rattle.ledger_steps.specs.Effects.{Effect, left}
use Rattle.ledger_state.specs.Contents.{HeapContents}
use Rattle.ledger_state.specs.Heaps.{append, change_one, next_number, put_field, root, root_of, same_root}
use Rattle.ledger_state.specs.Locals.{temp_value}
use Rattle.ledger_state.specs.Values.{number_of, value_or_nothing}

-- an exception that an operation throws is an object of the library
abbrev pub with_exception : Program → ClassId → HeapContents → HeapContents
with_exception p e h = change_one (next_number h) (finished (must_of p e) owners.Library) (append h e)

abbrev pub thrown_heap : Program → Option ClassId → HeapContents → HeapContents
thrown_heap p None h = h
thrown_heap p (Some e) h = with_exception p e h

abbrev pub thrown_value : HeapContents → Option ClassId → Value → Value
thrown_value h None v = v
thrown_value h (Some e) v = values.Object (next_number h)

abbrev pub store_into : Option ℕ → FieldId → Value → Option Store
store_into None f v = None
store_into (Some w) f v = Some (record { holder = w; field = f; value = v })

-- the store of a step that throws nothing
abbrev pub store_of : Locals → Action → Option Store
store_of l (actions.PutOwn f d) = store_into (number_of l.this) f (temp_value l d)
store_of l (actions.Put f d this) = store_into (number_of (temp_value l d)) f (temp_value l (d + 1))
store_of l a = None

abbrev pub store_unless : Option ClassId → Option Store → Option Store
store_unless None s = s
store_unless (Some e) s = None

-- the value of the parameter at position `k`; a parameter that is an alias position is not assigned
abbrev pub parameter : Locals → ℕ → Value
parameter l zero = l.this
parameter l (suc k) = value_or_nothing (slice_get l.variables k)

abbrev pub root_of_number : HeapContents → Option ℕ → Option ℕ
root_of_number h None = None
root_of_number h (Some k) = Some (root h k)

-- the value has the root of the aliased argument of the alias constructor that runs
abbrev pub is_bound : HeapContents → Option Method → Locals → Value → Bool
is_bound h m l v = constructs m && is_alias m && same_root (root_of h v) (root_of_number h (alias_target (parameter l) m))

-- the heap after the store, in a frame of the method `m`
abbrev pub stored_by : Program → Option Method → Locals → Store → HeapContents → HeapContents
stored_by p m l s h =
    if is_owning p s.field then stored_owning p h s.holder s.field (is_bound h m l s.value) s.value
    else put_field s.holder s.field s.value h

abbrev pub heap_stored : Program → Option Method → Locals → Option Store → HeapContents → HeapContents
heap_stored p m l None h = h
heap_stored p m l (Some s) h = stored_by p m l s h

-- the lines of a store into an owning field: resets, then the new owner
abbrev pub owning_lines : Program → Pos → Store → Bool → HeapContents → List Entry
owning_lines p pos s bound h =
    reset_entries p pos (holder_roots p h s.holder s.field bound s.value) (moved_in p h s.holder s.field bound s.value)
    ++ owner_entries p pos (displaced p h s.holder s.field s.value) (moved_in p h s.holder s.field bound s.value)

abbrev pub store_lines : Program → Pos → Option Method → Locals → Store → HeapContents → List Entry
store_lines p pos m l s h = if is_owning p s.field then owning_lines p pos s (is_bound h m l s.value) h else []

abbrev pub store_entries : Program → Pos → Option Method → Locals → Option Store → HeapContents → List Entry
store_entries p pos m l None h = []
store_entries p pos m l (Some s) h = store_lines p pos m l s h

-- the leak of an object that a store drops from an owning field
abbrev pub displaced_lines : Program → Pos → Store → HeapContents → List Entry
displaced_lines p pos s h = if is_owning p s.field then leak_entries p words.Overwritten pos h (displaced p h s.holder s.field s.value) else []

abbrev pub displaced_entries : Program → Pos → Option Store → HeapContents → List Entry
displaced_entries p pos None h = []
displaced_entries p pos (Some s) h = displaced_lines p pos s h

-- a step within a frame of the method `m`, which throws an exception of the class `e` or none; `held` is what each frame holds
-- after the step, the top one first
abbrev pub inner : Program → HeapContents → MethodId → Locals → Option ClassId → Action → Pos → List (List Value) → Effect
inner p h m l e a pos held =
    let store = store_unless e (store_of l a) in
    let heap = thrown_heap p e h in
    left p pos held (store_entries p pos (method_at p m) l store heap) (displaced_entries p pos store heap)
    (heap_stored p (method_at p m) l store heap)

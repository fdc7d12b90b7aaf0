-- A call of the library: what its choice comes to in this configuration, and what the call leaves behind.
use Rattle.std.specs.Prelude.{ℕ, zero, ◌+◌, Bool, true, false, Option, Some, None, List, [], ◌∷◌, ◌++◌, length, map, slice_get, slice_set, ℤ, if◌then◌else◌}
use Rattle.std.specs.List.{range_with_len}
use Rattle.std.specs.Ordering.{nat_cmp}
use Rattle.std.specs.FinSet as set
use Rattle.program_model.specs.declared.kinds.ClassId.{ClassId}
use Rattle.program_model.specs.declared.kinds.MethodId.{MethodId}
use Rattle.program_model.specs.declared.kinds.VType.{VType}
use Rattle.program_model.specs.declared.kinds.VType.TheVariants as types
use Rattle.program_model.specs.declared.program.Program.{Program}
use Rattle.program_model.specs.declared.program.Method.{Method}
use Rattle.program_model.specs.declared.program.Promise.{Promise}
use Rattle.program_model.specs.Lookups.{method_at}
use Rattle.ledger_obligations.specs.Bodies.{promises_in, throwing_promises_in}
use Rattle.control_actions.specs.declared.action.Action.{Action}
use Rattle.control_actions.specs.declared.action.Action.TheVariants as actions
use Rattle.stub_conduct.specs.declared.choice.Choice.{Choice}
use Rattle.stub_conduct.specs.declared.choice.Conduct.{Conduct}
use Rattle.stub_conduct.specs.declared.choice.Conduct.TheVariants as conducts
use Rattle.stub_conduct.specs.Conducts.{conduct}
use Rattle.ledger_state.specs.declared.entry.Owner.{Owner}
use Rattle.ledger_state.specs.declared.entry.Owner.TheVariants as owners
use Rattle.ledger_state.specs.declared.value.Value.{Value}
use Rattle.ledger_state.specs.declared.value.Value.TheVariants as values
use Rattle.ledger_state.specs.declared.array.ArrayObject.{ArrayObject}
use Rattle.ledger_state.specs.declared.locals.Locals.{Locals}
use Rattle.ledger_state.specs.declared.object.Object.{Object}
use Rattle.ledger_obligations.specs.declared.note.Note.{Note}
use Rattle.ledger_obligations.specs.Obligations.{alias_born, finished, first_set, is_library_method}
use Rattle.ledger_calls.specs.Calls.{alias_position, alias_target, is_alias, kept_promises, operand_of, position_of, params_in, receiver_note}
use Rattle.ledger_state.specs.Classes.{is_instance, library_array}
use Rattle.ledger_state.specs.Contents.{HeapContents}
use Rattle.ledger_state.specs.Heaps.{append, change_one}

abbrev pub result_in : Option Method → Option VType
result_in None = None
result_in (Some m) = m.sig.result

abbrev pub owning_in : Option Method → Bool
owning_in None = false
owning_in (Some m) = m.sig.owning_result

abbrev pub first_in : Option Method → Option (set.FinSet nat_cmp)
first_in None = None
first_in (Some m) = m.sig.first

-- the method whose signature says what the library may do: the named one where a stub declares it, else the one that runs
abbrev pub library_method : Program → MethodId → MethodId → MethodId
library_method p named runs = if is_library_method p (method_at p named) then named else runs

-- the object is of the type
abbrev pub fits_type : Program → HeapContents → List ArrayObject → Option VType → Value → Bool
fits_type p h arrays None v = false
fits_type p h arrays (Some t) v = is_instance p h arrays t v

abbrev pub value_at : (ℕ → Value) → Option ℕ → Value
value_at at None = values.Nothing
value_at at (Some k) = at k

-- the argument that the result is an alias of
abbrev pub argument_of : Option Method → (ℕ → Value) → Value
argument_of m at = value_at at (alias_position m)

abbrev pub plainly : Program → MethodId → Choice → Conduct
plainly p m c = conduct p m (record c { way = 0 })

-- an existing object or an argument is given only where it is of the result's type; else the call returns plainly
abbrev pub settled_by : Program → HeapContents → List ArrayObject → MethodId → Option Method → Choice → (ℕ → Value) → Conduct → Conduct
settled_by p h arrays m x c at (conducts.Existing k) = if fits_type p h arrays (result_in x) (values.Object k) then conducts.Existing k else plainly p m c
settled_by p h arrays m x c at conducts.Argument = if fits_type p h arrays (result_in x) (argument_of x at) then conducts.Argument else plainly p m c
settled_by p h arrays m x c at (conducts.Throws e) = conducts.Throws e
settled_by p h arrays m x c at (conducts.Fresh e) = conducts.Fresh e
settled_by p h arrays m x c at conducts.Null = conducts.Null
settled_by p h arrays m x c at (conducts.Value z) = conducts.Value z
settled_by p h arrays m x c at conducts.Nothing = conducts.Nothing

-- what the library does at the call of its method `m` by this choice
abbrev pub settled : Program → HeapContents → List ArrayObject → MethodId → Choice → (ℕ → Value) → Conduct
settled p h arrays m c at = settled_by p h arrays m (method_at p m) c at (conduct p m c)

-- Arrays

-- the arrays among these values are shared from now on
abbrev pub share : List ArrayObject → ℕ → Option ArrayObject → List ArrayObject
share arrays n None = arrays
share arrays n (Some a) = slice_set arrays n (record a { shared = true })

abbrev pub share_value : List ArrayObject → Value → List ArrayObject
share_value arrays (values.Array n) = share arrays n (slice_get arrays n)
share_value arrays v = arrays

abbrev pub share_all : List ArrayObject → List Value → List ArrayObject
share_all arrays [] = arrays
share_all arrays (v ∷ vs) = share_all (share_value arrays v) vs

abbrev pub arguments_shared : List ArrayObject → Locals → Action → Option Method → List ArrayObject
arguments_shared arrays l a m = share_all arrays (map (operand_of l a) (range_with_len 1 (length (params_in m))))

abbrev pub array_given : Option VType → ℤ → List ArrayObject
array_given (Some (types.Arr e)) z = library_array e z ∷ []
array_given t z = []

-- a new array, where the library gives one
abbrev pub arrays_given : List ArrayObject → Option VType → Conduct → List ArrayObject
arrays_given arrays t (conducts.Value z) = arrays ++ array_given t z
arrays_given arrays t d = arrays

-- Values

abbrev pub given_value : ℕ → Option VType → ℤ → Value
given_value count (Some (types.Arr e)) z = values.Array count
given_value count (Some types.Str) z = values.Text
given_value count t z = values.Number z

-- the value that the call gives, or the exception that it throws, where `count` arrays are there; `k` is the number of the object
-- that it makes
abbrev pub conduct_value : ℕ → Option Method → (ℕ → Value) → ℕ → Conduct → Value
conduct_value count m at k (conducts.Throws e) = values.Object k
conduct_value count m at k (conducts.Fresh e) = values.Object k
conduct_value count m at k conducts.Null = values.Null
conduct_value count m at k (conducts.Existing j) = values.Object j
conduct_value count m at k conducts.Argument = argument_of m at
conduct_value count m at k (conducts.Value z) = given_value count (result_in m) z
conduct_value count m at k conducts.Nothing = values.Nothing

-- a super constructor runs on `this`: it makes no object
abbrev pub on_this : Action → Conduct → Conduct
on_this (actions.Super m d n) (conducts.Fresh e) = conducts.Nothing
on_this a d = d

-- The heap, as the call goes on

-- the object that the call makes, before it is finished
abbrev pub object_made : Conduct → HeapContents → HeapContents
object_made (conducts.Throws e) h = append h e
object_made (conducts.Fresh e) h = append h e
object_made d h = h

abbrev pub made_by : ℕ → Conduct → Option ℕ
made_by k (conducts.Throws e) = None
made_by k d = Some k

-- the object that a `new` makes, where it is the next one. A `new` that throws makes none
abbrev pub made_by_new : Action → ℕ → Conduct → Option ℕ
made_by_new (actions.New m d n) k c = made_by k c
made_by_new a k c = None

-- what the positions of the call are
abbrev pub positions : Locals → Action → ℕ → Conduct → ℕ → Value
positions l a k d = position_of (made_by_new a k d) l a

abbrev pub promises_by : Option Method → Conduct → List Promise
promises_by m (conducts.Throws e) = throwing_promises_in m
promises_by m d = promises_in m

-- the called method of the receiver is noted, then the promises are kept: those on exception where the call throws
abbrev pub library_notes : Program → HeapContents → Locals → Action → Option Method → Option Method → ℕ → Conduct → List Note
library_notes p h l a named m k d = receiver_note l a named ++ kept_promises p h (positions l a k d) (promises_by m d)

-- the owner of a fresh result: the frame that called where the result is owning, or the object is that of a `new`; else the
-- library, as for what a constant holds
abbrev pub result_owner : Action → Option Method → ℕ → Owner
result_owner (actions.New m d n) x j = owners.Frame j
result_owner (actions.Plain x v) m j = owners.Library
result_owner a x j = if owning_in x then owners.Frame j else owners.Library

abbrev pub fresh_born : Program → ClassId → Option Method → Action → ℕ → (ℕ → Value) → Object → Object
fresh_born p e m a j at x =
    if is_alias m then alias_born p true (alias_target at m) x
    else finished (first_set p e (first_in m)) (result_owner a m j) x

-- the object that the call makes gets its set and its owner. An exception has the set of its class, and the library owns it
abbrev pub library_birth : Program → Locals → Action → Option Method → ℕ → ℕ → Conduct → HeapContents → HeapContents
library_birth p l a m j k (conducts.Throws e) h = change_one k (finished (first_set p e None) owners.Library) h
library_birth p l a m j k (conducts.Fresh e) h = change_one k (fresh_born p e m a j (position_of None l a)) h
library_birth p l a m j k d h = h

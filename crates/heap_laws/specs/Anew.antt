-- Objects over a call of the library that may create an obligation anew (Checker Framework manual, Resource Leak Checker, "Creating obligations"): all of an
-- object stays but the names that were called on it and must be.
use Rattle.std.specs.Prelude.{◌≡◌, ◌⊎◌, ℕ, Bool, true, false, Option, None, Some, if◌then◌else◌}
use Rattle.std.specs.FinSet as set
use Rattle.program_model.specs.declared.program.Method.{Method}
use Rattle.program_model.specs.declared.program.Program.{Program}
use Rattle.control_actions.specs.declared.action.Action.{Action}
use Rattle.stub_conduct.specs.declared.choice.Conduct.{Conduct}
use Rattle.ledger_state.specs.Contents.{HeapContents}
use Rattle.ledger_state.specs.Heaps.{is_reached, object_at, root}
use Rattle.ledger_state.specs.declared.entry.Owner.{Owner}
use Rattle.ledger_state.specs.declared.entry.Owner.TheVariants as owners
use Rattle.ledger_state.specs.declared.locals.Locals.{Locals}
use Rattle.ledger_state.specs.declared.object.Object.{Object}
use Rattle.ledger_steps.specs.CallSteps.{library_called, library_roots}
use Rattle.ledger_steps.specs.Ends.{returned_called, returned_roots}
use Rattle.ledger_obligations.specs.MustCallSets.{must_of}
use Rattle.ledger_obligations.specs.Obligations.{finished_holder, finished_in}
use Rattle.ledger_steps.specs.LedgerCallsCalls.{operand_of, reset_target}

-- the call creates the obligation of object `n` anew: the reset reaches its root
unfoldable pub is_anew : Program → Locals → Action → Option Method → Option Method → Conduct → HeapContents → ℕ → Bool
is_anew p l a named m d h n = is_reached (library_called p l a named m d h) (library_roots p l a named m d h) n

-- the end of a call of the program's method creates the obligation of object `n` anew, where `h` is the heap when the frame has gone
unfoldable pub is_anew_at_end : Program → Locals → Action → Option Method → HeapContents → ℕ → Bool
is_anew_at_end p l a named h n = is_reached (returned_called p l a named h) (returned_roots p l a named h) n

-- the root of the object, where that is finished
abbrev pub finished_root : HeapContents → Option ℕ → Option ℕ
finished_root h None = None
finished_root h (Some k) = if finished_in (object_at h (root h k)) then Some (root h k) else None

-- the root of the operand whose obligation the named signature creates anew, where the root is finished; `h` is the heap before the call
abbrev pub target_root : HeapContents → Locals → Action → Option Method → Option ℕ
target_root h l a named = finished_root h (reset_target (operand_of l a) named)

abbrev pub is_field_owner : Owner → Bool
is_field_owner (owners.Field w f) = true
is_field_owner (owners.Frame j) = false
is_field_owner owners.Library = false
is_field_owner owners.Released = false
is_field_owner owners.Lost = false
is_field_owner owners.Unowned = false

-- no field of a finished object owns the object with this number, where there is one
abbrev pub HasNoHolder : HeapContents → Option ℕ → Type 0
HasNoHolder h r = (n : ℕ) (x : Object) → r ≡ Some n → object_at h n ≡ Some x → finished_holder h x.owner ≡ None

-- The object `x` goes on as `y`: all stays but its owner, and more names may have been called on it. Where its obligation is created anew, what must be
-- called on it and what was may be any names.
pub record GoesOnAside (anew : Bool) (x y : Object) : Type 0 where
  pub class : y.class ≡ x.class
  pub link : y.link ≡ x.link
  pub finished : y.finished ≡ x.finished
  pub must : anew ≡ false → y.must ≡ x.must
  pub called : anew ≡ false → set.is_subset x.called y.called ≡ true

-- every object of the heap `h` goes on so in the heap `k`, where the test tells whether its obligation is created anew
abbrev pub EvolvesAside : (ℕ → Bool) → HeapContents → HeapContents → Type 0
EvolvesAside anew h k = (n : ℕ) (x : Object) → object_at h n ≡ Some x → (y : Object) × (object_at k n ≡ Some y) × GoesOnAside (anew n) x y

-- object `n` of the heap after, here `y`, is an object of the heap `h` that went on so, and its owner is the one it had, or `o`
pub record IsOlderAside (anew : ℕ → Bool) (h : HeapContents) (n : ℕ) (y : Object) (o : Owner) : Type 0 where
  pub before : Object
  pub at : object_at h n ≡ Some before
  pub goes_on : GoesOnAside (anew n) before y
  pub owner : (y.owner ≡ before.owner) ⊎ (y.owner ≡ o)

-- no name was called on the object `y`, which was `x`, and all that its class asks for must be called on it, or what had to be
pub record IsEmptied (p : Program) (x y : Object) : Type 0 where
  pub called : y.called ≡ set.empty
  pub must : (y.must ≡ must_of p y.class) ⊎ (y.must ≡ x.must)

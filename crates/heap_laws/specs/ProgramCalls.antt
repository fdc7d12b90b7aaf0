-- What a call of a method of the program leaves of each object.
use Rattle.std.specs.Prelude.{◌≡◌, ◌⊎◌, ℕ, Bool, true, false, Option, Some, None}
use Rattle.std.specs.FinSet as set
use Rattle.program_model.specs.declared.kinds.ClassId.{ClassId}
use Rattle.program_model.specs.declared.kinds.VType.{VType}
use Rattle.program_model.specs.declared.program.Method.{Method}
use Rattle.program_model.specs.declared.program.Program.{Program}
use Rattle.ledger_obligations.specs.MustCallSets.{must_of}
use Rattle.control_actions.specs.declared.action.Action.{Action}
use Rattle.control_actions.specs.declared.action.Action.TheVariants as actions
use Rattle.ledger_state.specs.Contents.{HeapContents}
use Rattle.ledger_state.specs.Heaps.{next_number, object_at, root_of}
use Rattle.ledger_state.specs.Values.{number_of}
use Rattle.ledger_state.specs.declared.entry.Owner.TheVariants as owners
use Rattle.ledger_state.specs.declared.locals.Locals.{Locals}
use Rattle.ledger_state.specs.declared.object.Object.{Object}
use Rattle.ledger_state.specs.declared.value.Value.{Value}
use Rattle.ledger_obligations.specs.Obligations.{may_move}
use Rattle.ledger_operations.specs.Places.{class_of_method}
use Rattle.ledger_steps.specs.LedgerCallsCalls.{is_alias, operand_of, params_in}
use Rattle.ledger_steps.specs.Conducts.{owning_in, result_in}
use Rattle.heap_laws.specs.Heaps.{GoesOn, IsGiven}

-- ---- the start

-- object `n` of the heap as the call begins, here `y`, was there before. Its owner is the one it had, or it was given to the callee,
-- whose frame is at position `j`
pub record IsOlderAtStart (p : Program) (l : Locals) (a : Action) (named : Option Method) (j : ℕ) (h : HeapContents) (n : ℕ) (y : Object) : Type 0 where
  pub before : Object
  pub at : object_at h n ≡ Some before
  pub goes_on : GoesOn before y
  pub owner : (y.owner ≡ before.owner) ⊎ ((y.owner ≡ owners.Frame j) × IsGiven p (operand_of l a) 1 (params_in named) h n before)

-- it is the object of a `new`, which is not finished
pub record IsNewAtStart (named : Option Method) (h : HeapContents) (n : ℕ) (y : Object) : Type 0 where
  pub number : n ≡ next_number h
  pub unfinished : y.finished ≡ false
  pub link : y.link ≡ None
  pub class : class_of_method named ≡ Some y.class

-- ---- the end

-- the result of the method that ran, which is no alias of its argument, moves to the caller's frame, at position `i`
pub record IsReturned (p : Program) (i : ℕ) (runs : Option Method) (v : Value) (e : Option ClassId) (h : HeapContents) (n : ℕ) (x y : Object) : Type 0 where
  pub normal : e ≡ None
  pub owning : owning_in runs ≡ true
  pub own : is_alias runs ≡ false
  pub type : VType
  pub result : result_in runs ≡ Some type
  pub root : root_of h v ≡ Some n
  pub may : may_move p type x ≡ true
  pub owner : y.owner ≡ owners.Frame i

-- object `n` of the heap when the result has moved, here `y`, was there before, with the owner that it has, or it is the result
pub record IsOlderAtResult (p : Program) (i : ℕ) (runs : Option Method) (v : Value) (e : Option ClassId) (h : HeapContents) (n : ℕ) (y : Object) : Type 0 where
  pub before : Object
  pub at : object_at h n ≡ Some before
  pub goes_on : GoesOn before y
  pub owner : (y.owner ≡ before.owner) ⊎ IsReturned p i runs v e h n before y

abbrev pub is_new : Action → Bool
is_new (actions.New m d n) = true
is_new a = false

-- a `new` ends normally whose constructor has no aliased argument, and object `n`, here `y`, is the one that it ran on, which was `x`: nothing was called on it
pub record IsFinished (p : Program) (i : ℕ) (this : Value) (a : Action) (named : Option Method) (e : Option ClassId) (n : ℕ) (x y : Object) : Type 0 where
  pub normal : e ≡ None
  pub new : is_new a ≡ true
  pub own : is_alias named ≡ false
  pub self : number_of this ≡ Some n
  pub class : y.class ≡ x.class
  pub finished : y.finished ≡ true
  pub link : y.link ≡ x.link
  pub must : y.must ≡ must_of p x.class
  pub owner : y.owner ≡ owners.Frame i
  pub called : y.called ≡ set.empty

-- The object `x` is linked as `y` by a constructor to the argument with this number, which then has the obligation: its owner stays. An alias of null is
-- the library's, and nothing must be called on it.
abbrev pub IsLinkedTo : Program → Option ℕ → Object → Object → Type 0
IsLinkedTo p None x y = (y.must ≡ set.empty) × (y.owner ≡ owners.Library) × (y.link ≡ x.link)
IsLinkedTo p (Some w) x y = (y.must ≡ must_of p x.class) × (y.owner ≡ x.owner) × (y.link ≡ Some (record { to = w; by_library = false }))

-- a `new` ends normally whose constructor has an aliased argument, with this number, and object `n`, here `y`, is the one that it ran on, which was `x`
pub record IsMadeAlias (p : Program) (this : Value) (a : Action) (named : Option Method) (argument : Option ℕ) (e : Option ClassId) (n : ℕ) (x y : Object) : Type 0 where
  pub normal : e ≡ None
  pub new : is_new a ≡ true
  pub alias : is_alias named ≡ true
  pub self : number_of this ≡ Some n
  pub class : y.class ≡ x.class
  pub finished : y.finished ≡ true
  pub called : y.called ≡ set.empty
  pub linked : IsLinkedTo p argument x y

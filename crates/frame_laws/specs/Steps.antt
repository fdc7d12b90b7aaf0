-- Words for the steps of a frame.
use Rattle.std.specs.Prelude.{◌≡◌, ℕ, Bool, true, false, Some}
use Rattle.control_actions.specs.declared.action.Action.{Action}
use Rattle.control_actions.specs.declared.action.Action.TheVariants as actions
use Rattle.control_actions.specs.declared.action.Edge.{Edge}
use Rattle.control_actions.specs.declared.action.Edge.TheVariants as edges
use Rattle.ledger_state.specs.Contents.{HeapContents}
use Rattle.ledger_state.specs.Heaps.{root_of}
use Rattle.ledger_state.specs.Locals.{temp_value}
use Rattle.ledger_state.specs.Values.{is_null}
use Rattle.ledger_state.specs.declared.locals.Locals.{Locals}
use Rattle.ledger_state.specs.declared.value.Value.{Value}

-- a test that goes by its null edge has found null
abbrev pub IsTrueTest : Locals → Action → Edge → Type 0
IsTrueTest l (actions.Test d) edges.Null = is_null (temp_value l d) ≡ true
IsTrueTest l a e = Unit {0}

-- what has the object for its root has it still
abbrev pub RootsStay : HeapContents → HeapContents → ℕ → Type 0
RootsStay h k o = (v : Value) → root_of h v ≡ Some o → root_of k v ≡ Some o

-- the action calls a super constructor
abbrev pub is_super : Action → Bool
is_super (actions.Super m d n) = true
is_super a = false

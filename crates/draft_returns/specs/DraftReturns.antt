-- Ends of frames of which only the objects that change are looked at.
use Rattle.std.specs.Prelude.{ℕ, ◌≡◌, true, false, Option, Some, None, List, if◌then◌else◌}
use Rattle.program_model.specs.declared.kinds.ClassId.{ClassId}
use Rattle.program_model.specs.declared.program.Method.{Method}
use Rattle.must_call_sets.specs.Bodies.{constructs}
use Rattle.control_actions.specs.declared.action.Action.{Action}
use Rattle.control_actions.specs.declared.action.Action.TheVariants as actions
use Rattle.ledger_state.specs.declared.object.Object.{Object}
use Rattle.ledger_state.specs.declared.value.Value.{Value}
use Rattle.ledger_state.specs.Contents.{HeapContents}
use Rattle.ledger_state.specs.Heaps.{has_number, object_at}
use Rattle.ledger_state.specs.Values.{number_of}
use Rattle.ledger_obligations.specs.Obligations.{is_frame}
use Rattle.heap_drafts.specs.declared.saved.SavedObject.{SavedObject}
use Rattle.heap_drafts.specs.Drafts.{is_saved}

-- each object that the frame at position `j` owns, and that was not saved, is one of these
abbrev pub ListedRest : ℕ → List ℕ → List SavedObject → HeapContents → Type 0
ListedRest j ks bs h = (k : ℕ) (x : Object) → object_at h k ≡ Some x → is_saved bs k ≡ false → is_frame x.owner j ≡ true → has_number ks k ≡ true

-- each object that the frame at position `j` owns in the heap `h` is saved
abbrev pub OwnedSaved : ℕ → List SavedObject → HeapContents → Type 0
OwnedSaved j bs h = (k : ℕ) (x : Object) → object_at h k ≡ Some x → is_frame x.owner j ≡ true → is_saved bs k ≡ true

-- the object of a constructor that ends by an exception, whose owning fields give up what they own
abbrev pub holder_ended : Value → Option Method → Option ClassId → Option ℕ
holder_ended self runs None = None
holder_ended self runs (Some e) = if constructs runs then number_of self else None

-- the object of a `new` that ends normally
abbrev pub newborn : Action → Value → Option ClassId → Option ℕ
newborn (actions.New m d n) self None = number_of self
newborn a self e = None

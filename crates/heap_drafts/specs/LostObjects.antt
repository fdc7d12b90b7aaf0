-- What is lost at the end of a step, among some objects.
use Rattle.std.specs.Prelude.{ℕ, ◌≡◌, true, Some, List}
use Rattle.ledger_state.specs.declared.object.Object.{Object}
use Rattle.ledger_state.specs.declared.value.Value.{Value}
use Rattle.ledger_state.specs.Contents.{HeapContents}
use Rattle.ledger_state.specs.Heaps.{has_number, object_at}
use Rattle.ledger_obligations.specs.Obligations.{lost_object}
use Rattle.settled_heaps.specs.Settled.{is_settled}
use Rattle.heap_drafts.specs.declared.saved.SavedObject.{SavedObject}
use Rattle.heap_drafts.specs.Drafts.{renewed}

-- `y` is what the step leaves of the object `x`, and is met or kept by its owner
abbrev pub LeftSettled : HeapContents → List (List Value) → ℕ → Object → Object → Type 0
LeftSettled h held k x y = (y ≡ lost_object h held k x) × (is_settled h held k y ≡ true)

-- `bs` are what the step leaves of these objects, each of which is met or kept by its owner
pub record AllLost (h : HeapContents) (held : List (List Value)) (ks : List ℕ) (bs : List SavedObject) : Type 0 where
  pub made : bs ≡ renewed (lost_object h held) h ks
  pub settled : (k : ℕ) (x : Object) → object_at h k ≡ Some x → has_number ks k ≡ true → is_settled h held k (lost_object h held k x) ≡ true

-- The controls of a body behind a store into an owning field of `this`, or behind a call on `this` that may have stored there.
use Rattle.std.specs.Prelude.{◌≡◌, ℕ, true, Some, List, slice_get}
use Rattle.program_model.specs.declared.kinds.BodyId.{BodyId}
use Rattle.program_model.specs.declared.kinds.FieldId.{FieldId}
use Rattle.program_model.specs.declared.program.Program.{Program}
use Rattle.java_control.specs.Calls.{is_reset_of_this}
use Rattle.java_control.specs.Remaining.{Todo}
use Rattle.control_actions.specs.declared.action.Action.TheVariants as actions
use Rattle.place_laws.specs.Paths.{Comes, Move, relation_of}

-- a path through the body to the control has stored into an owning field, or has called what creates the obligation of `this` anew
pub data HasStored (p : Program) (b : BodyId) : List Todo → Type 0 where
  stored : {k : List Todo} → (i : ℕ) (t : Move (List Todo)) (f : FieldId) (d : ℕ) → Comes (relation_of p b) k → slice_get ((relation_of p b).next k) i ≡ Some t
      → t.action ≡ actions.PutOwn f d → HasStored p b t.to
  opened : {k : List Todo} → (i : ℕ) (t : Move (List Todo)) → Comes (relation_of p b) k → slice_get ((relation_of p b).next k) i ≡ Some t → is_reset_of_this p t.action ≡ true → HasStored p b t.to
  onward : {k : List Todo} → (i : ℕ) (t : Move (List Todo)) → HasStored p b k → slice_get ((relation_of p b).next k) i ≡ Some t → HasStored p b t.to

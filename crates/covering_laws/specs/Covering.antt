-- What an owning field of `this` holds in a frame.
use Rattle.std.specs.Prelude.{◌≡◌, ◌⊎◌, ℕ, Bool, true, Some, List}
use Rattle.program_model.specs.declared.kinds.FieldId.{FieldId}
use Rattle.program_model.specs.declared.program.Program.{Program}
use Rattle.program_model.specs.Lookups.{method_at}
use Rattle.ledger_obligations.specs.MustCallSets.{is_heavy_class}
use Rattle.java_control.specs.Owned.{is_owning}
use Rattle.ledger_state.specs.Contents.{HeapContents}
use Rattle.ledger_state.specs.Fields.{field_value}
use Rattle.ledger_state.specs.Heaps.{object_at, root_of}
use Rattle.ledger_state.specs.declared.object.Object.{Object}
use Rattle.ledger_state.specs.declared.value.Value.TheVariants as values
use Rattle.value_laws.specs.Configuration.{Frame}
use Rattle.value_laws.specs.PlaceFacts.{IsAnswered, IsSpared, is_heavy_in, is_settled, OwesOrHolds}
use Rattle.value_laws.specs.Renewing.{reopens}

-- the owning field `f` of the object that is `this` of the frame, and whose type has an obligation, holds object `o`, which is `x`, whose
-- class has one, and which may owe a call, or of which a field owns something
pub record HoldsHeavy (p : Program) (h : HeapContents) (fr : Frame) (w : ℕ) (f : FieldId) (o : ℕ) (x : Object) : Type 0 where
  pub this : fr.locals.this ≡ values.Object w
  pub owning : is_owning p f ≡ true
  pub heavy : is_heavy_in p (Some f) ≡ true
  pub held : root_of h (field_value p h w f) ≡ Some o
  pub at : object_at h o ≡ Some x
  pub class : is_heavy_class p x.class ≡ true
  pub owes : OwesOrHolds p h o x

-- What the facts of the frame, above the frames `frs`, know to be called on object `o`, which is `x`, was called: it was old when the frame began, and the call that began the frame spares it; and the
-- end of its way up was not given up.
abbrev pub IsCountedOn : Program → HeapContents → (ℕ → Bool) → List Frame → Frame → ℕ → Object → Type 0
IsCountedOn p h old frs fr o x = (old o ≡ true) × IsSpared p h frs o × IsAnswered h o

-- The frame, which stands on these, answers for the fields of `this`, or nothing is stored into them while it runs.
abbrev pub KeepsFieldsOfThis : Program → List Frame → Frame → Type 0
KeepsFieldsOfThis p frs fr = (reopens (method_at p fr.method) ≡ true) ⊎ (is_settled p fr frs ≡ true)

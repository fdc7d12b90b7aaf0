-- Where an owning field of the object that a constructor makes holds an object, the constructor has stored it.
use Rattle.std.specs.Prelude.{◌≡◌, ◌⊎◌, ℕ, true, Some, List, [], ◌∷◌, slice_get}
use Rattle.program_model.specs.declared.kinds.BodyId.{BodyId}
use Rattle.program_model.specs.declared.kinds.FieldId.{FieldId}
use Rattle.program_model.specs.declared.program.Field.{Field}
use Rattle.program_model.specs.declared.program.Program.{Program}
use Rattle.program_model.specs.Lookups.{field_at, method_at}
use Rattle.must_call_sets.specs.Bodies.{constructs, is_class_of}
use Rattle.java_control.specs.Control.{Step}
use Rattle.control_actions.specs.declared.action.Action.TheVariants as actions
use Rattle.ledger_state.specs.Contents.{HeapContents}
use Rattle.ledger_state.specs.Fields.{field_value}
use Rattle.ledger_state.specs.Heaps.{object_at}
use Rattle.ledger_state.specs.declared.object.Object.{Object}
use Rattle.ledger_state.specs.declared.value.Value.TheVariants as values
use Rattle.covering_laws.specs.Configuration.{Frame}
use Rattle.covering_laws.specs.Choosing.{body_id, frame_steps}
use Rattle.covering_laws.specs.FieldContents.{DeclaresOwning}
use Rattle.covering_laws.specs.Renewing.{lends_this}
use Rattle.covering_laws.specs.Storing.{HasStored}

-- The frame runs no constructor of the class that declares the owning field; or, where the field of `this` holds an object, a path through the body to the
-- frame's control has stored into an owning field, or called on `this` what may do so; or the frame stands at such a call.
abbrev pub IsFilled : Program → HeapContents → Frame → Type 0
IsFilled p h fr = (b : BodyId) (w c : ℕ) (f : FieldId) (x : Field) → body_id p fr.method ≡ Some b → constructs (method_at p fr.method) ≡ true → fr.locals.this ≡ values.Object w
    → field_at p f ≡ Some x → x.owning ≡ true → is_class_of x.class (method_at p fr.method) ≡ true → field_value p h w f ≡ values.Object c → HasStored p b fr.control ⊎ (lends_this p fr ≡ true)

abbrev pub AreFilled : Program → HeapContents → List Frame → Type 0
AreFilled p h [] = Unit {0}
AreFilled p h (fr ∷ frs) = IsFilled p h fr × AreFilled p h frs

-- those of these frames that make the object, of a class with owning fields, stand at a call on `this` that may store into these
abbrev pub MakersLend : Program → ℕ → List Frame → Type 0
MakersLend p w [] = Unit {0}
MakersLend p w (g ∷ gs) = (DeclaresOwning p g.method → constructs (method_at p g.method) ≡ true → g.locals.this ≡ values.Object w → lends_this p g ≡ true) × MakersLend p w gs

-- who stores into an owning field of the object, above these frames, is a constructor; or the object is finished, or they lend it
abbrev pub IsReady : Program → HeapContents → Frame → List Frame → ℕ → Type 0
IsReady p h fr frs w = (constructs (method_at p fr.method) ≡ true) ⊎ (((y : Object) → object_at h w ≡ Some y → y.finished ≡ true) ⊎ MakersLend p w frs)

-- where the frame stores into an owning field of `this`, this is ready
abbrev pub StoresReadily : Program → HeapContents → Frame → List Frame → Type 0
StoresReadily p h fr frs = (i : ℕ) (s : Step) (f : FieldId) (d w : ℕ) → slice_get (frame_steps p fr) i ≡ Some s → s.action ≡ actions.PutOwn f d → fr.locals.this ≡ values.Object w → IsReady p h fr frs w

-- so does the top one of these frames
abbrev pub TopStoresReadily : Program → HeapContents → List Frame → Type 0
TopStoresReadily p h [] = Unit {0}
TopStoresReadily p h (fr ∷ frs) = StoresReadily p h fr frs

-- What the agreement with the facts needs to know of fields, for a step of the top frame.
use Rattle.std.specs.Prelude.{◌≡◌, ◌⊎◌, ℕ, ◌+◌, true, false, Some, None, List, [], ◌∷◌, length, slice_get}
use Rattle.std.specs.FinSet as set
use Rattle.program_model.specs.declared.kinds.ClassId.{ClassId}
use Rattle.program_model.specs.declared.kinds.FieldId.{FieldId}
use Rattle.program_model.specs.declared.program.Program.{Program}
use Rattle.program_model.specs.Lookups.{method_at}
use Rattle.ledger_obligations.specs.Bodies.{constructs}
use Rattle.ledger_obligations.specs.MustCallSets.{is_heavy_class, must_of}
use Rattle.java_control.specs.Control.{Step}
use Rattle.java_control.specs.Owned.{is_owning}
use Rattle.control_actions.specs.declared.action.Action.TheVariants as actions
use Rattle.control_actions.specs.declared.action.Completion.{Completion}
use Rattle.ledger_state.specs.Contents.{HeapContents}
use Rattle.ledger_state.specs.Heaps.{object_at}
use Rattle.ledger_state.specs.Locals.{temp_value}
use Rattle.ledger_state.specs.Values.{number_of}
use Rattle.ledger_state.specs.declared.entry.Owner.TheVariants as owners
use Rattle.ledger_state.specs.declared.object.Object.{Object}
use Rattle.ledger_state.specs.declared.value.Value.TheVariants as values
use Rattle.ledger_obligations.specs.Obligations.{is_held_by, is_unmet}
use Rattle.content_laws.specs.Configuration.{Frame}
use Rattle.content_laws.specs.FieldContents.{TopRunsAlone}
use Rattle.content_laws.specs.Choosing.{frame_steps}
use Rattle.ledger_steps.specs.Ends.{exception_class, thrown_in}
use Rattle.ledger_steps.specs.InnerSteps.{is_bound}
use Rattle.control_actions.specs.declared.place.Place.TheVariants as places
use Rattle.ownership_rules.specs.Facts.{has}
use Rattle.content_laws.specs.Agreement.{Tracks}
use Rattle.content_laws.specs.Renewing.{IsLentFrom}
use Rattle.content_laws.specs.Stores.{IsDisplaced, IsMovedIn}

-- A store of the temp into the owning field of `this`: what the field gives up is met, and an object of the frame of which a fact says that it is in the temp is no aliased argument.
pub record StoresWell (p : Program) (h : HeapContents) (fr : Frame) (f : FieldId) (d : ℕ) : Type 0 where
  pub holder : ℕ
  pub this : fr.locals.this ≡ values.Object holder
  pub object : Object
  pub there : object_at h holder ≡ Some object
  pub owning : is_owning p f ≡ true
  pub free : (n : ℕ) (x : Object) (t : Tracks p h fr n x) → is_unmet x ≡ true → has t.fact.places (places.Temp d) ≡ true → is_bound h (method_at p fr.method) fr.locals (temp_value fr.locals d) ≡ false
  pub met : (n : ℕ) (x : Object) → object_at h n ≡ Some x → IsDisplaced p h holder f (temp_value fr.locals d) n x → is_unmet x ≡ false

-- The holder is finished, and linked to none; it has an obligation, and is lent to the frame, which stands on these; and what moves into the field, and has an obligation, the frame owned, or the field.
pub record IsLentHolder (p : Program) (h : HeapContents) (fr : Frame) (frs : List Frame) (d : ℕ) (f : FieldId) (w : ℕ) (x : Object) : Type 0 where
  pub finished : x.finished ≡ true
  pub single : x.link ≡ None
  pub heavy : is_heavy_class p x.class ≡ true
  pub lent : IsLentFrom p h frs w x.owner
  pub mine : (n : ℕ) (y : Object) → object_at h n ≡ Some y → IsMovedIn p h f (temp_value fr.locals d) n y → is_heavy_class p y.class ≡ true → (y.owner ≡ owners.Frame (length frs + 1)) ⊎ (y.owner ≡ owners.Field w f)

-- The holder is not finished, so a store does not reset it, or it is lent so.
abbrev pub StoresIntoLent : Program → HeapContents → Frame → List Frame → Type 0
StoresIntoLent p h fr frs = (i : ℕ) (s : Step) (f : FieldId) (d : ℕ) → slice_get (frame_steps p fr) i ≡ Some s → s.action ≡ actions.PutOwn f d
    → (w : ℕ) (x : Object) → fr.locals.this ≡ values.Object w → object_at h w ≡ Some x → (x.finished ≡ false) ⊎ IsLentHolder p h fr frs d f w x

-- What is known of fields as the frame takes a step: no object that a field owns has more to be called than its class, stores go well,
-- and a constructor that ends by an exception owns nothing unmet in its fields.
pub record Supports (p : Program) (h : HeapContents) (fr : Frame) : Type 0 where
  pub bounded : (o : ℕ) (x : Object) (w : ℕ) (f : FieldId) → object_at h o ≡ Some x → is_unmet x ≡ true → x.owner ≡ owners.Field w f
      → set.is_subset x.must (must_of p x.class) ≡ true
  pub stores : (i : ℕ) (s : Step) (f : FieldId) (d : ℕ) → slice_get (frame_steps p fr) i ≡ Some s → s.action ≡ actions.PutOwn f d
      → StoresWell p h fr f d
  pub throws : (i : ℕ) (s : Step) (q : Completion) (c : ClassId) (n w : ℕ) (x : Object) → slice_get (frame_steps p fr) i ≡ Some s → s.action ≡ actions.End q
      → exception_class p h (thrown_in fr.locals q) ≡ Some c → constructs (method_at p fr.method) ≡ true → number_of fr.locals.this ≡ Some w
      → object_at h n ≡ Some x → is_unmet x ≡ true → is_held_by x.owner w ≡ true → ⊥

-- the top one of these frames, which runs alone on what its constructor fills, and stores into what is lent to it
abbrev pub IsSupported : Program → HeapContents → List Frame → Type 0
IsSupported p h [] = Unit {0}
IsSupported p h (fr ∷ frs) = Supports p h fr × TopRunsAlone p h (fr ∷ frs) × StoresIntoLent p h fr frs

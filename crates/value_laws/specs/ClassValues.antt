-- What the places of a run hold, by their types: where the static type of a place is under a class, an object of that class stands or null (JLS 4.3.1, 4.12.2).
use Rattle.std.specs.Prelude.{◌≡◌, ℕ, true, ◌<◌, Option, Some, List, [], ◌∷◌, All}
use Rattle.program_model.specs.declared.kinds.BodyId.{BodyId}
use Rattle.program_model.specs.declared.kinds.ClassId.{ClassId}
use Rattle.program_model.specs.declared.kinds.MethodId.{MethodId}
use Rattle.program_model.specs.declared.program.Method.{Method}
use Rattle.program_model.specs.declared.program.Program.{Program}
use Rattle.program_model.specs.SuperTests.{is_under}
use Rattle.control_actions.specs.declared.action.Action.{Action}
use Rattle.ledger_state.specs.declared.value.Value.TheVariants as values
use Rattle.ledger_steps.specs.LedgerCallsCalls.{form_of, operand_of}
use Rattle.dispatch_laws.specs.FieldContents.{is_chosen_by_class}
use Rattle.value_laws.specs.Objects.{object_class}
use Rattle.program_model.specs.declared.tree.Body.{Body}
use Rattle.program_model.specs.Lookups.{body_at, method_at, variable_type}
use Rattle.control_actions.specs.declared.place.Place.TheVariants as places
use Rattle.frame_laws.specs.Paths.{Comes, relation_of}
use Rattle.ledger_state.specs.declared.locals.Locals.{Locals}
use Rattle.ledger_state.specs.declared.object.StoredField.{StoredField}
use Rattle.ledger_state.specs.Contents.{HeapContents}
use Rattle.ledger_state.specs.Locals.{variable_value}
use Rattle.frame_laws.specs.Places.{place_value}
use Rattle.ledger_moves.specs.Configuration.{Config, Frame}
use Rattle.ledger_moves.specs.Choosing.{body_id}
use Rattle.dispatch_laws.specs.PlainForms.{MayRun}
use Rattle.dispatch_laws.specs.ClassOperands.{field_type, own_type, result_of}
use Rattle.dispatch_laws.specs.ClassOperands.{FindsClass, HasFieldOfClass, IsNotAboveString, OfClass}
use Rattle.value_laws.specs.Values.{FitsClass, temp_fits_class}

-- What is asked of a program. `String` is not under the class; and where the result of the method that a call names is of
-- a type under the class, so is that of the method with a body that may run (JLS 8.4.5).
pub record HasClassResults (p : Program) (bound : ClassId) : Type 0 where
  pub texts : IsNotAboveString p bound
  pub results : (named runs : MethodId) (b : BodyId) → MayRun p named runs → body_id p runs ≡ Some b → OfClass p bound (result_of (method_at p named)) → OfClass p bound (result_of (method_at p runs))

-- The method that a call names is one of the receiver, where that chooses what runs: the receiver is of the class of the method, or of one under it (JLS 15.12.4.4).
abbrev pub IsOnInstance : Program → HeapContents → Locals → Action → Option Method → Type 0
IsOnInstance p h l a named = (w : ℕ) (m : Method) → is_chosen_by_class (form_of a) ≡ true → operand_of l a 0 ≡ values.Object w → named ≡ Some m
    → (e : ClassId) × (object_class h w ≡ Some e) × (is_under p e m.class ≡ true)

-- so it is for each class that `String` is not under
abbrev pub KeepsResultClasses : Program → Type 0
KeepsResultClasses p = (bound : ClassId) → IsNotAboveString p bound → HasClassResults p bound

-- where a variable is of a type under the class, its value is an object of the class or null; `h` is the heap
abbrev pub VariablesFitClass : Program → ClassId → HeapContents → Body → Locals → Type 0
VariablesFitClass p bound h b l = (i : ℕ) → OfClass p bound (variable_type b i) → FitsClass p bound h (variable_value l i)

-- so is that of an owning field of `this`, which is read in the heap `k`
abbrev pub FieldsFitClass : Program → ClassId → HeapContents → HeapContents → MethodId → Body → Locals → Type 0
FieldsFitClass p bound h k m b l = (i : ℕ) → HasFieldOfClass p bound b i → FitsClass p bound h (place_value p k m l (places.Field i))

-- the temp of the depth holds an object of the class or null. (No accepted body has temps as deep as 64.)
abbrev pub fits_class_at : Program → ClassId → HeapContents → Locals → ℕ → Type 0
fits_class_at p bound h l d = (d < 64) × temp_fits_class p bound h l d

-- The frame stands at a control that its body reaches. Where `this` or a variable is of a type under the class, its value is an object of the class or null,
-- and each action that is left to run finds the values that it asks in the temps.
pub record FrameFitsClass (p : Program) (bound : ClassId) (h : HeapContents) (fr : Frame) : Type 0 where
  pub number : BodyId
  pub body : Body
  pub id : body_id p fr.method ≡ Some number
  pub at : body_at p number ≡ Some body
  pub method : body.method ≡ fr.method
  pub control : Comes (relation_of p number) fr.control
  pub this : OfClass p bound (own_type (method_at p body.method)) → FitsClass p bound h fr.locals.this
  pub variables : VariablesFitClass p bound h body fr.locals
  pub finds : FindsClass p bound body fr.control (fits_class_at p bound h fr.locals)

-- so do all of these frames
abbrev pub FramesFitClass : Program → ClassId → HeapContents → List Frame → Type 0
FramesFitClass p bound h [] = Unit {0}
FramesFitClass p bound h (fr ∷ frs) = FrameFitsClass p bound h fr × FramesFitClass p bound h frs

-- where the field is of a type under the class, its value is an object of the class or null
abbrev pub StoredFieldFitsClass : Program → ClassId → HeapContents → StoredField → Type 0
StoredFieldFitsClass p bound h s = OfClass p bound (field_type p s.field) → FitsClass p bound h s.value

-- so are those of all fields of the heap `k`
abbrev pub StoredFieldsFitClass : Program → ClassId → HeapContents → HeapContents → Type 0
StoredFieldsFitClass p bound h k = All (λ s. StoredFieldFitsClass p bound h s) k.fields

-- places of a type under the class hold objects of the class or null: variables and temps of the frames, `this`, and fields. (Static fields and arrays
-- have no such type.)
pub record HaveClass (p : Program) (bound : ClassId) (c : Config) : Type 0 where
  pub frames : FramesFitClass p bound c.heap c.frames
  pub fields : StoredFieldsFitClass p bound c.heap c.heap

-- So it is for each class that `String` is not under: each object is of the static type of its place, where that is such a class.
abbrev pub HaveClasses : Program → Config → Type 0
HaveClasses p c = (bound : ClassId) → IsNotAboveString p bound → HaveClass p bound c

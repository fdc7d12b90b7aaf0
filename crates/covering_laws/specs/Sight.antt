-- What the rules see of the next step of a frame, by static types and by the facts of its arguments.
use Rattle.std.specs.Prelude.{◌≡◌, false, ℕ, true, Some, List, [], ◌∷◌, slice_get}
use Rattle.program_model.specs.declared.kinds.FieldId.{FieldId}
use Rattle.program_model.specs.declared.kinds.MethodId.{MethodId}
use Rattle.program_model.specs.declared.program.Field.{Field}
use Rattle.program_model.specs.declared.program.Method.{Method}
use Rattle.program_model.specs.declared.program.Program.{Program}
use Rattle.program_model.specs.Lookups.{field_at, method_at}
use Rattle.program_model.specs.SuperTests.{is_under}
use Rattle.ledger_obligations.specs.Bodies.{is_extended_in}
use Rattle.java_control.specs.Calls.{called_method}
use Rattle.java_control.specs.Control.{Step}
use Rattle.control_actions.specs.declared.action.Action.TheVariants as actions
use Rattle.ledger_state.specs.Contents.{HeapContents}
use Rattle.ledger_state.specs.Heaps.{object_at, root_of}
use Rattle.ledger_state.specs.Locals.{temp_value}
use Rattle.ledger_state.specs.declared.object.Object.{Object}
use Rattle.ledger_state.specs.declared.value.Value.TheVariants as values
use Rattle.ledger_steps.specs.LedgerCallsCalls.{operand_of}
use Rattle.value_laws.specs.ClassValues.{IsOnInstance}
use Rattle.value_laws.specs.Choosing.{frame_steps}
use Rattle.value_laws.specs.Configuration.{Frame}
use Rattle.value_laws.specs.HeapAnew.{target_root}
use Rattle.value_laws.specs.PlainForms.{StoresPlainly}
use Rattle.value_laws.specs.Renewable.{IsFollowed, IsRenewable}
use Rattle.value_laws.specs.Renewing.{HasOwningField, IsMadeBy, makes_alone}
use Rattle.value_laws.specs.StepTargets.{HasThis}
use Rattle.covering_laws.specs.TextUpdates.{UpdatesTexts}

-- a frame with a `this` runs on an object
abbrev pub IsOnObject : Program → Frame → Type 0
IsOnObject p fr = HasThis (method_at p fr.method) → (w : ℕ) × (fr.locals.this ≡ values.Object w)

-- so do all of these
abbrev pub RunOnObjects : Program → List Frame → Type 0
RunOnObjects p [] = Unit {0}
RunOnObjects p (fr ∷ frs) = IsOnObject p fr × RunOnObjects p frs

-- A constructor without an aliased argument, of a class that no other one extends, runs on the object that it makes, where this object's class has owning fields; and it is not finished.
abbrev pub MakesThis : Program → HeapContents → Frame → Type 0
MakesThis p h fr = makes_alone (method_at p fr.method) ≡ true → is_extended_in p (method_at p fr.method) ≡ false → (o : ℕ) (x : Object) → root_of h fr.locals.this ≡ Some o → object_at h o ≡ Some x → HasOwningField p x.class
    → IsMadeBy p fr o × (x.finished ≡ false)

-- What the rules ask of the next step of a frame, since a fact of `this` is at its control: an owning field is stored by a constructor, or by a method, of a class with an obligation, that creates the obligation of `this` anew, and then the field's type has one, too.
pub record ActsByRules (p : Program) (fr : Frame) : Type 0 where
  pub stores : (i : ℕ) (s : Step) (f : FieldId) (d : ℕ) → slice_get (frame_steps p fr) i ≡ Some s → s.action ≡ actions.PutOwn f d → StoresPlainly p (method_at p fr.method) f

-- so do all of these
abbrev pub AllActByRules : Program → List Frame → Type 0
AllActByRules p [] = Unit {0}
AllActByRules p (fr ∷ frs) = ActsByRules p fr × AllActByRules p frs

-- An object whose obligation a call creates anew is of a class whose obligation may be created
-- anew, and an object that is stored into an owning field is one that the rules of bodies follow, or its obligation is never created anew. (The object is the root of the operand, or of the value.)
-- An operator other than `=` stores texts alone into owning fields. The step is as the rules ask. `this` is of the class of the method that runs, and, where it is the receiver of a method that creates its obligation anew, of that method's class.
pub record ActsInSight (p : Program) (h : HeapContents) (fr : Frame) : Type 0 where
  pub renews : (i : ℕ) (s : Step) (named : MethodId) (n : ℕ) (x : Object) → slice_get (frame_steps p fr) i ≡ Some s → called_method s.action ≡ Some named
      → IsOnInstance p h fr.locals s.action (method_at p named) → target_root h fr.locals s.action (method_at p named) ≡ Some n → object_at h n ≡ Some x → IsRenewable p x.class
  pub stores : (i : ℕ) (s : Step) (f : FieldId) (field : Field) (d n : ℕ) (x : Object) → slice_get (frame_steps p fr) i ≡ Some s → s.action ≡ actions.PutOwn f d → field_at p f ≡ Some field → field.owning ≡ true → root_of h (temp_value fr.locals d) ≡ Some n → object_at h n ≡ Some x
      → IsFollowed p x.class
  pub updates : UpdatesTexts p h fr
  pub stands : (w : ℕ) (self : Object) (m : Method) → fr.locals.this ≡ values.Object w → object_at h w ≡ Some self → method_at p fr.method ≡ Some m → is_under p self.class m.class ≡ true
  pub on : IsOnObject p fr
  pub receives : (i : ℕ) (s : Step) (named : MethodId) (n : Method) (w : ℕ) (self : Object) → slice_get (frame_steps p fr) i ≡ Some s → called_method s.action ≡ Some named → method_at p named ≡ Some n → n.sig.reset ≡ Some 0
      → IsOnInstance p h fr.locals s.action (method_at p named) → operand_of fr.locals s.action 0 ≡ values.Object w → fr.locals.this ≡ values.Object w → object_at h w ≡ Some self → is_under p self.class n.class ≡ true
  pub makes : MakesThis p h fr
  pub rules : ActsByRules p fr

-- so it is of all of these frames
abbrev pub AllActInSight : Program → HeapContents → List Frame → Type 0
AllActInSight p h [] = Unit {0}
AllActInSight p h (fr ∷ frs) = ActsInSight p h fr × AllActInSight p h frs

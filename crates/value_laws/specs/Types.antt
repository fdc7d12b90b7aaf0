-- What the places of a run hold, by their types: where the type of a place is no class type, no object stands but of class `String`.
use Rattle.std.specs.Prelude.{◌≡◌, ℕ, ◌<◌, Bool, false, Option, Some, None, List, [], ◌∷◌, All, slice_get}
use Rattle.program_model.specs.declared.kinds.BodyId.{BodyId}
use Rattle.program_model.specs.declared.kinds.ClassId.{ClassId}
use Rattle.program_model.specs.declared.kinds.MethodId.{MethodId}
use Rattle.program_model.specs.declared.program.Program.{Program}
use Rattle.program_model.specs.declared.tree.Body.{Body}
use Rattle.program_model.specs.Lookups.{body_at, method_at}
use Rattle.program_model.specs.SuperTests.{is_class}
use Rattle.java_control.specs.Calls.{called_method}
use Rattle.java_control.specs.Control.{Step}
use Rattle.control_actions.specs.declared.action.Action.TheVariants as actions
use Rattle.frame_laws.specs.Paths.{Comes, relation_of}
use Rattle.ledger_state.specs.declared.locals.Locals.{Locals}
use Rattle.ledger_state.specs.declared.object.StoredField.{StoredField}
use Rattle.ledger_state.specs.declared.value.Value.{Value}
use Rattle.ledger_state.specs.Contents.{HeapContents}
use Rattle.ledger_state.specs.Heaps.{object_at}
use Rattle.ledger_state.specs.Locals.{temp_value}
use Rattle.ledger_state.specs.Values.{number_of}
use Rattle.ledger_moves.specs.Configuration.{Config, Frame}
use Rattle.ledger_moves.specs.Choosing.{body_id, frame_steps}
use Rattle.dispatch_laws.specs.Operands.{FindsTypes, MakesText, NoObject, field_type, result_of}
use Rattle.dispatch_laws.specs.Values.{ArraysHoldNone, IsNoObjectBut, StaticsHoldNone, temp_holds_none}
use Rattle.dispatch_laws.specs.FrameValues.{VariablesHoldNone}
use Rattle.value_laws.specs.Objects.{object_class}

-- the temp of the depth holds no object but one of `texts`. (No accepted body has temps as deep as 64.)
abbrev pub holds_none : (ℕ → Bool) → Locals → ℕ → Type 0
holds_none texts l d = (d < 64) × temp_holds_none texts l d

-- The frame stands at a control that its body reaches. No variable of a type of no class holds an object but one of `texts`, and each action that is
-- left to run finds the values that it asks in the temps.
pub record KeepsTypes (texts : ℕ → Bool) (p : Program) (fr : Frame) : Type 0 where
  pub number : BodyId
  pub body : Body
  pub id : body_id p fr.method ≡ Some number
  pub at : body_at p number ≡ Some body
  pub method : body.method ≡ fr.method
  pub control : Comes (relation_of p number) fr.control
  pub variables : VariablesHoldNone texts body fr.locals
  pub finds : FindsTypes p body fr.control (holds_none texts fr.locals)

abbrev pub KeepAll : (ℕ → Bool) → Program → List Frame → Type 0
KeepAll texts p [] = Unit {0}
KeepAll texts p (fr ∷ frs) = KeepsTypes texts p fr × KeepAll texts p frs

-- where the method that the caller's call names has a result of no class type, so has that of the frame; and no constructor of `String` runs (the library has them)
abbrev pub GivesAsNamed : Program → Frame → Frame → Type 0
GivesAsNamed p caller fr = (i : ℕ) (t : Step) (named : MethodId) → slice_get (frame_steps p caller) i ≡ Some t → called_method t.action ≡ Some named
    → (NoObject (result_of (method_at p named)) → NoObject (result_of (method_at p fr.method))) × ((m : MethodId) (d n : ℕ) → t.action ≡ actions.New m d n → MakesText p named → ⊥)

-- of these frames, which wait, each waits for the one above it
abbrev pub GiveAsNamed : Program → Frame → List Frame → Type 0
GiveAsNamed p fr [] = Unit {0}
GiveAsNamed p fr (caller ∷ frs) = GivesAsNamed p caller fr × GiveAsNamed p caller frs

abbrev pub AreCalled : Program → List Frame → Type 0
AreCalled p [] = Unit {0}
AreCalled p (fr ∷ frs) = GiveAsNamed p fr frs

-- no field of a type of no class holds an object
abbrev pub IsStoredNone : (ℕ → Bool) → Program → StoredField → Type 0
IsStoredNone texts p s = NoObject (field_type p s.field) → IsNoObjectBut texts s.value

abbrev pub StoredHoldNone : (ℕ → Bool) → Program → HeapContents → Type 0
StoredHoldNone texts p h = All (λ s. IsStoredNone texts p s) h.fields

-- no place of a type of no class holds an object but one of `texts`: variables and temps of the frames, fields, static fields and elements of arrays
pub record HoldTypes (texts : ℕ → Bool) (p : Program) (c : Config) : Type 0 where
  pub frames : KeepAll texts p c.frames
  pub called : AreCalled p c.frames
  pub fields : StoredHoldNone texts p c.heap
  pub statics : StaticsHoldNone texts c.statics
  pub arrays : ArraysHoldNone texts c.arrays

-- ---- texts that are objects

abbrev pub is_text_class : Program → Option ClassId → Bool
is_text_class p None = false
is_text_class p (Some c) = is_class c p.core.string

-- the object is there, and is one of class `String`
abbrev pub is_text : Program → HeapContents → ℕ → Bool
is_text p h n = is_text_class p (object_class h n)

-- the value is no object, or one of class `String`
abbrev pub IsNoObjectButText : Program → HeapContents → Value → Type 0
IsNoObjectButText p h v = IsNoObjectBut (is_text p h) v

-- no place of a type of no class holds an object but of class `String`
abbrev pub HaveTypes : Program → Config → Type 0
HaveTypes p c = HoldTypes (is_text p c.heap) p c

-- ---- objects that are there

abbrev pub HoldsWhatIsThere : HeapContents → Locals → Type 0
HoldsWhatIsThere h l = (d k : ℕ) → number_of (temp_value l d) ≡ Some k → object_at h k ≡ None → ⊥

-- where a temp of the top frame holds an object, it is one that is there
abbrev pub TopHoldsWhatIsThere : HeapContents → List Frame → Type 0
TopHoldsWhatIsThere h [] = Unit {0}
TopHoldsWhatIsThere h (fr ∷ frs) = HoldsWhatIsThere h fr.locals

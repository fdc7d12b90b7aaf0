-- The laws on stores and on the ends of frames, each under its name.
use Rattle.std.proofs.Common.{◌≡◌, Bool, ◌⊎◌, ℕ, true, false, Some, None, List, slice_get}
use Rattle.std.specs.FinSet as set
use Rattle.program_model.specs.declared.kinds.FieldId.{FieldId}
use Rattle.program_model.specs.declared.program.Method.{Method}
use Rattle.program_model.specs.declared.program.Program.{Program}
use Rattle.program_model.specs.Lookups.{method_at}
use Rattle.ledger_obligations.specs.Bodies.{alias_position, constructs, has_field_place, is_alias_constructor, is_finalizer}
use Rattle.java_control.specs.Control.{Step}
use Rattle.control_actions.specs.declared.action.Action.TheVariants as actions
use Rattle.control_actions.specs.declared.action.Completion.{Completion}
use Rattle.value_laws.specs.Accept.{Accept}
use Rattle.value_laws.specs.Ends.{is_throw}
use Rattle.ledger_state.specs.Contents.{HeapContents}
use Rattle.ledger_state.specs.Heaps.{root_of}
use Rattle.ledger_state.specs.Locals.{temp_value}
use Rattle.ledger_state.specs.declared.object.Object.{Object}
use Rattle.ledger_obligations.specs.Obligations.{is_unmet}
use Rattle.value_laws.specs.Configuration.{Frame}
use Rattle.value_laws.specs.Choosing.{frame_steps}
use Rattle.value_laws.specs.Agreement.{Stands}
use Rattle.value_laws.specs.PlainForms.{HasPlainForms, StoresPlainly}
use Rattle.value_laws.specs.FieldContents.{promised_on}
use Rattle.value_laws.specs.PlaceFacts.{IsCovered, gives_none, renews_none}
use Rattle.covering_laws.specs.Covering.{HoldsHeavy, IsCountedOn, KeepsFieldsOfThis}
use Rattle.covering_laws.proofs.FrameEnds.{kept_at_end, met_at_throw}
use Rattle.covering_laws.proofs.Storing.{displaced_is_met}

pub overwritten_is_met : (p : Program) → Accept p → HasPlainForms p → (h : HeapContents) (frs : List Frame) (fr : Frame) → (st : Stands p fr) → is_alias_constructor p st.number ≡ false → (old : ℕ → Bool) → IsCovered p h gives_none renews_none old frs fr
    → (i d : ℕ) (s : Step) (f : FieldId) (w o : ℕ) (x : Object) → slice_get (frame_steps p fr) i ≡ Some s → s.action ≡ actions.PutOwn f d → StoresPlainly p (method_at p fr.method) f
    → HoldsHeavy p h fr w f o x → (root_of h (temp_value fr.locals d) ≡ Some o → ⊥) → is_unmet x ≡ false
overwritten_is_met p ac forms h frs fr st plain old covered i d s f w o x here is plainly holds apart = displaced_is_met p ac forms h old frs fr st covered i d s f here is plainly plain w o x holds apart

pub promises_are_kept_at_end : (p : Program) → Accept p → (h : HeapContents) (frs : List Frame) (fr : Frame) → (st : Stands p fr) → (old : ℕ → Bool) → IsCovered p h gives_none renews_none old frs fr
    → (i : ℕ) (s : Step) (q : Completion) (m : Method) (f : FieldId) (w o : ℕ) (x : Object) → slice_get (frame_steps p fr) i ≡ Some s → s.action ≡ actions.End q
    → method_at p fr.method ≡ Some m → constructs (method_at p fr.method) ≡ false → has_field_place p st.number f ≡ true → (is_throw q ≡ false) ⊎ (is_finalizer p st.number ≡ true)
    → HoldsHeavy p h fr w f o x → IsCountedOn p h old frs fr o x → KeepsFieldsOfThis p frs fr → x.finished ≡ true → set.is_subset (promised_on f m) x.called ≡ true
promises_are_kept_at_end p ac h frs fr st old covered i s q m f w o x here is named plain place way holds apart keeps done = kept_at_end p ac h frs fr st old covered i s q f w o x here is place holds done plain apart keeps m named way

pub contents_are_met_at_throw : (p : Program) → Accept p → (h : HeapContents) (frs : List Frame) (fr : Frame) → (st : Stands p fr) → (old : ℕ → Bool) → IsCovered p h gives_none renews_none old frs fr
    → (i : ℕ) (s : Step) (q : Completion) (f : FieldId) (w o : ℕ) (x : Object) → slice_get (frame_steps p fr) i ≡ Some s → s.action ≡ actions.End q
    → alias_position p st.number ≡ None → is_throw q ≡ true → constructs (method_at p fr.method) ≡ true → has_field_place p st.number f ≡ true → HoldsHeavy p h fr w f o x → is_unmet x ≡ false
contents_are_met_at_throw p ac h frs fr st old covered i s q f w o x here is plain throws makes place holds = met_at_throw p ac h frs fr st old covered i s q f w o x here is place holds plain throws makes

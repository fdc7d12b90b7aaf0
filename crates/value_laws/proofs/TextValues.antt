-- What another operator than `=` stores into an owning field is a text that the operator has made: it is no object.
use Rattle.std.proofs.Common.{◌≡◌, ℕ, ◌+◌, Bool, true, false, true≢false, Option, Some, None, slice_get, refl, sym, ap, ◌∙◌, subst, eqb-true}
use Rattle.program_model.specs.declared.kinds.ClassId.{ClassId}
use Rattle.program_model.specs.declared.kinds.FieldId.{FieldId}
use Rattle.program_model.specs.declared.program.Program.{Program}
use Rattle.program_model.specs.SuperTests.{is_under}
use Rattle.java_control.specs.Control.{Step}
use Rattle.java_control.specs.Owned.{is_owning}
use Rattle.control_actions.specs.declared.action.Action.{Action}
use Rattle.control_actions.specs.declared.action.Action.TheVariants as actions
use Rattle.ledger_state.specs.Contents.{HeapContents}
use Rattle.ledger_state.specs.Locals.{temp_value}
use Rattle.ledger_state.specs.Values.{number_of}
use Rattle.ledger_state.specs.declared.value.Value.{Value}
use Rattle.ledger_state.specs.declared.value.Value.TheVariants as values
use Rattle.ledger_moves.specs.Configuration.{Frame}
use Rattle.ledger_moves.specs.Choosing.{frame_steps}
use Rattle.frame_laws.specs.Paths.{move_of}
use Rattle.dispatch_laws.specs.Accept.{Accept}
use Rattle.dispatch_laws.specs.ClassOperands.{IsNotAboveString}
use Rattle.dispatch_laws.specs.Operands.{Fits, NoObject, field_type}
use Rattle.dispatch_laws.specs.PlainForms.{HasPlainForms, IsTextUpdate}
use Rattle.dispatch_laws.specs.Values.{IsNoObjectBut, temp_holds_none}
use Rattle.value_laws.specs.ClassValues.{FrameFitsClass}
use Rattle.value_laws.specs.Objects.{object_class}
use Rattle.value_laws.specs.Types.{KeepsTypes, is_text, is_text_class}
use Rattle.value_laws.specs.Values.{FitsClass, HasClassUnder}
use Rattle.value_laws.proofs.ClassArguments.{updated_fits}
use Rattle.value_laws.proofs.ClassBegun.{step_there}
use Rattle.value_laws.proofs.ValueTypeBegun.{fits}

-- a value that is no object but of class `String`, and none but of another class, is no object
no_object : (p : Program) (bound : ClassId) (h : HeapContents) (v : Value) → IsNotAboveString p bound → FitsClass p bound h v → IsNoObjectBut (is_text p h) v → number_of v ≡ None
no_object p bound h (values.Object k) apart fits' text = go (object_class h k) fits' text
  where
    go : (c : Option ClassId) → HasClassUnder p bound c → is_text_class p c ≡ true → ◌≡◌ {A = Option ℕ} (Some k) None
    go None under is = absurd under
    go (Some c) under is =
        let same : c ≡ p.core.string = ap (λ (n : ℕ). (let z : ClassId = record { 0 = n } in z)) (eqb-true c.0 p.core.string.0 is) in
        absurd (true≢false (sym under ∙ ap (λ (z : ClassId). is_under p z bound) same ∙ apart))
no_object p bound h values.Nothing apart fits' text = refl
no_object p bound h v apart fits' text = refl

module _ (p : Program) (ac : Accept p) (forms : HasPlainForms p) (apart : IsNotAboveString p p.core.throwable) (h : HeapContents) (fr : Frame) (classes : FrameFitsClass p p.core.throwable h fr) (keeps : KeepsTypes (is_text p h) p fr)
    (i : ℕ) (s : Step) (here : slice_get (frame_steps p fr) i ≡ Some s) (f : FieldId) (d : ℕ) (through_this : Bool) (is : s.action ≡ actions.Put f d through_this) (owning : is_owning p f ≡ true) where
  update : IsTextUpdate p classes.body f through_this
  update = forms.updates classes.number classes.body i (move_of s) f d through_this classes.at classes.control (step_there p p.core.throwable ac apart h fr classes i s here) is owning

  pub field_of_texts : NoObject (field_type p f)
  field_of_texts = subst NoObject (sym update.2) refl

  pub stored_is_no_object : number_of (temp_value fr.locals (d + 1)) ≡ None
  stored_is_no_object =
      no_object p p.core.throwable h (temp_value fr.locals (d + 1)) apart
      (updated_fits p p.core.throwable ac apart h fr classes i s here f d (is ∙ ap (actions.Put f d) update.0) owning update.1 update.2)
      (subst (λ (a : Action). Fits p keeps.body a (temp_holds_none (is_text p h) fr.locals)) is (fits (is_text p h) p ac fr keeps i s here) field_of_texts)

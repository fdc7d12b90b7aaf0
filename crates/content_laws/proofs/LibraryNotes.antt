-- A call of the library is noted on no object that owns its contents: such an object runs its own must-call methods.
use Rattle.std.specs.FinSet as set
use Rattle.std.proofs.Common.{◌≡◌, ℕ, true, true≢false, Option, Some, None, List, refl, sym, ap, ◌∙◌, inl, inr}
use Rattle.rlc_base.specs.declared.name_id.NameId.{NameId}
use Rattle.program_model.specs.declared.kinds.ClassId.{ClassId}
use Rattle.program_model.specs.declared.kinds.FieldId.{FieldId}
use Rattle.program_model.specs.declared.kinds.MethodId.{MethodId}
use Rattle.program_model.specs.declared.program.Method.{Method}
use Rattle.program_model.specs.declared.program.Program.{Program}
use Rattle.program_model.specs.Lookups.{method_at}
use Rattle.program_model.specs.Overrides.{is_library}
use Rattle.program_model.specs.SuperTests.{is_under}
use Rattle.must_call_sets.specs.MustCallSets.{must_of}
use Rattle.java_control.specs.Calls.{called_method}
use Rattle.java_control.specs.Control.{Step}
use Rattle.control_actions.specs.declared.action.Action.{Action}
use Rattle.control_actions.specs.declared.action.Action.TheVariants as actions
use Rattle.stub_conduct.specs.declared.choice.Conduct.{Conduct}
use Rattle.ledger_state.specs.Classes.{class_in, runtime_class}
use Rattle.ledger_state.specs.Contents.{HeapContents}
use Rattle.ledger_state.specs.declared.array.ArrayObject.{ArrayObject}
use Rattle.ledger_state.specs.declared.object.Object.{Object}
use Rattle.ledger_state.specs.declared.value.Value.{Value}
use Rattle.ledger_state.specs.declared.value.Value.TheVariants as values
use Rattle.ledger_obligations.specs.Obligations.{is_library_method}
use Rattle.ledger_steps.specs.LedgerCallsCalls.{by_form, form_of, interest_in, operand_of}
use Rattle.covering_laws.specs.Configuration.{Frame}
use Rattle.covering_laws.specs.Choosing.{frame_steps}
use Rattle.covering_laws.specs.Moves.{fits_target}
use Rattle.covering_laws.specs.PlainForms.{HasPlainForms, may_be_made, run_by}
use Rattle.covering_laws.specs.Nexts.{IsConstantRead, IsLibraryMove}
use Rattle.covering_laws.specs.FieldContents.{IsContent, is_chosen_by_class}
use Rattle.content_laws.specs.Going.{IsNotedBy}
use Rattle.content_laws.proofs.Ends.{receiver_object, same_name}
use Rattle.content_laws.proofs.ContentFrames.{runs_by_class, target_is_under}

-- the target of a call chooses its method where it has one: a constant has none
not_constant : (a : Action) → IsConstantRead a → is_chosen_by_class (form_of a) ≡ true → ⊥
not_constant actions.Skip is chosen = is
not_constant (actions.Plain q v) is chosen = true≢false (sym chosen)
not_constant a is chosen = is

pub no_library_note : (p : Program) → HasPlainForms p → (h : HeapContents) (arrays : List ArrayObject) (fr : Frame) (named runs : MethodId) (x : Conduct) (s : Step)
    → IsLibraryMove p h arrays fr.locals (frame_steps p fr) named runs x s → (frs : List Frame) (o : ℕ) (y : Object) (w : ℕ) (f : FieldId) (content : IsContent p frs h o y w f)
    → (m : MethodId) (d : Method) (name : NameId) → method_at p m ≡ Some d → d.class ≡ content.holder.class → d.sig.interest ≡ Some name
    → set.contains (must_of p content.holder.class) name.0 ≡ true → IsNotedBy fr.locals s.action (method_at p named) w name.0 → ⊥
no_library_note p forms' h arrays fr named runs x s next frs o y w f content m d name at class interest must noted = go (method_at p named) refl
  where
    calls : called_method s.action ≡ Some named
    calls = elim next.row [
      | inl call ↦ call.1
      | inr constant ↦ absurd (not_constant s.action constant noted.chosen)
    ]

    target : operand_of fr.locals s.action 0 ≡ values.Object w
    target = receiver_object w (operand_of fr.locals s.action 0) noted.receiver

    by_target : by_form p h named (form_of s.action) (operand_of fr.locals s.action 0) ≡ run_by p named content.holder.class
    by_target = ap (by_form p h named (form_of s.action)) target ∙ runs_by_class p h arrays named (form_of s.action) w content.holder noted.chosen content.at

    go : (n : Option Method) → method_at p named ≡ n → ⊥
    go None none = let never : None ≡ Some noted.name = sym (ap interest_in none) ∙ noted.interest in cc
    go (Some n) named_at = true≢false (sym in_library ∙ ap (is_library p) (class ∙ content.class) ∙ content.program)
      where
        fits : fits_target p h arrays (Some n) (form_of s.action) (values.Object w) ≡ true
        fits = ap (λ (v : Value). fits_target p h arrays (Some n) (form_of s.action) v) (sym target)
            ∙ ap (λ (z : Option Method). fits_target p h arrays z (form_of s.action) (operand_of fr.locals s.action 0)) (sym named_at) ∙ (next.ran calls).1

        is_in : is_under p content.holder.class n.class ≡ true
        is_in = target_is_under p h arrays n (form_of s.action) w content.holder noted.chosen content.at fits

        named_interest : n.sig.interest ≡ Some name
        named_interest = ap interest_in (sym named_at) ∙ noted.interest ∙ ap Some (same_name noted.name name noted.number)

        itself : run_by p named d.class ≡ m
        itself = forms'.own named m n d f content.field name named_at at
            (ap (may_be_made p) class ∙ (next.ran calls).2 content.holder.class (ap (runtime_class p h) target ∙ ap class_in content.at)) content.declared content.owning (sym (class ∙ content.class)) named_interest interest
            (ap (λ (c : ClassId). set.contains (must_of p c) name.0) class ∙ must) (ap (λ (c : ClassId). is_under p c n.class) class ∙ is_in)

        in_library : is_library p d.class ≡ true
        in_library = ap (is_library_method p) (sym (ap (method_at p) (by_target ∙ ap (run_by p named) (sym class) ∙ itself) ∙ at)) ∙ (next.ran calls).0

-- A call of the program ends that counts for the one name of the class of its receiver, which a constructor has linked: the class's own method ran, and
-- called this name on what the field of the link holds.
use Rattle.std.proofs.Common.{◌≡◌, ◌∙◌, ap, refl, sym, inr, ℕ, Bool, true, false, true≢false, not, ◌||◌, eq-eqb, Option, Some, None, List, ◌∷◌, slice_get}
use Rattle.std.specs.FinSet as set
use Rattle.rlc_base.proofs.SetLaws.{within_at}
use Rattle.rlc_base.specs.declared.name_id.NameId.{NameId}
use Rattle.program_model.specs.declared.kinds.ClassId.{ClassId}
use Rattle.program_model.specs.declared.kinds.FieldId.{FieldId}
use Rattle.program_model.specs.declared.kinds.MethodId.{MethodId}
use Rattle.program_model.specs.declared.program.Field.{Field}
use Rattle.program_model.specs.declared.program.Method.{Method}
use Rattle.program_model.specs.declared.program.Program.{Program}
use Rattle.program_model.specs.declared.program.Promise.{Promise}
use Rattle.program_model.specs.Lookups.{field_at, method_at}
use Rattle.program_model.specs.SuperTests.{is_class, is_under}
use Rattle.ledger_obligations.specs.Bodies.{constructs, has_field_place, is_constructor_kind, is_field_in, is_finalizer, is_finalizer_in, method_in, method_of}
use Rattle.ledger_obligations.specs.MustCallSets.{is_empty, is_heavy_class, must_of, must_of_optional}
use Rattle.ownership_rules.specs.Signatures.{is_of_field, promised_names, type_of_field}
use Rattle.java_control.specs.Calls.{called_method}
use Rattle.java_control.specs.Control.{Step}
use Rattle.java_control.specs.Owned.{is_owning_field}
use Rattle.control_actions.specs.declared.action.Action.{Action}
use Rattle.control_actions.specs.declared.action.Action.TheVariants as actions
use Rattle.control_actions.specs.declared.action.Completion.{Completion}
use Rattle.control_actions.specs.declared.action.TargetForm.{TargetForm}
use Rattle.control_actions.specs.declared.action.TargetForm.TheVariants as forms
use Rattle.value_laws.specs.Accept.{Accept}
use Rattle.ledger_state.specs.Classes.{class_in}
use Rattle.ledger_state.specs.Contents.{HeapContents}
use Rattle.ledger_state.specs.Fields.{field_value}
use Rattle.ledger_state.specs.Heaps.{object_at, root_of}
use Rattle.ledger_state.specs.Values.{number_of}
use Rattle.ledger_state.specs.declared.locals.Locals.{Locals}
use Rattle.ledger_state.specs.declared.object.Link.{Link}
use Rattle.ledger_state.specs.declared.object.Object.{Object}
use Rattle.ledger_state.specs.declared.value.Value.TheVariants as values
use Rattle.ledger_obligations.specs.declared.note.Note.{Note}
use Rattle.ledger_obligations.specs.Obligations.{has_note, is_the_one, note}
use Rattle.ledger_steps.specs.LedgerCallsCalls.{form_of, interest_in, note_by_form, operand_of, receiver_note}
use Rattle.value_laws.specs.Configuration.{Frame}
use Rattle.value_laws.specs.Choosing.{frame_steps}
use Rattle.value_laws.specs.Heaps.{HasEarlierLinks}
use Rattle.value_laws.specs.Leading.{CallsOnField, Leads, by_library, by_program, goes_on_from, here, is_passed_on}
use Rattle.value_laws.proofs.HeapLaws.{leading_links-root}
use Rattle.value_laws.specs.Agreement.{HasMadeClasses, Stands}
use Rattle.value_laws.specs.PlainForms.{HasPlainForms, run_by}
use Rattle.covering_laws.specs.Covering.{HoldsHeavy, IsCountedOn}
use Rattle.value_laws.specs.FieldContents.{IsDispatched, is_chosen_by_class, promised_on}
use Rattle.value_laws.specs.PlaceFacts.{IsCovered, gives_none, OwesOrHolds, renews_none}
use Rattle.value_laws.proofs.Names.{of_interest}
use Rattle.covering_laws.proofs.CoveredFieldLaws.{promises_are_kept_at_end}
use Rattle.covering_laws.proofs.SaidFacts.{finalizer_keeps}
use Rattle.covering_laws.proofs.OwnMethods.{IsOwn, own, own_class, own_must, own_runs, promised_own}

-- a note is made of a call alone whose method the class of the target chooses
pub chosen_by_note : (l : Locals) (a : Action) (m : Option Method) (n : Note) → has_note (receiver_note l a m) n ≡ true → is_chosen_by_class (form_of a) ≡ true
chosen_by_note l a m n noted = go (form_of a) noted
  where
    go : (f : TargetForm) → has_note (note_by_form f (number_of (operand_of l a 0)) (interest_in m)) n ≡ true → is_chosen_by_class f ≡ true
    go forms.Static none = absurd (true≢false (sym none))
    go forms.Super none = absurd (true≢false (sym none))
    go forms.This some = refl
    go forms.Other some = refl

-- ---- the end of the call

module _ (p : Program) (ac : Accept p) (forms' : HasPlainForms p) (h : HeapContents) (links : HasEarlierLinks h) (fr caller : Frame) (rest : List Frame) (st : Stands p fr) (old : ℕ → Bool) (covered : IsCovered p h gives_none renews_none old (caller ∷ rest) fr)
    (i : ℕ) (s : Step) (q : Completion) (there : slice_get (frame_steps p fr) i ≡ Some s) (is : s.action ≡ actions.End q) (j : ℕ) (t : Step) (waits : slice_get (frame_steps p caller) j ≡ Some t)
    (named : MethodId) (n : Method) (called : called_method t.action ≡ Some named) (named_at : method_at p named ≡ Some n) (dispatched : IsDispatched p h fr caller) (name : NameId)
    (interest : n.sig.interest ≡ Some name) (chosen : is_chosen_by_class (form_of t.action) ≡ true) (o : ℕ) (y : Object) (now : object_at h o ≡ Some y) (heavy : is_heavy_class p y.class ≡ true)
    (owes : OwesOrHolds p h o y) (done : y.finished ≡ true) (made : HasMadeClasses p h) (spared : IsCountedOn p h old (caller ∷ rest) fr o y) where
  module _ (k c : ℕ) (x : Object) (f : FieldId) (field : Field) (target : operand_of caller.locals t.action 0 ≡ values.Object k) (at : object_at h k ≡ Some x) (declared : field_at p f ≡ Some field)
      (owning : field.owning ≡ true) (calls : CallsOnField p x.class f) (held : field_value p h k f ≡ values.Object c) (inner : Leads p h c o) (one : is_the_one (must_of p x.class) name ≡ true) where
    abbrev its : IsOwn p x.class name
    its = own p ac forms' x.class f field declared owning calls name one

    abbrev d : Method
    d = its.method

    class : d.class ≡ x.class
    class = own_class p ac forms' x.class f field declared owning calls name one

    run : (fr.method ≡ run_by p named x.class) × (is_under p x.class n.class ≡ true) × (fr.locals.this ≡ values.Object k)
    run = dispatched j t named n k x waits called named_at chosen target at

    method : method_at p fr.method ≡ Some d
    method = ap (method_at p) (run.0 ∙ own_runs p ac forms' x.class f field declared owning calls name one (made (values.Object k) x.class (ap class_in at)) named n named_at interest run.1) ∙ its.at

    no_constructor : constructs (method_at p fr.method) ≡ false
    no_constructor = ap constructs method ∙ ap is_constructor_kind (of_interest p ac.well_formed its.number d name its.at its.interest).instance

    body_method : method_of p st.number ≡ Some d
    body_method = ap (method_in p) st.at ∙ ap (method_at p) st.method ∙ method

    place : has_field_place p st.number f ≡ true
    place = ap (is_field_in p st.number) declared ∙ rw (owning, body_method) (same_class d.class field.class (class ∙ sym (calls.0 field declared).0))
      where
        same_class : (a b : ClassId) → a ≡ b → is_class b a ≡ true
        same_class a b same = ap (is_class b) same ∙ eq-eqb b.0 b.0 refl

    finalizer : is_finalizer p st.number ≡ true
    finalizer = ap (is_finalizer_in p) body_method ∙ rw its.interest (own_must p ac forms' x.class f field declared owning calls name one)

    holds : HoldsHeavy p h fr k f o y
    holds = record {
      this = run.2;
      owning = ap is_owning_field declared ∙ owning;
      heavy = ap (λ (z : Option Field). not (is_empty (must_of_optional p (type_of_field z)))) declared ∙ ap not (calls.0 field declared).1;
      held = ap (root_of h) held ∙ ap Some (leading_links-root p h c o links inner);
      at = now;
      class = heavy;
      owes = owes;
    }

    name_called : set.contains y.called name.0 ≡ true
    name_called = within_at (promised_on f d) y.called (promises_are_kept_at_end p ac h (caller ∷ rest) fr st old covered i s q d f k o y there is method no_constructor place (inr finalizer) holds spared (finalizer_keeps p ac (caller ∷ rest) fr its.number d name its.at its.interest method) done) name.0
        (ap (λ (us : List Promise). set.contains (promised_names (λ u. is_of_field u f) us) name.0) (sym its.promises) ∙ promised_own p ac forms' x.class f field declared owning calls name one)

  -- a name that the link of the receiver stops was called on its root
  pub own_name_called : (k : ℕ) (x : Object) → operand_of caller.locals t.action 0 ≡ values.Object k → object_at h k ≡ Some x → Leads p h k o → is_passed_on p (note false k name) x ≡ false
      → set.contains y.called name.0 ≡ true
  own_name_called k x target at leads stopped = by k target at leads stopped
    where
      one_of : (b c : Bool) → (b || not c) ≡ false → c ≡ true
      one_of true c is' = absurd (true≢false is')
      one_of false true is' = refl
      one_of false false is' = absurd (true≢false is')

      same_object : (k' : ℕ) (z : Object) → object_at h k' ≡ Some x → object_at h k' ≡ Some z → x ≡ z
      same_object k' z first second = let both : Some x ≡ Some z = sym first ∙ second in (let same : x ≡ z = cc in same)

      stops : (z : Object) (l : Option Link) → x ≡ z → z.link ≡ l → goes_on_from p name x x.link ≡ false → goes_on_from p name z l ≡ false
      stops z l same link off = ap (goes_on_from p name z) (sym link) ∙ ap (λ (u : Object). goes_on_from p name u u.link) (sym same) ∙ off

      by : (k' : ℕ) → operand_of caller.locals t.action 0 ≡ values.Object k' → object_at h k' ≡ Some x → Leads p h k' o → goes_on_from p name x x.link ≡ false → set.contains y.called name.0 ≡ true
      by _ target' at' (here k' z there' none) off = absurd (true≢false (stops z None (same_object k' z at' there') none off))
      by _ target' at' (by_library k' r z l there' some library rest) off =
          absurd (true≢false (sym (ap (λ (b : Bool). b || not (is_the_one (must_of p z.class) name)) library) ∙ stops z (Some l) (same_object k' z at' there') some off))
      by _ target' at' (by_program k' c r z l f field there' some declared owning calls held rest inner) off =
          name_called k' c z f field target' there' declared owning calls held inner
          (one_of l.by_library (is_the_one (must_of p z.class) name) (stops z (Some l) (same_object k' z at' there') some off))

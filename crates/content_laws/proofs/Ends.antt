-- The end of a frame and of the call at which the frame below waits.
use Rattle.covering_laws.specs.Renewing.{is_renewed, renews_at}
use Rattle.covering_laws.specs.Outcomes.{IsCallRow}
use Rattle.covering_laws.specs.Callees.{callee_in}
use Rattle.covering_laws.proofs.SaidFacts.{finalizer_keeps}
use Rattle.covering_laws.proofs.WaitingTargets.{renewed_at_step}
use Rattle.content_laws.proofs.MustCallMethods.{must_call_resets_none}
use Rattle.std.specs.Prelude.{◌&&◌, not}
use Rattle.std.specs.FinSet as set
use Rattle.std.specs.List.{list_all}
use Rattle.std.proofs.Common.{inl, ◌≡◌, ℕ, Bool, true, false, true≢false, Option, Some, None, IsSomeAnd, Contains, List, ◌∷◌, slice_get, refl, sym, ap, ◌∙◌, inr, eq-eqb, subst}
use Rattle.rlc_base.proofs.SetLaws.{within_trans}
use Rattle.rlc_base.specs.declared.name_id.NameId.{NameId}
use Rattle.program_model.specs.declared.kinds.ClassId.{ClassId}
use Rattle.program_model.specs.declared.kinds.FieldId.{FieldId}
use Rattle.program_model.specs.declared.kinds.MethodId.{MethodId}
use Rattle.program_model.specs.declared.program.Class.{Class}
use Rattle.program_model.specs.declared.program.Field.{Field}
use Rattle.program_model.specs.declared.program.Method.{Method}
use Rattle.program_model.specs.declared.program.ParamSig.{ParamSig}
use Rattle.program_model.specs.declared.program.Program.{Program}
use Rattle.program_model.specs.Lookups.{class_at, field_at, method_at}
use Rattle.program_model.specs.SuperTests.{is_class, is_under}
use Rattle.must_call_sets.specs.Bodies.{constructs, has_field_place, is_constructor_kind, is_field_in, is_finalizer, is_finalizer_in, method_in, method_of, reset_in}
use Rattle.must_call_sets.specs.MustCallSets.{is_empty, is_heavy_class, must_of, must_of_optional, must_of_type, no_names}
use Rattle.must_call_sets.specs.Signatures.{has_name, is_present, type_of_field}
use Rattle.program_model.specs.Hierarchy.{itself as itself_under}
use Rattle.program_model.proofs.HierarchyLaws.{is_under_law}
use Rattle.java_control.specs.Calls.{called_method}
use Rattle.java_control.specs.Control.{Step}
use Rattle.java_control.specs.Owned.{is_owning_field}
use Rattle.control_actions.specs.declared.action.Action.TheVariants as actions
use Rattle.control_actions.specs.declared.action.Completion.{Completion}
use Rattle.covering_laws.specs.Accept.{Accept}
use Rattle.ledger_state.specs.Classes.{class_in}
use Rattle.ledger_state.specs.Contents.{HeapContents}
use Rattle.ledger_state.specs.Heaps.{object_at}
use Rattle.ledger_state.specs.Values.{number_of}
use Rattle.ledger_state.specs.declared.entry.Owner.TheVariants as owners
use Rattle.ledger_state.specs.declared.object.Object.{Object}
use Rattle.ledger_state.specs.declared.value.Value.{Value}
use Rattle.ledger_state.specs.declared.value.Value.TheVariants as values
use Rattle.ledger_obligations.specs.Obligations.{is_library_owner}
use Rattle.ledger_steps.specs.LedgerCallsCalls.{operand_of}
use Rattle.covering_laws.specs.Configuration.{Frame}
use Rattle.covering_laws.specs.Choosing.{frame_steps}
use Rattle.covering_laws.specs.Agreement.{HasMadeClasses, Stands}
use Rattle.covering_laws.specs.PlainForms.{HasPlainForms, is_lent_parameter, may_be_made, run_by}
use Rattle.covering_laws.specs.Heaps.{GoesOn}
use Rattle.covering_laws.specs.Covering.{HoldsHeavy}
use Rattle.covering_laws.proofs.CoveredFieldLaws.{promises_are_kept_at_end}
use Rattle.covering_laws.proofs.Names.{of_interest}
use Rattle.covering_laws.specs.FieldContents.{IsContent, IsDispatched, promised_on}
use Rattle.covering_laws.specs.PlaceFacts.{IsAnswered, IsCovered, IsOld, IsSpared, gives_none, is_heavy_in, leaves_all, renews_none, takes_nothing}
use Rattle.content_laws.proofs.Goes.{not_the_librarys_owes}
use Rattle.content_laws.specs.Going.{IsNotedBy}

-- ---- what a content with an obligation is

-- the type of a field that bounds the obligation of a class has one, where the class has
pub heavy_field_by : (p : Program) (f : FieldId) (field : Field) → field_at p f ≡ Some field → (c : ClassId) → is_heavy_class p c ≡ true → set.is_subset (must_of p c) (must_of_type p field.vtype) ≡ true → is_heavy_in p (Some f) ≡ true
heavy_field_by p f field declared c heavy within = ap (λ (y : Option Field). not (is_empty (must_of_optional p (type_of_field y)))) declared ∙ go (is_empty (must_of_type p field.vtype)) refl
  where
    go : (b : Bool) → is_empty (must_of_type p field.vtype) ≡ b → not (is_empty (must_of_type p field.vtype)) ≡ true
    go true light = absurd (true≢false (sym heavy ∙ ap not (within_trans (must_of p c) (must_of_type p field.vtype) no_names within light)))
    go false some = ap not some

module _ (p : Program) (h : HeapContents) (frs : List Frame) (fr : Frame) (o : ℕ) (x : Object) (w : ℕ) (f : FieldId) (content : IsContent p frs h o x w f) (at : object_at h o ≡ Some x)
    (class' : is_heavy_class p x.class ≡ true) (owner : x.owner ≡ owners.Field w f) (this : fr.locals.this ≡ values.Object w) where
  pub holds_heavy : HoldsHeavy p h fr w f o x
  holds_heavy = record {
    this = this;
    owning = ap is_owning_field content.declared ∙ content.owning;
    heavy = heavy_field_by p f content.field content.declared x.class class' content.bounded;
    held = content.held;
    at = at;
    class = class';
    owes = inl (not_the_librarys_owes x (ap is_library_owner owner));
  }

pub receiver_object : (w : ℕ) (v : Value) → number_of v ≡ Some w → v ≡ values.Object w
receiver_object w (values.Object k) is = ap values.Object (let both : Some k ≡ Some w = is in (let one : k ≡ w = cc in one))
receiver_object w values.Nothing is = absurd (let never : None ≡ Some w = is in cc)
receiver_object w v is = absurd (let never : None ≡ Some w = is in cc)

pub same_name : (a b : NameId) → a.0 ≡ b.0 → a ≡ b
same_name a b same = ap (λ (k : ℕ). (let z : NameId = record { 0 = k } in z)) same

-- ---- the promise of the method that ends

module _ (p : Program) (ac : Accept p) (forms' : HasPlainForms p) (h : HeapContents) (fr caller : Frame) (frs : List Frame) (st : Stands p fr) (below : Stands p caller) (old : ℕ → Bool) (aged : IsOld p h (caller ∷ frs) fr old)
    (covered : IsCovered p h gives_none renews_none old (caller ∷ frs) fr)
    (i : ℕ) (s : Step) (q : Completion) (here : slice_get (frame_steps p fr) i ≡ Some s) (is : s.action ≡ actions.End q) (j : ℕ) (t : Step) (there : slice_get (frame_steps p caller) j ≡ Some t) (row : IsCallRow t.action)
    (named : MethodId) (n : Method) (called : called_method t.action ≡ Some named) (named_at : method_at p named ≡ Some n) (dispatched : IsDispatched p h fr caller) (made : HasMadeClasses p h) where
  pub promise_is_kept : (o : ℕ) (x y : Object) (w : ℕ) (f : FieldId) → object_at h o ≡ Some x → is_heavy_class p x.class ≡ true → x.finished ≡ true → GoesOn x y → x.owner ≡ owners.Field w f → (content : IsContent p (fr ∷ caller ∷ frs) h o x w f)
      → (m : MethodId) (d : Method) (name : NameId) → method_at p m ≡ Some d → d.class ≡ content.holder.class → d.sig.interest ≡ Some name
      → set.contains (must_of p content.holder.class) name.0 ≡ true → IsNotedBy caller.locals t.action (Some n) w name.0 → IsAnswered h o → set.is_subset (promised_on f d) y.called ≡ true
  promise_is_kept o x y w f at heavy done goes owner content m d name there' class interest must noted answered =
      within_trans (promised_on f d) x.called y.called
      (promises_are_kept_at_end p ac h (caller ∷ frs) fr st old covered i s q d f w o x here is method no_constructor place (inr finalizer) (holds_heavy p h (fr ∷ caller ∷ frs) fr o x w f content at heavy owner run.2)
      (was_old, spared, answered)
      (finalizer_keeps p ac (caller ∷ frs) fr m d name there' interest method) done)
      goes.called
    where
      target : operand_of caller.locals t.action 0 ≡ values.Object w
      target = receiver_object w (operand_of caller.locals t.action 0) noted.receiver

      run : (fr.method ≡ run_by p named content.holder.class) × (is_under p content.holder.class n.class ≡ true) × (fr.locals.this ≡ values.Object w)
      run = dispatched j t named n w content.holder there called named_at noted.chosen target content.at

      named_interest : n.sig.interest ≡ Some name
      named_interest = noted.interest ∙ ap Some (same_name noted.name name noted.number)

      itself : run_by p named d.class ≡ m
      itself = forms'.own named m n d f content.field name named_at there' (ap (may_be_made p) class ∙ made (values.Object w) content.holder.class (ap class_in content.at)) content.declared content.owning (sym content.class ∙ sym class) named_interest interest
          (ap (λ (c : ClassId). set.contains (must_of p c) name.0) class ∙ must)
          (ap (λ (c : ClassId). is_under p c n.class) class ∙ run.1)

      runs : fr.method ≡ m
      runs = run.0 ∙ ap (run_by p named) (sym class) ∙ itself

      method : method_at p fr.method ≡ Some d
      method = ap (method_at p) runs ∙ there'

      -- a method of interest is no constructor, and has no parameters
      no_constructor : constructs (method_at p fr.method) ≡ false
      no_constructor = ap constructs method ∙ ap is_constructor_kind (of_interest p ac.well_formed m d name there' interest).instance

      class_there : (k : Class) × (class_at p content.holder.class ≡ Some k)
      class_there = go (class_at p d.class) refl (ac.well_formed.valid.typed.methods m d there').listed
        where
          go : (z : Option Class) → class_at p d.class ≡ z → IsSomeAnd z (λ k. Contains k.methods.items m) → (k : Class) × (class_at p content.holder.class ≡ Some k)
          go None none listed = absurd listed
          go (Some z) some listed = (z, ap (class_at p) (sym class) ∙ some)

      -- and it creates nothing anew: it leaves all as it is
      leaves : leaves_all p (method_at p fr.method) ≡ true
      leaves =
          let about = of_interest p ac.well_formed m d name there' interest in
          let own_under : is_under p content.holder.class d.class ≡ true = subst (λ (c : ClassId). is_under p content.holder.class c ≡ true) (sym class) ((is_under_law p ac.well_formed.valid.typed.hierarchy content.holder.class content.holder.class).1 (itself_under content.holder.class)) in
          let none : d.sig.reset ≡ None = must_call_resets_none p ac m d content.holder.class class_there.0 there' class_there.1 own_under (ap (has_name (must_of p content.holder.class)) interest ∙ must) in
          ap (leaves_all p) method
          ∙ ap (λ (b : Bool). not b && takes_nothing p (Some d) && not (is_present d.sig.reset)) (ap is_constructor_kind about.instance)
          ∙ ap (λ (qs : List ParamSig). list_all (λ (a : ParamSig). is_lent_parameter p (Some a)) qs && not (is_present d.sig.reset)) about.bare
          ∙ ap (λ (r : Option ℕ). not (is_present r)) none

      -- so what the field owns was old when the method began
      was_old : old o ≡ true
      was_old = aged.contents o x at (done, heavy) (record { holder = w; field = f; runs = run.2; owns = owner; method = no_constructor }) leaves

      -- and the call creates nothing anew
      resets_none : n.sig.reset ≡ None
      resets_none = must_call_resets_none p ac named n content.holder.class class_there.0 named_at class_there.1 run.1 (ap (has_name (must_of p content.holder.class)) named_interest ∙ must)

      spared : IsSpared p h (caller ∷ frs) o
      spared u z there'' heavy' comes = go (is_renewed p h caller u) refl
        where
          go : (b : Bool) → is_renewed p h caller u ≡ b → is_renewed p h caller u ≡ false
          go false still = still
          go true renewed = absurd (true≢false (sym (renewed_at_step p h caller below j t u there row renewed)
              ∙ ap (λ (r : Option ℕ). renews_at h caller.locals t.action u r) (ap reset_in (ap (callee_in p) called ∙ named_at) ∙ resets_none)))

      body_method : method_of p st.number ≡ Some d
      body_method = ap (method_in p) st.at ∙ ap (method_at p) st.method ∙ method

      place : has_field_place p st.number f ≡ true
      place = ap (is_field_in p st.number) content.declared ∙ rw (content.owning, body_method) (is_same d content.field (class ∙ content.class))
        where
          is_same : (d : Method) (x : Field) → d.class ≡ x.class → is_class x.class d.class ≡ true
          is_same d x same = ap (is_class x.class) same ∙ eq-eqb x.class.0 x.class.0 refl

      finalizer : is_finalizer p st.number ≡ true
      finalizer = ap (is_finalizer_in p) body_method ∙ rw interest (ap (λ (c : ClassId). set.contains (must_of p c) name.0) class ∙ must)

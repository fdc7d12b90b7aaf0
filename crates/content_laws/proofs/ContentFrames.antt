-- The frames after a step: those that go on, and the one that begins.
use Rattle.std.specs.List.{All}
use Rattle.std.proofs.Common.{◌≡◌, ℕ, true, false, true≢false, Option, Some, None, List, [], ◌∷◌, slice_get, refl, sym, ap, ◌∙◌, subst, inl, inr, arith}
use Rattle.std.proofs.lemmas.List.Elements.{All-head, All-tail}
use Rattle.program_model.specs.SuperTests.{is_under}
use Rattle.program_model.specs.declared.kinds.BodyId.{BodyId}
use Rattle.program_model.specs.declared.kinds.ClassId.{ClassId}
use Rattle.program_model.specs.declared.kinds.MethodId.{MethodId}
use Rattle.program_model.specs.declared.program.Method.{Method}
use Rattle.program_model.specs.declared.program.Program.{Program}
use Rattle.program_model.specs.Lookups.{method_at}
use Rattle.must_call_sets.specs.Bodies.{constructs, is_class_of, is_constructor_kind}
use Rattle.java_control.specs.Calls.{called_method}
use Rattle.java_control.specs.Control.{Step}
use Rattle.control_actions.specs.declared.action.Action.{Action}
use Rattle.control_actions.specs.declared.action.Action.TheVariants as actions
use Rattle.control_actions.specs.declared.action.TargetForm.{TargetForm}
use Rattle.control_actions.specs.declared.action.TargetForm.TheVariants as forms
use Rattle.covering_laws.specs.Accept.{Accept}
use Rattle.covering_laws.specs.Paths.{move_of}
use Rattle.ledger_state.specs.Classes.{class_in, is_under_class}
use Rattle.ledger_state.specs.Contents.{HeapContents}
use Rattle.ledger_state.specs.Heaps.{next_number, object_at}
use Rattle.ledger_state.specs.Values.{number_of}
use Rattle.ledger_state.specs.declared.array.ArrayObject.{ArrayObject}
use Rattle.ledger_state.specs.declared.locals.Locals.{Locals}
use Rattle.ledger_state.specs.declared.object.Object.{Object}
use Rattle.ledger_state.specs.declared.value.Value.{Value}
use Rattle.ledger_state.specs.declared.value.Value.TheVariants as values
use Rattle.ledger_steps.specs.LedgerCallsCalls.{argument_values, begun, body_of, by_form, control_in, form_of, operand_of, running}
use Rattle.covering_laws.specs.Configuration.{Frame}
use Rattle.covering_laws.specs.Choosing.{frame_steps}
use Rattle.covering_laws.specs.Moves.{fits_target, is_target_of}
use Rattle.ledger_steps.specs.CallSteps.{began_heap, self_begun}
use Rattle.covering_laws.specs.Agreement.{Stands}
use Rattle.covering_laws.specs.PlainForms.{HasPlainForms, calls_constructor, run_by}
use Rattle.covering_laws.specs.Naming.{IsOfItsKind}
use Rattle.covering_laws.proofs.NamedReached.{names_what_is_there}
use Rattle.covering_laws.proofs.Ready.{step_here, step_there}
use Rattle.covering_laws.proofs.CallWays.{one_action}
use Rattle.covering_laws.proofs.Unmet.{call_may}
use Rattle.covering_laws.proofs.Begun.{begun_from}
use Rattle.covering_laws.specs.Heaps.{HasEarlierLinks}
use Rattle.covering_laws.specs.Nexts.{IsStartMove}
use Rattle.covering_laws.specs.Outcomes.{IsCallRow}
use Rattle.covering_laws.proofs.ObjectLaws.{in_range}
use Rattle.covering_laws.specs.FieldContents.{AreDispatched, AreFresh, AreNew, AreUnfinished, DeclaresOwning, IsDispatched, RunOnOthers, RunsNamed, is_chosen_by_class, is_new}
use Rattle.covering_laws.specs.Ranges.{LocalsInRange}

-- ---- the frame that begins

control_keeps : (p : Program) (b : Option BodyId) (fr : Frame) → ((control_in p b fr).locals ≡ fr.locals) × ((control_in p b fr).method ≡ fr.method)
control_keeps p None fr = (refl, refl)
control_keeps p (Some b) fr = (refl, refl)

pub begun_this : (p : Program) (m : MethodId) (self : Value) (arguments : List Value) → (begun p m self arguments).locals.this ≡ self
begun_this p m self arguments = ap (λ (l : Locals). l.this) (control_keeps p (body_of (method_at p m)) _).0

pub begun_method : (p : Program) (m : MethodId) (self : Value) (arguments : List Value) → (begun p m self arguments).method ≡ m
begun_method p m self arguments = (control_keeps p (body_of (method_at p m)) _).1

run_on_others : (h : HeapContents) (w : ℕ) (frs : List Frame) → All (λ (x : Frame). LocalsInRange h x.locals) frs → w ≡ next_number h → RunOnOthers w frs
run_on_others h w [] in' new = tt
run_on_others h w (fr ∷ frs) in' new =
    ((λ this. not_new (All-head (λ (x : Frame). LocalsInRange h x.locals) fr frs in') this), run_on_others h w frs (All-tail (λ (x : Frame). LocalsInRange h x.locals) fr frs in') new)
  where
    not_new : LocalsInRange h fr.locals → fr.locals.this ≡ values.Object w → ⊥
    not_new here this = let below = (here.this w (ap number_of this)).1 in omega (arith, below, new)

-- ---- the method that a call runs whose target chooses it

module _ (p : Program) (h : HeapContents) (arrays : List ArrayObject) where
  pub runs_by_class : (named : MethodId) (form : TargetForm) (w : ℕ) (x : Object) → is_chosen_by_class form ≡ true → object_at h w ≡ Some x → by_form p h named form (values.Object w) ≡ run_by p named x.class
  unfolding run_by
  runs_by_class named forms.Static w x chosen at = absurd (true≢false (sym chosen))
  runs_by_class named forms.Super w x chosen at = absurd (true≢false (sym chosen))
  runs_by_class named forms.This w x chosen at = rw at refl
  runs_by_class named forms.Other w x chosen at = rw at refl

  is_target : (m : Option Method) (form : TargetForm) (v : Value) → is_chosen_by_class form ≡ true → fits_target p h arrays m form v ≡ true → is_target_of p h arrays m v ≡ true
  is_target m forms.Static v chosen fits = absurd (true≢false (sym chosen))
  is_target m forms.Super v chosen fits = absurd (true≢false (sym chosen))
  is_target m forms.This v chosen fits = fits
  is_target m forms.Other v chosen fits = fits

  pub target_is_under : (n : Method) (form : TargetForm) (w : ℕ) (x : Object) → is_chosen_by_class form ≡ true → object_at h w ≡ Some x → fits_target p h arrays (Some n) form (values.Object w) ≡ true
      → is_under p x.class n.class ≡ true
  target_is_under n form w x chosen at fits = ap (λ (c : Option ClassId). is_under_class p c n.class) (sym (ap class_in at)) ∙ is_target (Some n) form (values.Object w) chosen fits

module _ (p : Program) (ac : Accept p) (forms' : HasPlainForms p) (h : HeapContents) (arrays : List ArrayObject) (fr : Frame) (frs : List Frame) (st : Stands p fr)
    (in' : All (λ (x : Frame). LocalsInRange h x.locals) (fr ∷ frs)) (named runs : MethodId) (a : Action) (next : IsStartMove p h arrays fr.locals (frame_steps p fr) named runs a) where
  abbrev self : Value
  self = self_begun fr.locals a h

  abbrev callee : Frame
  callee = begun p runs self (argument_values fr.locals a (method_at p named))

  this : callee.locals.this ≡ self
  this = begun_this p runs self (argument_values fr.locals a (method_at p named))

  method : callee.method ≡ runs
  method = begun_method p runs self (argument_values fr.locals a (method_at p named))

  -- the action of a step of the frame that stands at the call is the call
  one : (i : ℕ) (s : Step) → slice_get (frame_steps p fr) i ≡ Some s → s.action ≡ a
  one i s here = one_action p st.number fr.control next.index i next.step s (step_here p fr st next.index next.step next.here) (step_here p fr st i s here)
      (call_may next.step.action (subst IsCallRow (sym next.same) next.row)) ∙ next.same

  kind : IsOfItsKind p a
  kind = subst (IsOfItsKind p) next.same
      (names_what_is_there p ac.well_formed.valid.typed st.number st.body fr.control next.index (move_of next.step) st.at st.control (step_there p fr st next.index next.step next.here)).1

  -- the object of a `new` is none on which a frame runs
  pub new_object : (w : ℕ) → is_new a ≡ true → callee.locals.this ≡ values.Object w → w ≡ next_number h
  new_object w new is = go a new (sym this ∙ is)
    where
      go : (b : Action) → is_new b ≡ true → self_begun fr.locals b h ≡ values.Object w → w ≡ next_number h
      go actions.Skip new same = absurd (true≢false (sym new))
      go (actions.New m d n) new same = sym (let both : values.Object (next_number h) ≡ values.Object w = same in (let one : next_number h ≡ w = cc in one))
      go b new same = absurd (true≢false (sym new))

  same_target : is_new a ≡ false → callee.locals.this ≡ operand_of fr.locals a 0
  same_target absent = this ∙ go a absent
    where
      go : (b : Action) → is_new b ≡ false → self_begun fr.locals b h ≡ operand_of fr.locals b 0
      go actions.Skip absent = refl
      go (actions.New m d n) absent = absurd (true≢false absent)
      go b absent = refl

  pub callee_fresh : AreFresh p (fr ∷ frs) → AreFresh p (callee ∷ fr ∷ frs)
  callee_fresh all = ((λ i s w here new is. run_on_others h w (fr ∷ frs) in' (new_object w (ap is_new (sym (one i s here)) ∙ new) is)), all)

  pub constructor_new : DeclaresOwning p callee.method → constructs (method_at p callee.method) ≡ true → is_new a ≡ true
  constructor_new declares new = go a refl
    where
      owner : DeclaresOwning p runs
      owner = subst (DeclaresOwning p) method declares

      makes : is_constructor_kind next.running.kind ≡ true
      makes = sym (ap constructs next.running_at) ∙ ap (λ (m : MethodId). constructs (method_at p m)) (sym method) ∙ new

      made : is_constructor_kind next.method.kind ≡ true
      made = sym next.fit.makes ∙ makes

      named_constructs : constructs (method_at p named) ≡ true
      named_constructs = ap constructs next.named_at ∙ made

      called_one : (m : MethodId) → called_method a ≡ Some m → m ≡ named
      called_one m is = let both : Some m ≡ Some named = sym is ∙ next.calls in (let one' : m ≡ named = cc in one')

      go : (b : Action) → a ≡ b → is_new a ≡ true
      go actions.Skip is = absurd (subst IsCallRow is next.row)
      go (actions.New m d n) is = ap is_new is
      go (actions.Call m d n f) is =
          absurd (true≢false (sym (ap (λ (k : MethodId). constructs (method_at p k)) (called_one m (ap called_method is)) ∙ named_constructs) ∙ subst (IsOfItsKind p) is kind))
      go (actions.Super m d n) is = absurd (true≢false (sym owner.4 ∙ parent))
        where
          same_named : m ≡ named
          same_named = called_one m (ap called_method is)

          same_runs : runs ≡ named
          same_runs = next.selected ∙ ap (λ (b : Action). running p h fr.locals b named) is

          calls : calls_constructor p next.step.action ≡ true
          calls = ap (calls_constructor p) (next.same ∙ is) ∙ ap (λ (k : MethodId). constructs (method_at p k)) same_named ∙ named_constructs

          parent : is_class_of owner.1.class (method_at p runs) ≡ false
          parent = ap (λ (k : MethodId). is_class_of owner.1.class (method_at p k)) same_runs
              ∙ forms'.parents st.number next.index (move_of next.step) named owner.0 owner.1 st.control (step_there p fr st next.index next.step next.here) calls
              (ap called_method next.same ∙ next.calls) owner.2 owner.3
      go b is = absurd (subst IsCallRow is next.row)

  pub callee_new : AreNew p (fr ∷ frs) → AreNew p (callee ∷ fr ∷ frs)
  callee_new all = ((λ w declares new is. run_on_others h w (fr ∷ frs) in' (new_object w (constructor_new declares new) is)), all)

  pub callee_unfinished : (j : ℕ) (k : HeapContents) → HasEarlierLinks h → ((n : ℕ) (y : Object) → object_at k n ≡ Some y → (x : Object) × (object_at (began_heap p fr.locals a (method_at p named) j h) n ≡ Some x) × (y.finished ≡ x.finished))
      → AreUnfinished p k (fr ∷ frs) → AreUnfinished p k (callee ∷ fr ∷ frs)
  callee_unfinished j k links from all = (top, all)
    where
      top : (w : ℕ) (y : Object) → DeclaresOwning p callee.method → constructs (method_at p callee.method) ≡ true → callee.locals.this ≡ values.Object w → object_at k w ≡ Some y → y.finished ≡ false
      top w y declares new is at =
          let x = from w y at in
          let number = new_object w (constructor_new declares new) is in
          elim (begun_from p fr.locals a (method_at p named) j h links w x.0 x.1) [
            | inl made ↦ x.2 ∙ made.unfinished
            | inr old ↦ absurd (let below = (in_range h w old.before old.at).1 in omega (arith, below, number))
          ]

  -- ---- dispatch

  no_new : is_chosen_by_class (form_of a) ≡ true → is_new a ≡ false
  no_new chosen = go a chosen
    where
      go : (b : Action) → is_chosen_by_class (form_of b) ≡ true → is_new b ≡ false
      go actions.Skip chosen = refl
      go (actions.New m d n) chosen = absurd (true≢false (sym chosen))
      go b chosen = refl

  dispatched : IsDispatched p h callee fr
  dispatched i s m n w x here called at chosen target there = (
    method ∙ next.selected ∙ ap (λ (v : Value). by_form p h named (form_of a) v) target' ∙ runs_by_class p h arrays named (form_of a) w x chosen' there ∙ ap (λ (k : MethodId). run_by p k x.class) (sym same),
    is_in,
    same_target (no_new chosen') ∙ target',
  )
    where
      same_action : s.action ≡ a
      same_action = one i s here

      same : m ≡ named
      same = let both : Some m ≡ Some named = sym called ∙ ap called_method same_action ∙ next.calls in (let one' : m ≡ named = cc in one')

      chosen' : is_chosen_by_class (form_of a) ≡ true
      chosen' = ap (λ (b : Action). is_chosen_by_class (form_of b)) (sym same_action) ∙ chosen

      target' : operand_of fr.locals a 0 ≡ values.Object w
      target' = ap (λ (b : Action). operand_of fr.locals b 0) (sym same_action) ∙ target

      fits : fits_target p h arrays (Some n) (form_of a) (values.Object w) ≡ true
      fits = ap (λ (y : Option Method). fits_target p h arrays y (form_of a) (values.Object w)) (sym (ap (method_at p) (sym same) ∙ at))
          ∙ ap (λ (v : Value). fits_target p h arrays (method_at p named) (form_of a) v) (sym target') ∙ next.fits

      is_in : is_under p x.class n.class ≡ true
      is_in = target_is_under p h arrays n (form_of a) w x chosen' there fits

  runs_named : RunsNamed p callee fr
  runs_named i s m here called other = method ∙ next.selected ∙ go (form_of a) (ap (λ (b : Action). is_chosen_by_class (form_of b)) (sym (one i s here)) ∙ other) ∙ sym same
    where
      same : m ≡ named
      same = let both : Some m ≡ Some named = sym called ∙ ap called_method (one i s here) ∙ next.calls in (let one' : m ≡ named = cc in one')

      go : (form : TargetForm) → is_chosen_by_class form ≡ false → by_form p h named form (operand_of fr.locals a 0) ≡ named
      go forms.Static absent = refl
      go forms.Super absent = refl
      go forms.This absent = absurd (true≢false absent)
      go forms.Other absent = absurd (true≢false absent)

  pub callee_dispatched : AreDispatched p h (fr ∷ frs) → AreDispatched p h (callee ∷ fr ∷ frs)
  callee_dispatched all = (dispatched, runs_named, all)

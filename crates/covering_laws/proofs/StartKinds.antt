-- What runs as a call begins: on an object it is an instance method or a constructor; where it is no constructor, the object is the call's first operand, and where it is one of a super class, the caller's `this`.
use Rattle.std.proofs.Common.{◌≡◌, ◌⊎◌, inl, inr, ℕ, true, false, Some, List, refl, sym, ap, ◌∙◌, subst, true≢false}
use Rattle.program_model.specs.declared.kinds.MethodId.{MethodId}
use Rattle.program_model.specs.declared.kinds.MethodKind.TheVariants as methods
use Rattle.program_model.specs.declared.program.Method.{Method}
use Rattle.program_model.specs.declared.program.Program.{Program}
use Rattle.program_model.specs.Lookups.{method_at}
use Rattle.ledger_obligations.specs.Bodies.{constructs, is_constructor_kind}
use Rattle.java_control.specs.Calls.{called_method}
use Rattle.java_control.specs.Control.{Step}
use Rattle.control_actions.specs.declared.action.Action.{Action}
use Rattle.control_actions.specs.declared.action.Action.TheVariants as actions
use Rattle.control_actions.specs.declared.action.TargetForm.{TargetForm}
use Rattle.control_actions.specs.declared.action.TargetForm.TheVariants as forms
use Rattle.value_laws.specs.Paths.{move_of}
use Rattle.value_laws.specs.Accept.{Accept}
use Rattle.ledger_state.specs.Contents.{HeapContents}
use Rattle.ledger_state.specs.declared.array.ArrayObject.{ArrayObject}
use Rattle.ledger_state.specs.declared.locals.Locals.{Locals}
use Rattle.ledger_state.specs.declared.value.Value.{Value}
use Rattle.ledger_state.specs.declared.value.Value.TheVariants as values
use Rattle.ledger_steps.specs.LedgerCallsCalls.{operand_of}
use Rattle.value_laws.specs.Configuration.{Frame}
use Rattle.value_laws.specs.Choosing.{frame_steps}
use Rattle.ledger_steps.specs.CallSteps.{self_begun}
use Rattle.value_laws.specs.Naming.{IsOfItsKind}
use Rattle.value_laws.proofs.NamedReached.{names_what_is_there}
use Rattle.value_laws.specs.Outcomes.{IsCallRow}
use Rattle.value_laws.specs.Agreement.{Stands}
use Rattle.value_laws.specs.PlainForms.{HasPlainForms, IsPlainAction, calls_constructor}
use Rattle.value_laws.specs.Nexts.{IsStartMove}
use Rattle.value_laws.specs.Frames.{KeepsTargets, holds_this}
use Rattle.value_laws.specs.StepTargets.{FindsIt}
use Rattle.value_laws.proofs.Ready.{plain_step, ready, step_there}
use Rattle.value_laws.proofs.TargetBegun.{finds}
use Rattle.value_laws.proofs.Unmet.{way_of_call}
use Rattle.ownership_rules.specs.SmallActions.{IsSmallAction}
use Rattle.covering_laws.proofs.Following.{method_here}
use Rattle.covering_laws.proofs.ThisOperands.{first_value}
use Rattle.covering_laws.specs.Running.{HasPlainRuns, is_on_object}
use Rattle.covering_laws.proofs.Bodies.{body_is_of_program}
use Rattle.covering_laws.proofs.EntryBirths.{constructor_kind}

module _ (p : Program) (ac : Accept p) (forms' : HasPlainForms p) (plain : HasPlainRuns p) (h : HeapContents) (fr : Frame) (st : Stands p fr) (arrays : List ArrayObject) (named runs : MethodId) (a : Action)
    (next : IsStartMove p h arrays fr.locals (frame_steps p fr) named runs a) where
  abbrev s : Step
  s = next.step

  abbrev l : Locals
  l = fr.locals

  abbrev self : Value
  self = self_begun l s.action h

  abbrev run : Method
  run = next.running

  row : IsCallRow s.action
  row = subst IsCallRow (sym next.same) next.row

  calls' : called_method s.action ≡ Some named
  calls' = ap called_method next.same ∙ next.calls

  form : IsPlainAction p s.action
  form = plain_step p ac forms' fr st next.index s next.here

  small : IsSmallAction p s.action
  small = (ready p ac forms' fr st next.index s next.here (way_of_call s row)).small

  kind : IsOfItsKind p s.action
  kind = (names_what_is_there p ac.well_formed.valid.typed st.number st.body fr.control next.index (move_of s) st.at st.control (step_there p fr st next.index s next.here)).1

  -- what runs on an object is an instance method or a constructor
  pub kind_by : (w : ℕ) → self ≡ values.Object w → (run.kind ≡ methods.Instance) ⊎ (run.kind ≡ methods.Ctor)
  kind_by w is = go s.action refl is
    where
      constructor : (m : MethodId) → called_method s.action ≡ Some m → constructs (method_at p m) ≡ true → run.kind ≡ methods.Ctor
      constructor m it new = constructor_kind run.kind (next.fit.makes ∙ sym (ap constructs next.named_at)
          ∙ ap (λ (z : MethodId). constructs (method_at p z)) (let both : Some named ≡ Some m = sym calls' ∙ it in (let one : named ≡ m = cc in one)) ∙ new)

      instance : (m : MethodId) (d n : ℕ) (f : TargetForm) → s.action ≡ actions.Call m d n f → is_on_object (actions.Call m d n f) ≡ true → run.kind ≡ methods.Instance
      instance m d n f it on = (plain.alike st.number next.index (move_of s) named runs next.method run st.control (step_there p fr st next.index s next.here) calls' next.may next.named_at next.running_at
          (body_is_of_program p ac runs run next.running_at next.body)).kind (ap is_on_object it ∙ on)

      go : (b : Action) → s.action ≡ b → self_begun l b h ≡ values.Object w → (run.kind ≡ methods.Instance) ⊎ (run.kind ≡ methods.Ctor)
      go actions.Skip it is' = absurd (subst IsCallRow it row)
      go (actions.New m d n) it is' = inr (constructor m (ap called_method it) (subst (IsOfItsKind p) it kind))
      go (actions.Super m d n) it is' = inr (constructor m (ap called_method it) (subst (IsPlainAction p) it form).1)
      go (actions.Call m d n forms.Static) it is' = absurd (let never : values.Nothing ≡ values.Object w = is' in cc)
      go (actions.Call m d n forms.This) it is' = inl (instance m d n forms.This it refl)
      go (actions.Call m d n forms.Super) it is' = inl (instance m d n forms.Super it refl)
      go (actions.Call m d n forms.Other) it is' = inl (instance m d n forms.Other it refl)
      go b it is' = absurd (subst IsCallRow it row)

  -- `this` of what runs no constructor is the call's first operand
  pub self_is_first : is_constructor_kind run.kind ≡ false → self ≡ operand_of l s.action 0
  self_is_first other = operand s.action refl
    where
      of_call : (m : MethodId) (d n : ℕ) → s.action ≡ actions.New m d n → is_constructor_kind run.kind ≡ true
      of_call m d n it =
          next.fit.makes ∙ sym (ap constructs next.named_at) ∙ ap (λ (z : MethodId). constructs (method_at p z)) (let both : Some named ≡ Some m = sym calls' ∙ ap called_method it in (let one : named ≡ m = cc in one)) ∙ subst (IsOfItsKind p) it kind

      operand : (b : Action) → s.action ≡ b → self_begun l b h ≡ operand_of l b 0
      operand actions.Skip it = refl
      operand (actions.New m d n) it = absurd (true≢false (sym (of_call m d n it) ∙ other))
      operand b it = refl

  -- a constructor that begins
  pub named_makes : is_constructor_kind run.kind ≡ true → constructs (method_at p named) ≡ true
  named_makes makes' = ap constructs next.named_at ∙ sym next.fit.makes ∙ makes'

  pub of_named : (m : MethodId) → called_method s.action ≡ Some m → m ≡ named
  of_named m it = let both : Some m ≡ Some named = sym it ∙ calls' in (let one : m ≡ named = cc in one)

  -- one of a super class runs on the caller's `this`, and a constructor calls it
  pub super_self : KeepsTargets p fr → (m : MethodId) (d n : ℕ) → s.action ≡ actions.Super m d n → self ≡ l.this
  super_self targets m d n it =
      let found : FindsIt p targets.body (actions.Super m d n) (holds_this l) = subst (λ (b : Action). FindsIt p targets.body b (holds_this l)) it (finds p ac fr targets next.index s next.here) in
      let few : IsSmallAction p (actions.Super m d n) = subst (IsSmallAction p) it small in
      ap (λ (b : Action). self_begun l b h) it ∙ first_value l d n found.2 few.0 ∙ found.0 few.0

  pub super_caller : (m : MethodId) (d n : ℕ) → s.action ≡ actions.Super m d n → is_constructor_kind run.kind ≡ true → constructs (method_at p fr.method) ≡ true
  super_caller m d n it makes' = ap constructs (sym (method_here p fr st))
      ∙ forms'.super_calls st.number next.index (move_of s) st.control (step_there p fr st next.index s next.here) (ap (calls_constructor p) it ∙ ap (λ (z : MethodId). constructs (method_at p z)) (of_named m (ap called_method it)) ∙ named_makes makes')

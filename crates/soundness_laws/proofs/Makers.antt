-- Which frames run constructors: a constructor of a class with owning fields runs for a `new`, on the object that the `new` makes.
use Rattle.std.proofs.Common.{◌≡◌, ◌⊎◌, inl, inr, ℕ, true, Option, Some, None, List, [], ◌∷◌, refl, sym, ap, ◌∙◌, subst, true≢false, eq-eqb}
use Rattle.program_model.specs.declared.kinds.ClassId.{ClassId}
use Rattle.program_model.specs.declared.kinds.FieldId.{FieldId}
use Rattle.program_model.specs.declared.kinds.MethodId.{MethodId}
use Rattle.program_model.specs.declared.program.Field.{Field}
use Rattle.program_model.specs.declared.program.Method.{Method}
use Rattle.program_model.specs.declared.program.Program.{Program}
use Rattle.program_model.specs.Lookups.{field_at, method_at}
use Rattle.program_model.specs.SuperTests.{is_class}
use Rattle.ledger_obligations.specs.Bodies.{constructs, is_class_of, method_in, method_of}
use Rattle.java_control.specs.Calls.{called_method, is_reset_of_this}
use Rattle.control_actions.specs.declared.action.Action.{Action}
use Rattle.control_actions.specs.declared.action.Action.TheVariants as actions
use Rattle.content_laws.specs.Accept.{Accept}
use Rattle.content_laws.specs.Paths.{move_of}
use Rattle.ledger_state.specs.Contents.{HeapContents}
use Rattle.ledger_state.specs.Heaps.{object_at}
use Rattle.ledger_state.specs.declared.object.Object.{Object}
use Rattle.ledger_state.specs.declared.value.Value.TheVariants as values
use Rattle.content_laws.specs.Places.{class_of_method}
use Rattle.ledger_steps.specs.LedgerCallsCalls.{body_of}
use Rattle.content_laws.specs.Configuration.{Frame}
use Rattle.content_laws.specs.ProgramCalls.{is_new}
use Rattle.content_laws.specs.Agreement.{AllStand, IsCalledFrom, IsMade, IsMadeByNew, RunsItself, RunsOnSame, Stands, WaitsFor}
use Rattle.ledger_state.specs.Fields.{field_value}
use Rattle.content_laws.specs.Filled.{AreFilled}
use Rattle.content_laws.specs.PlainForms.{HasPlainForms, IsPlainCall, RunsFor, calls_constructor}
use Rattle.content_laws.specs.Naming.{IsOfItsKind}
use Rattle.content_laws.proofs.NamedReached.{names_what_is_there}
use Rattle.content_laws.proofs.Cases.{none_runs}
use Rattle.content_laws.proofs.Ready.{plain_call, plain_step, step_there}
use Rattle.content_laws.proofs.Unmet.{row_of}
use Rattle.content_laws.proofs.FilledFrames.{lends_here}
use Rattle.soundness_laws.proofs.Programs.{is_programs}

-- the object of a `new`, of the class of the constructor that runs
abbrev pub IsNewObject : Program → HeapContents → Frame → Type 0
IsNewObject p h fr = IsMade p h fr.method fr.locals.this

-- what the call below says of the method that runs
pub record IsRunBelow (p : Program) (fr : Frame) (named : MethodId) : Type 0 where
  pub method : Method
  pub named_at : method_at p named ≡ Some method
  pub running : Method
  pub running_at : method_at p fr.method ≡ Some running
  pub fit : RunsFor p method running

-- a constructor is the one that the call names, and runs for a `new`, or as a super constructor on the same object
abbrev pub IsBegun : Program → HeapContents → Frame → Frame → Action → MethodId → Type 0
IsBegun p h fr caller a named = (fr.method ≡ named) × (IsNewObject p h fr ⊎ ((calls_constructor p a ≡ true) × (fr.locals.this ≡ caller.locals.this)))

module _ (p : Program) (ac : Accept p) (forms : HasPlainForms p) where
  -- the method of a frame's body is the frame's
  pub body_method : (fr : Frame) (st : Stands p fr) → method_of p st.number ≡ method_at p fr.method
  body_method fr st = ap (method_in p) st.at ∙ ap (method_at p) st.method

  pub run_below : (h : HeapContents) (fr caller : Frame) → Stands p fr → Stands p caller → (w : WaitsFor p h caller fr) → IsRunBelow p fr w.named
  run_below h fr caller st below w = by (method_at p fr.method) refl (method_at p w.named) refl
    where
      plain : IsPlainCall p w.named
      plain = plain_call p w.step.action w.named (plain_step p ac forms caller below w.index w.step w.here) (row_of w.step.action w.named w.calls) w.calls

      by : (x : Option Method) → method_at p fr.method ≡ x → (n : Option Method) → method_at p w.named ≡ n → IsRunBelow p fr w.named
      by None at n named_at = absurd (let never : None ≡ Some st.number = sym (ap body_of at) ∙ st.id in cc)
      by (Some x) at None named_at = absurd (let never : None ≡ Some x = sym (none_runs p w.named fr.method w.runs named_at) ∙ at in cc)
      by (Some x) at (Some n) named_at = record {
        method = n;
        named_at = named_at;
        running = x;
        running_at = at;
        fit = plain.program fr.method n x w.runs named_at at (is_programs p ac fr.method x st.number at st.id);
      }

  -- the method that a call names constructs where the one that runs does
  names_constructor : (fr : Frame) (named : MethodId) → IsRunBelow p fr named → constructs (method_at p fr.method) ≡ true → constructs (method_at p named) ≡ true
  names_constructor fr named run new =
      ap constructs run.named_at ∙ sym run.fit.makes ∙ sym (ap constructs run.running_at) ∙ new

  no_call : (named : MethodId) → ◌≡◌ {A = Option MethodId} None (Some named) → ⊥
  no_call named is = cc

  same_named : (m named : MethodId) → ◌≡◌ {A = Option MethodId} (Some m) (Some named) → m ≡ named
  same_named m named is = cc

  -- a constructor runs for a `new`, or as a super constructor on the same object
  module _ (h : HeapContents) (fr caller : Frame) (st : Stands p fr) (below : Stands p caller) (w : WaitsFor p h caller fr) (new : constructs (method_at p fr.method) ≡ true) where
    kind : IsOfItsKind p w.step.action
    kind = (names_what_is_there p ac.well_formed.valid.typed below.number below.body caller.control w.index (move_of w.step) below.at below.control (step_there p caller below w.index w.step w.here)).1

    names_new : constructs (method_at p w.named) ≡ true
    names_new = names_constructor fr w.named (run_below h fr caller st below w) new

    pub begun_by : IsBegun p h fr caller w.step.action w.named
    begun_by = go w.step.action refl
      where
        go : (a : Action) → w.step.action ≡ a → IsBegun p h fr caller w.step.action w.named
        go actions.Skip is = absurd (no_call w.named (ap called_method (sym is) ∙ w.calls))
        go (actions.New m d n) is =
            let one : m ≡ w.named = same_named m w.named (ap called_method (sym is) ∙ w.calls) in
            let itself : fr.method ≡ w.named = subst (λ (a : Action). RunsItself a w.named fr.method) is w.itself in
            (itself, inl (subst (λ (k : MethodId). IsMade p h k fr.locals.this) (one ∙ sym itself) (subst (λ (a : Action). IsMadeByNew p h a fr.locals.this) is w.makes)))
        go (actions.Super m d n) is =
            let one : m ≡ w.named = same_named m w.named (ap called_method (sym is) ∙ w.calls) in (
              subst (λ (a : Action). RunsItself a w.named fr.method) is w.itself,
              inr (ap (calls_constructor p) is ∙ ap (λ (k : MethodId). constructs (method_at p k)) one ∙ names_new, subst (λ (a : Action). RunsOnSame a caller.locals.this fr.locals.this) is w.on_same),
            )
        go (actions.Call m d n form) is =
            let one : m ≡ w.named = same_named m w.named (ap called_method (sym is) ∙ w.calls) in
            absurd (true≢false (sym names_new ∙ sym (ap (λ (k : MethodId). constructs (method_at p k)) one) ∙ subst (IsOfItsKind p) is kind))
        go a is = absurd (no_call w.named (ap called_method (sym is) ∙ w.calls))

  -- the method that runs for a `new` is a constructor
  pub new_constructs : (h : HeapContents) (fr caller : Frame) (below : Stands p caller) (w : WaitsFor p h caller fr) → is_new w.step.action ≡ true → constructs (method_at p fr.method) ≡ true
  new_constructs h fr caller below w new = go w.step.action refl
    where
      kind : IsOfItsKind p w.step.action
      kind = (names_what_is_there p ac.well_formed.valid.typed below.number below.body caller.control w.index (move_of w.step) below.at below.control (step_there p caller below w.index w.step w.here)).1

      go : (a : Action) → w.step.action ≡ a → constructs (method_at p fr.method) ≡ true
      go actions.Skip is = absurd (true≢false (sym new ∙ ap is_new is))
      go (actions.New m d n) is =
          let one : m ≡ w.named = same_named m w.named (ap called_method (sym is) ∙ w.calls) in
          let itself : fr.method ≡ w.named = subst (λ (a : Action). RunsItself a w.named fr.method) is w.itself in
          ap (λ (k : MethodId). constructs (method_at p k)) (itself ∙ sym one) ∙ subst (IsOfItsKind p) is kind
      go a is = absurd (true≢false (sym new ∙ ap is_new is))

  -- a constructor of a class with owning fields runs for a `new`
  pub new_of_owner : (h : HeapContents) (fr : Frame) (frs : List Frame) → Stands p fr → AllStand p frs → IsCalledFrom p h fr frs → constructs (method_at p fr.method) ≡ true
      → (f : FieldId) (x : Field) → field_at p f ≡ Some x → x.owning ≡ true → is_class_of x.class (method_at p fr.method) ≡ true → IsNewObject p h fr
  new_of_owner h fr [] st rest called new f x at owning class = absurd (true≢false (sym new ∙ called.1))
  new_of_owner h fr (caller ∷ frs) st rest called new f x at owning class = go (begun_by h fr caller st rest.0 called.0 new)
    where
      go : IsBegun p h fr caller called.0.step.action called.0.named → IsNewObject p h fr
      go (itself, inl made) = made
      go (itself, inr (super, same)) =
          let none = forms.parents rest.0.number called.0.index (move_of called.0.step) called.0.named f x rest.0.control (step_there p caller rest.0 called.0.index called.0.step called.0.here) super called.0.calls at owning in
          absurd (true≢false (sym class ∙ ap (λ (m : MethodId). is_class_of x.class (method_at p m)) itself ∙ none))

  -- a constructor of an object whose owning field holds an object is one of the class that declares the field
  -- what creates the obligation of `this` anew calls no super constructor
  no_super : (a : Action) → calls_constructor p a ≡ true → is_reset_of_this p a ≡ true → ⊥
  no_super (actions.Super m d n) super never = true≢false (sym never)
  no_super (actions.Call m d n form) never lends = true≢false (sym never)
  no_super actions.Skip never lends = true≢false (sym never)
  no_super a never lends = true≢false (sym never)

  pub class_of_maker : (h : HeapContents) (fr : Frame) (frs : List Frame) → Stands p fr → AllStand p frs → IsCalledFrom p h fr frs → constructs (method_at p fr.method) ≡ true
      → (w c : ℕ) (y : Object) (f : FieldId) (x : Field) → fr.locals.this ≡ values.Object w → object_at h w ≡ Some y → field_at p f ≡ Some x → x.owning ≡ true → y.class ≡ x.class
      → field_value p h w f ≡ values.Object c → AreFilled p h frs → is_class_of x.class (method_at p fr.method) ≡ true
  class_of_maker h fr [] st rest called new w c y f x this there at owning class value filled = absurd (true≢false (sym new ∙ called.1))
  class_of_maker h fr (caller ∷ frs) st rest called new w c y f x this there at owning class value filled =
      go (begun_by h fr caller st rest.0 called.0 new) (class_of_maker h caller frs rest.0 rest.1 called.1)
    where
      of_class : (m : Option Method) → class_of_method m ≡ Some x.class → is_class_of x.class m ≡ true
      of_class None is = absurd (let never : None ≡ Some x.class = is in cc)
      of_class (Some m) is = let same : m.class ≡ x.class = cc in ap (λ (c : ClassId). is_class x.class c) same ∙ eq-eqb x.class.0 x.class.0 refl

      go : IsBegun p h fr caller called.0.step.action called.0.named
          → (constructs (method_at p caller.method) ≡ true → (w c : ℕ) (y : Object) (f : FieldId) (x : Field) → caller.locals.this ≡ values.Object w → object_at h w ≡ Some y
          → field_at p f ≡ Some x → x.owning ≡ true → y.class ≡ x.class → field_value p h w f ≡ values.Object c → AreFilled p h frs → is_class_of x.class (method_at p caller.method) ≡ true)
          → is_class_of x.class (method_at p fr.method) ≡ true
      go (itself, inl made) further =
          let one : made.0 ≡ w = (let same : values.Object made.0 ≡ values.Object w = sym made.1 ∙ this in cc) in
          of_class (method_at p fr.method) (made.3 y (ap (object_at h) one ∙ there) ∙ ap Some class)
      go (itself, inr (super, same)) further =
          let step = step_there p caller rest.0 called.0.index called.0.step called.0.here in
          let makes = forms.super_calls rest.0.number called.0.index (move_of called.0.step) rest.0.control step super in
          let constructor = sym (ap constructs (body_method caller rest.0)) ∙ makes in
          let own = further constructor w c y f x (sym same ∙ this) there at owning class value filled.1 in
          elim (filled.0 rest.0.number w c f x rest.0.id constructor (sym same ∙ this) at owning own value) [
            | inl stored ↦ absurd (true≢false (sym super ∙ forms.supers rest.0.number called.0.index (move_of called.0.step) stored step))
            | inr lends ↦ absurd (no_super called.0.step.action super (lends_here p caller rest.0 called.0.index called.0.step called.0.here lends))
          ]

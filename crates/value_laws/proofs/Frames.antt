-- A frame keeps the exceptions that wait or are on their way out, at each of its steps, and has none as it begins.
use Rattle.std.proofs.Common.{◌≡◌, ◌⊎◌, ℕ, ◌-◌, Bool, true, false, eq-eqb, eqb-true, Option, Some, None, List, [], ◌++◌, length, replicate, slice_get, refl, sym, ap, ◌∙◌, subst, true≢false, inl, inr}
use Rattle.rlc_base.specs.declared.place.Pos.{Pos}
use Rattle.program_model.specs.declared.kinds.BodyId.{BodyId}
use Rattle.program_model.specs.declared.kinds.ClassId.{ClassId}
use Rattle.program_model.specs.declared.kinds.MethodId.{MethodId}
use Rattle.program_model.specs.declared.program.Method.{Method}
use Rattle.program_model.specs.Lookups.{method_at}
use Rattle.program_model.specs.declared.program.Program.{Program}
use Rattle.java_control.specs.Calls.{called_method}
use Rattle.java_control.specs.Control.{Step}
use Rattle.java_control.specs.Exceptions.{exception_depth}
use Rattle.java_control.specs.Sources.{is_null_pointer}
use Rattle.control_actions.specs.declared.action.Action.{Action}
use Rattle.control_actions.specs.declared.action.Action.TheVariants as actions
use Rattle.control_actions.specs.declared.action.Completion.{Completion}
use Rattle.control_actions.specs.declared.action.Completion.TheVariants as completions
use Rattle.control_actions.specs.declared.action.Edge.{Edge}
use Rattle.control_actions.specs.declared.action.Edge.TheVariants as edges
use Rattle.control_actions.specs.declared.place.Place.{Place}
use Rattle.control_actions.specs.declared.place.Place.TheVariants as places
use Rattle.frame_laws.specs.SmallActions.{IsSmallAction}
use Rattle.frame_laws.specs.Paths.{move_of}
use Rattle.dispatch_laws.specs.Accept.{Accept}
use Rattle.stub_conduct.specs.declared.choice.Conduct.{Conduct}
use Rattle.stub_conduct.specs.declared.choice.Conduct.TheVariants as conducts
use Rattle.ledger_state.specs.Contents.{HeapContents}
use Rattle.ledger_state.specs.Locals.{temp_value}
use Rattle.ledger_state.specs.declared.array.ArrayObject.{ArrayObject}
use Rattle.ledger_state.specs.declared.locals.Locals.{Locals}
use Rattle.ledger_state.specs.declared.value.Value.{Value}
use Rattle.ledger_state.specs.declared.value.Value.TheVariants as values
use Rattle.ledger_state.specs.Classes.{runtime_class}
use Rattle.ledger_state.specs.Values.{is_null}
use Rattle.ledger_moves.specs.Operations.{thrown_by_operation, thrown_where}
use Rattle.ledger_steps.specs.LedgerCallsCalls.{begun, body_of, control_in, variable_count}
use Rattle.ledger_steps.specs.Conducts.{conduct_value}
use Rattle.ledger_moves.specs.Configuration.{Frame}
use Rattle.ledger_moves.specs.Choosing.{agrees_with, body_by, frame_steps, operation_edge, same_edge}
use Rattle.ledger_moves.specs.LedgerFramesFrames.{frame_after, made_place}
use Rattle.ledger_steps.specs.Ends.{answered, exception_class, result_value, thrown_in}
use Rattle.ledger_steps.specs.InnerSteps.{thrown_value}
use Rattle.frame_laws.specs.Agreement.{Stands}
use Rattle.dispatch_laws.specs.PlainForms.{HasPlainForms}
use Rattle.frame_laws.specs.Outcomes.{IsCallRow, IsPlainRow}
use Rattle.frame_laws.specs.Nexts.{IsConstantRead, IsInnerStep, IsPlainStep}
use Rattle.frame_laws.proofs.Ready.{step_here, step_there}
use Rattle.value_laws.specs.Values.{FitsClass}
use Rattle.value_laws.specs.Thrown.{HasClass, HoldsThrown, KeepsThrown, holds_class}
use Rattle.value_laws.proofs.ThrownValues.{RaisesClass, after_is}
use Rattle.value_laws.proofs.Ways.{EndsHeld, start_keeps, step_keeps}

-- ---- a frame

-- what a step makes is an exception, where it is thrown
abbrev pub IsThrown : Step → Value → Type 0
IsThrown s v = (c : ClassId) → s.edge ≡ edges.Throws c → made_place s.action ≡ Some (places.Temp (exception_depth s.action)) → HasClass v

module _ (p : Program) (ac : Accept p) (fr : Frame) (st : Stands p fr) (i : ℕ) (s : Step) (here : slice_get (frame_steps p fr) i ≡ Some s) where
  small : IsSmallAction p s.action
  small = (ac.fits st.number).steps i (move_of s) st.control (step_there p fr st i s here)

  pub holds_still : HasPlainForms p → (h : HeapContents) (v : Value) → IsThrown s v → RaisesClass p fr.locals s → HoldsThrown p fr → HoldsThrown p (frame_after p h fr s v)
  holds_still forms h v thrown raised holds =
      (step_keeps p st.body (holds_class fr.locals) (holds_class (frame_after p h fr s v).locals) st.number fr.control i s st.at holds (step_here p fr st i s here)).0
      (after_is p ac forms h fr st i s here v small thrown raised (ap (body_by p) st.id ∙ st.at))

  -- the exception by which it ends stands in its temp
  pub ends_held : HoldsThrown p fr → (d : ℕ) (t : ClassId) (pos : Pos) → s.action ≡ actions.End (completions.Throw d t pos) → HasClass (temp_value fr.locals d)
  ends_held holds d t pos is =
      let held : holds_class fr.locals d = subst (λ (a : Action). EndsHeld (holds_class fr.locals) a) is
      (step_keeps p st.body (holds_class fr.locals) (holds_class fr.locals) st.number fr.control i s st.at holds (step_here p fr st i s here)).1 in
      held (subst (IsSmallAction p) is small)

-- a frame that begins, before it has what is left to run
abbrev first_frame : Program → MethodId → Value → List Value → Frame
first_frame p m self arguments = record {
  method = m;
  control = [];
  locals = record {
    variables = arguments ++ replicate (variable_count p (body_of (method_at p m)) - length arguments) values.Nothing;
    this = self;
    temps = [];
  };
}

pub begun_holds : (p : Program) (m : MethodId) (self : Value) (arguments : List Value) → HoldsThrown p (begun p m self arguments)
begun_holds p m self arguments = by_body (body_of (method_at p m)) (holds_class (begun p m self arguments).locals)
  where
    by_body : (x : Option BodyId) (held : ℕ → Type 0) → KeepsThrown held (control_in p x (first_frame p m self arguments)).control
    by_body None held = tt
    by_body (Some b) held = start_keeps p b held

-- ---- values that are thrown

has_class : (p : Program) (h : HeapContents) (v : Value) → is_null v ≡ false → FitsClass p p.core.throwable h v → HasClass v
has_class p h values.Nothing null fits = absurd (true≢false null)
has_class p h values.Null null fits = absurd (true≢false null)
has_class p h values.Text null fits = tt
has_class p h (values.Number z) null fits = absurd fits
has_class p h (values.Object k) null fits = tt
has_class p h (values.Array a) null fits = tt

go_no_throw : (c : ClassId) → edges.Go ≡ edges.Throws c → ⊥
go_no_throw c is = cc

none_made : (x : Place) → ◌≡◌ {A = Option Place} None (Some x) → ⊥
none_made x is = cc

module _ (p : Program) (h : HeapContents) (arrays : List ArrayObject) (m : MethodId) (l : Locals) where
  -- an operation that throws nothing goes on
  no_throw : (a : Action) (c : ClassId) → operation_edge a None ≡ edges.Go → thrown_by_operation p h arrays l a ≡ None → same_edge (operation_edge a (thrown_by_operation p h arrays l a)) (edges.Throws c) ≡ true → ⊥
  no_throw a c goes none is =
      true≢false (sym is ∙ ap (λ (e : Option ClassId). same_edge (operation_edge a e) (edges.Throws c)) none ∙ ap (λ (e : Edge). same_edge e (edges.Throws c)) goes)

  -- only a `throw` throws where its operation throws nothing
  abbrev IsRaise : Action → Type 0
  IsRaise a = (d : ℕ) × (x : Option ClassId) × (a ≡ actions.Raise d x)

  none_thrown : (a : Action) (c : ClassId) → made_place a ≡ Some (places.Temp (exception_depth a)) → IsPlainRow a → thrown_by_operation p h arrays l a ≡ None → agrees_with p h arrays m l a (edges.Throws c) ≡ true → IsRaise a
  none_thrown actions.Skip c made row none is = absurd (none_made _ made)
  none_thrown (actions.Plain x v) c made row none is = absurd (no_throw (actions.Plain x v) c refl none is)
  none_thrown (actions.Op k d n) c made row none is = absurd (no_throw (actions.Op k d n) c refl none is)
  none_thrown (actions.Get f d this) c made row none is = absurd (no_throw (actions.Get f d this) c refl none is)
  none_thrown (actions.Put f d this) c made row none is = absurd (no_throw (actions.Put f d this) c refl none is)
  none_thrown (actions.Cast t d) c made row none is = absurd (no_throw (actions.Cast t d) c refl none is)
  none_thrown (actions.Raise d x) c made row none is = (d, x, refl)
  none_thrown (actions.Call k d n form) c made row none is = absurd row
  none_thrown (actions.New k d n) c made row none is = absurd row
  none_thrown (actions.Super k d n) c made row none is = absurd row
  none_thrown a c made row none is = absurd (none_made _ made)

  -- what is thrown and is not null has a class
  raised_class : (d : ℕ) (x : Option ClassId) → thrown_by_operation p h arrays l (actions.Raise d x) ≡ None → FitsClass p p.core.throwable h (temp_value l d) → HasClass (temp_value l d)
  raised_class d x none fits = go (is_null (temp_value l d)) refl none
    where
      go : (b : Bool) → is_null (temp_value l d) ≡ b → thrown_where b p.core.null_pointer_exception ≡ None → HasClass (temp_value l d)
      go true null gone = absurd (let never : Some p.core.null_pointer_exception ≡ None = gone in cc)
      go false null gone = has_class p h (temp_value l d) null fits

  -- the class of a NullPointerException is that of the edge by which null goes
  null_edge : (c : ClassId) → same_edge (edges.Throws p.core.null_pointer_exception) (edges.Throws c) ≡ true → is_null_pointer p (edges.Throws c) ≡ false → ⊥
  null_edge c is other = true≢false (sym (eq-eqb c.0 p.core.null_pointer_exception.0 (sym (eqb-true p.core.null_pointer_exception.0 c.0 is))) ∙ other)

  by_edge : (d : ℕ) (x : Option ClassId) (c : ClassId) → agrees_with p h arrays m l (actions.Raise d x) (edges.Throws c) ≡ true → is_null_pointer p (edges.Throws c) ≡ false → FitsClass p p.core.throwable h (temp_value l d) → HasClass (temp_value l d)
  by_edge d x c agreeing other fits = go (is_null (temp_value l d)) refl agreeing
    where
      go : (b : Bool) → is_null (temp_value l d) ≡ b → same_edge (operation_edge (actions.Raise d x) (thrown_where b p.core.null_pointer_exception)) (edges.Throws c) ≡ true → HasClass (temp_value l d)
      go true null agree = absurd (null_edge c agree other)
      go false null agree = has_class p h (temp_value l d) null fits

  module _ (s : Step) (made : Value) (raised : (d : ℕ) (x : Option ClassId) → s.action ≡ actions.Raise d x → (made ≡ temp_value l d) × FitsClass p p.core.throwable h (temp_value l d)) where
    plain_thrown : (e : Option ClassId) → IsPlainStep p h arrays m l e s → IsThrown s (thrown_value h e made)
    plain_thrown (Some x) step c is place = tt
    plain_thrown None step c is place =
        let r : IsRaise s.action = none_thrown s.action c place step.row (sym step.thrown) (ap (λ (f : Edge). agrees_with p h arrays m l s.action f) (sym is) ∙ step.agreeing) in
        let own = raised r.0 r.1 r.2 in
        subst HasClass (sym own.0) (raised_class r.0 r.1 (ap (thrown_by_operation p h arrays l) (sym r.2) ∙ sym step.thrown) own.1)

    pub inner_thrown : (e : Option ClassId) → IsInnerStep p h arrays m l e s → IsThrown s (thrown_value h e made)
    inner_thrown e (inl plain) c is place = plain_thrown e plain c is place
    inner_thrown e (inr (inl null)) c is place = subst (λ (x : Option ClassId). HasClass (thrown_value h x made)) (sym null.thrown) tt
    inner_thrown e (inr (inr store)) c is place = absurd (go_no_throw c (sym store.edge ∙ is))

    pub inner_raises : (e : Option ClassId) → IsInnerStep p h arrays m l e s → RaisesClass p l s
    inner_raises e (inl plain) d x c action is other =
        by_edge d x c (ap (λ (a : Action). agrees_with p h arrays m l a (edges.Throws c)) (sym action) ∙ ap (λ (f : Edge). agrees_with p h arrays m l s.action f) (sym is) ∙ plain.agreeing) other (raised d x action).1
    inner_raises e (inr (inl null)) d x c action is other = absurd (subst IsCallRow action null.row)
    inner_raises e (inr (inr store)) d x c action is other = absurd (let never : actions.Raise d x ≡ actions.PutOwn store.field store.temp = sym action ∙ store.action in cc)

-- neither a call nor a read of a library's constant is a `throw`
pub call_raises : (p : Program) (l : Locals) (s : Step) → IsCallRow s.action → RaisesClass p l s
call_raises p l s row d x c action is other = absurd (subst IsCallRow action row)

pub library_raises : (p : Program) (l : Locals) (s : Step) (named : MethodId) → (IsCallRow s.action × (called_method s.action ≡ Some named)) ⊎ IsConstantRead s.action → RaisesClass p l s
library_raises p l s named (inl row) d x c action is other = absurd (subst IsCallRow action row.0)
library_raises p l s named (inr reads) d x c action is other = absurd (subst IsConstantRead action reads)

pub library_thrown : (s : Step) (count : ℕ) (m : Option Method) (at : ℕ → Value) (k : ℕ) (d : Conduct) → (((e : ClassId) → d ≡ conducts.Throws e → ⊥) → s.edge ≡ edges.Go) → IsThrown s (conduct_value count m at k d)
library_thrown s count m at k conducts.Null normal c is place = absurd (go_no_throw c (sym (normal (λ e same. cc)) ∙ is))
library_thrown s count m at k (conducts.Throws e) normal c is place = tt
library_thrown s count m at k d normal c is place = absurd (go_no_throw c (sym (normal (λ e same. cc)) ∙ is))

-- ---- a call that ends

classed : (p : Program) (h : HeapContents) (v : Value) (x : ClassId) → runtime_class p h v ≡ Some x → HasClass v
classed p h values.Nothing x is = absurd (let never : None ≡ Some x = is in cc)
classed p h values.Null x is = absurd (let never : None ≡ Some x = is in cc)
classed p h values.Text x is = tt
classed p h (values.Number z) x is = absurd (let never : None ≡ Some x = is in cc)
classed p h (values.Object k) x is = tt
classed p h (values.Array a) x is = tt

answer_thrown : (p : Program) (h : HeapContents) (l : Locals) (m : Option Method) (q : Completion) (x : ClassId) → exception_class p h (thrown_in l q) ≡ Some x → HasClass (result_value l m q)
answer_thrown p h l m (completions.Break pos) x is = absurd (let never : None ≡ Some x = is in cc)
answer_thrown p h l m (completions.Throw d t pos) x is = classed p h (temp_value l d) x is
answer_thrown p h l m q x is = absurd (let never : None ≡ Some x = is in cc)

pub returned_thrown : (p : Program) (h : HeapContents) (l : Locals) (m : Option Method) (self : Value) (q : Completion) (t : Step) (e : Option ClassId) → exception_class p h (thrown_in l q) ≡ e
    → (e ≡ None → t.edge ≡ edges.Go) → IsThrown t (answered self t.action (result_value l m q) e)
returned_thrown p h l m self q t None same normal c is place = absurd (go_no_throw c (sym (normal refl) ∙ is))
returned_thrown p h l m self q t (Some x) same normal c is place = answer_thrown p h l m q x same

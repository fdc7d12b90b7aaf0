-- What a frame keeps: where it begins, and at each of its steps.
use Rattle.std.proofs.Common.{◌≡◌, ◌∙◌, ap, refl, sym, subst, arith, ℕ, ◌+◌, ◌-◌, ◌<◌, Bool, true, false, ◌&&◌, true≢false, Option, Some, None, List, [], ◌++◌, IsSomeAnd, length, replicate, option_map, slice_get, inl, inr}
use Rattle.std.specs.Prelude.{if◌then◌else◌, nat_le, nat_lt}
use Rattle.std.proofs.lemmas.Bool.Decides.{nat_tests}
use Rattle.std.proofs.lemmas.Option.{slice_get-map}
use Rattle.program_model.specs.declared.kinds.BodyId.{BodyId}
use Rattle.program_model.specs.declared.kinds.MethodId.{MethodId}
use Rattle.program_model.specs.declared.kinds.MethodKind.TheVariants as methods
use Rattle.program_model.specs.declared.program.Method.{Method}
use Rattle.program_model.specs.declared.program.Program.{Program}
use Rattle.program_model.specs.declared.tree.Body.{Body}
use Rattle.program_model.specs.Lookups.{body_at, method_at}
use Rattle.program_model.specs.Validity.{OwnsBody}
use Rattle.java_control.specs.Calls.{called_method, temp_at}
use Rattle.java_control.specs.Control.{Step, next_of}
use Rattle.control_actions.specs.declared.action.Action.{Action}
use Rattle.control_actions.specs.declared.action.Action.TheVariants as actions
use Rattle.control_actions.specs.declared.action.TargetForm.TheVariants as forms
use Rattle.ownership_rules.specs.SmallActions.{IsSmallAction}
use Rattle.fact_laws.specs.Accept.{Accept}
use Rattle.fact_laws.specs.Paths.{move_of, on, relation_of, start}
use Rattle.ledger_state.specs.Contents.{HeapContents}
use Rattle.ledger_state.specs.Locals.{temp_in, temp_value}
use Rattle.ledger_state.specs.Values.{is_null}
use Rattle.ledger_state.specs.declared.locals.Locals.{Locals}
use Rattle.ledger_state.specs.declared.value.Value.{Value}
use Rattle.ledger_state.specs.declared.value.Value.TheVariants as values
use Rattle.ledger_steps.specs.LedgerCallsCalls.{begun, body_of, control_in, has_null_target, running, variable_count}
use Rattle.ledger_moves.specs.Configuration.{Frame}
use Rattle.ledger_moves.specs.Choosing.{body_by, frame_steps, steps_by}
use Rattle.ledger_moves.specs.LedgerFramesFrames.{frame_after}
use Rattle.ledger_moves.specs.Moves.{has_body}
use Rattle.ledger_steps.specs.CallSteps.{self_begun}
use Rattle.fact_laws.specs.StepTargets.{FindsIt, HasThis, IsStatic, RunsOnThis, after, this_operand}
use Rattle.fact_laws.proofs.TargetItems.{finds_more}
use Rattle.fact_laws.proofs.TargetWays.{start_finds, step_finds}
use Rattle.frame_laws.specs.Frames.{KeepsTargets, holds_this}
use Rattle.frame_laws.proofs.TargetValues.{step_keeps}

-- ---- a frame and its steps

module _ (p : Program) (ac : Accept p) (fr : Frame) (keeps : KeepsTargets p fr) (i : ℕ) (s : Step) (here : slice_get (frame_steps p fr) i ≡ Some s) where
  step_here : slice_get (next_of p keeps.number fr.control) i ≡ Some s
  step_here = ap (λ (b : Option BodyId). slice_get (steps_by p b fr.control) i) (sym keeps.id) ∙ here

  step_there : slice_get ((relation_of p keeps.number).next fr.control) i ≡ Some (move_of s)
  step_there = slice_get-map move_of (next_of p keeps.number fr.control) i ∙ ap (option_map move_of) step_here

  pub small : IsSmallAction p s.action
  small = (ac.fits keeps.number).steps i (move_of s) keeps.control step_there

  pub finds : FindsIt p keeps.body s.action (holds_this fr.locals)
  finds = (step_finds p ac.well_formed.valid.typed keeps.number keeps.body fr.control i s (holds_this fr.locals) keeps.at keeps.targets step_here).0

  pub frame_keeps : (h : HeapContents) (v : Value) → KeepsTargets p (frame_after p h fr s v)
  frame_keeps h v = record {
    number = keeps.number;
    body = keeps.body;
    id = keeps.id;
    at = keeps.at;
    method = keeps.method;
    control = on i (move_of s) keeps.control step_there;
    this = keeps.this;
    targets =
        finds_more p keeps.body s.to (after s.action (holds_this fr.locals)) (holds_this (frame_after p h fr s v).locals)
        (step_keeps p h fr.method keeps.body fr.locals v (ap (body_by p) keeps.id ∙ keeps.at) s.action s.edge)
        (step_finds p ac.well_formed.valid.typed keeps.number keeps.body fr.control i s (holds_this fr.locals) keeps.at keeps.targets step_here).1;
  }

-- ---- the first operand of a call

is_there : (d n : ℕ) → 0 < n → d < 64 → (nat_lt 0 n && nat_le (d + 0) 4294967295) ≡ true
is_there d n some small = grind (arith, nat_tests)

first_operand : (d n : ℕ) → 0 < n → d < 64 → temp_at d n 0 ≡ Some d
first_operand d n some small = ap (λ (t : Bool). if t then Some (d + 0) else None) (is_there d n some small) ∙ ap Some (let same : d + 0 ≡ d = omega arith in same)

first_value : (l : Locals) (d n : ℕ) → 0 < n → d < 64 → temp_in l (temp_at d n 0) ≡ temp_value l d
first_value l d n some small = ap (temp_in l) (first_operand d n some small)

-- ---- what an action finds

same_depth : (d e : ℕ) → ◌≡◌ {A = Option ℕ} (Some d) (Some e) → d ≡ e
same_depth d e is = cc

no_depth : (d : ℕ) → ◌≡◌ {A = Option ℕ} None (Some d) → ⊥
no_depth d is = cc

module _ (p : Program) (b : Body) (l : Locals) where
  found_at : (d e : ℕ) → ◌≡◌ {A = Option ℕ} (Some d) (Some e) → d < 64 → holds_this l d → temp_value l e ≡ l.this
  found_at d e is few held = subst (λ (n : ℕ). temp_value l n ≡ l.this) (same_depth d e is) (held few)

  pub found : (a : Action) (d : ℕ) → FindsIt p b a (holds_this l) → IsSmallAction p a → this_operand a ≡ Some d → (temp_value l d ≡ l.this) × RunsOnThis p b
  found actions.Skip d it few is = absurd (no_depth d is)
  found (actions.Call m e n forms.Static) d it few is = absurd (no_depth d is)
  found (actions.Call m e n forms.This) d it few is = (found_at e d is few.0 it.0, it.1)
  found (actions.Call m e n forms.Super) d it few is = (found_at e d is few.0 it.0, it.1)
  found (actions.Call m e n forms.Other) d it few is = absurd (no_depth d is)
  found (actions.Super m e n) d it few is = (found_at e d is few.0 it.0, it.1)
  found (actions.Get f e true) d it few is = (found_at e d is few it.0, it.1)
  found (actions.Get f e false) d it few is = absurd (no_depth d is)
  found (actions.Put f e true) d it few is = (found_at e d is (let below : e < 64 = omega (arith, few) in below) it.0, it.1)
  found (actions.Put f e false) d it few is = absurd (no_depth d is)
  found a d it few is = absurd (no_depth d is)

  module _ (this : RunsOnThis p b → is_null l.this ≡ false) where
    -- the target of a call on `this` is there
    this_there : (d n : ℕ) → holds_this l d → RunsOnThis p b → 0 < n → d < 64 → is_null (temp_in l (temp_at d n 0)) ≡ false
    this_there d n held runs some few = ap is_null (first_value l d n some few ∙ held few) ∙ this runs

    pub target_there : (a : Action) (d : ℕ) → FindsIt p b a (holds_this l) → IsSmallAction p a → this_operand a ≡ Some d → has_null_target l a ≡ false
    target_there actions.Skip d it few is = refl
    target_there (actions.Call m e n forms.Static) d it few is = refl
    target_there (actions.Call m e n forms.This) d it few is = this_there e n it.0 it.1 it.2 few.0
    target_there (actions.Call m e n forms.Super) d it few is = this_there e n it.0 it.1 it.2 few.0
    target_there (actions.Call m e n forms.Other) d it few is = absurd (no_depth d is)
    target_there a d it few is = refl

    -- ---- the `this` of what is called

    no_static_this : (x : Option Method) → IsStatic x → HasThis x → ⊥
    no_static_this None is has = is
    no_static_this (Some x) is (inl instance) = let never : methods.Static ≡ methods.Instance = sym is ∙ instance in cc
    no_static_this (Some x) is (inr constructor) = let never : methods.Static ≡ methods.Ctor = sym is ∙ constructor in cc

    no_method : (m : MethodId) → ◌≡◌ {A = Option MethodId} None (Some m) → ⊥
    no_method m is = cc

    pub self_there : (h : HeapContents) (a : Action) (named runs : MethodId) → FindsIt p b a (holds_this l) → IsSmallAction p a → called_method a ≡ Some named → has_null_target l a ≡ false
        → runs ≡ running p h l a named → HasThis (method_at p runs) → is_null (self_begun l a h) ≡ false
    self_there h actions.Skip named runs it few is target same has = absurd (no_method named is)
    self_there h (actions.New m d n) named runs it few is target same has = refl
    self_there h (actions.Super m d n) named runs it few is target same has = this_there d n it.0 it.1 it.2 few.0
    self_there h (actions.Call m d n forms.Static) named runs it few is target same has =
        absurd (no_static_this (method_at p m) it (subst (λ (k : MethodId). HasThis (method_at p k)) (same ∙ sym (let one : m ≡ named = cc in one)) has))
    self_there h (actions.Call m d n forms.This) named runs it few is target same has = target
    self_there h (actions.Call m d n forms.Super) named runs it few is target same has = target
    self_there h (actions.Call m d n forms.Other) named runs it few is target same has = target
    self_there h a named runs it few is target same has = absurd (no_method named is)

-- ---- a frame that begins

module _ (p : Program) (ac : Accept p) (m : MethodId) (self : Value) (arguments : List Value) (this : HasThis (method_at p m) → is_null self ≡ false) where
  abbrev frame_by : Option BodyId → Frame
  frame_by x =
      control_in p x (record {
        method = m;
        control = [];
        locals = record {
          variables = arguments ++ replicate (variable_count p (body_of (method_at p m)) - length arguments) values.Nothing;
          this = self;
          temps = [];
        };
      })

  by_body : (b : BodyId) (x : Body) → body_of (method_at p m) ≡ Some b → body_at p b ≡ Some x → x.method ≡ m → KeepsTargets p (frame_by (Some b))
  by_body b x own at mine = record {
    number = b;
    body = x;
    id = own;
    at = at;
    method = mine;
    control = start;
    this = λ runs. this (subst (λ (k : MethodId). HasThis (method_at p k)) mine runs);
    targets = start_finds p ac.well_formed.valid.typed b x (holds_this (frame_by (Some b)).locals) at;
  }

  by_method : (x : Method) (b : BodyId) → method_at p m ≡ Some x → x.body ≡ Some b → KeepsTargets p (frame_by (Some b))
  by_method x b at own = go (body_at p b) refl (subst (OwnsBody p m) own (ac.well_formed.valid.typed.methods m x at).body)
    where
      go : (y : Option Body) → body_at p b ≡ y → IsSomeAnd y (λ z. z.method ≡ m) → KeepsTargets p (frame_by (Some b))
      go None there mine = absurd mine
      go (Some y) there mine = by_body b y (ap body_of at ∙ own) there mine

  by_bodies : (x : Method) (y : Option BodyId) → method_at p m ≡ Some x → x.body ≡ y → has_body y ≡ true → KeepsTargets p (frame_by y)
  by_bodies x None at own has = absurd (true≢false (sym has))
  by_bodies x (Some b) at own has = by_method x b at own

  pub begun_keeps : has_body (body_of (method_at p m)) ≡ true → KeepsTargets p (begun p m self arguments)
  begun_keeps has = go (method_at p m) refl has
    where
      go : (x : Option Method) → method_at p m ≡ x → has_body (body_of x) ≡ true → KeepsTargets p (begun p m self arguments)
      go None at has = absurd (true≢false (sym has))
      go (Some x) at has = subst (λ (y : Option BodyId). KeepsTargets p (frame_by y)) (sym (ap body_of at)) (by_bodies x x.body at refl has)

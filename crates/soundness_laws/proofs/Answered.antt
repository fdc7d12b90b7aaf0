-- What a call of the program gives to the frame that waits for it: the object of its `new`, or its owning result.
use Rattle.std.proofs.Common.{◌≡◌, ℕ, Bool, true, false, not, ◌&&◌, Option, Some, None, is_some, slice_get, refl, sym, ap, ◌∙◌, subst, true≢false}
use Rattle.std.specs.FinSet as set
use Rattle.rlc_base.proofs.SetLaws.{within_self, within_trans}
use Rattle.program_model.specs.declared.kinds.ClassId.{ClassId}
use Rattle.program_model.specs.declared.kinds.MethodId.{MethodId}
use Rattle.program_model.specs.declared.kinds.MethodKind.{MethodKind}
use Rattle.program_model.specs.declared.kinds.MethodKind.TheVariants as methods
use Rattle.program_model.specs.declared.kinds.VType.{VType}
use Rattle.program_model.specs.declared.kinds.VType.TheVariants as types
use Rattle.program_model.specs.declared.program.Method.{Method}
use Rattle.program_model.specs.declared.program.Program.{Program}
use Rattle.program_model.specs.declared.program.Sig.{Sig}
use Rattle.program_model.specs.Lookups.{method_at}
use Rattle.program_model.specs.Validity.{IsOfKind}
use Rattle.ledger_obligations.specs.Bodies.{constructs, is_constructor_kind}
use Rattle.ledger_obligations.specs.MustCallSets.{Names, fits, must_of, must_of_optional, must_of_type}
use Rattle.ledger_obligations.specs.OverrideCases.{differ}
use Rattle.ownership_rules.specs.Signatures.{is_present}
use Rattle.java_control.specs.Calls.{called_method}
use Rattle.java_control.specs.Control.{Step}
use Rattle.control_actions.specs.declared.action.Action.{Action}
use Rattle.control_actions.specs.declared.action.Action.TheVariants as actions
use Rattle.control_actions.specs.declared.action.Completion.{Completion}
use Rattle.control_actions.specs.declared.action.Edge.TheVariants as edges
use Rattle.control_actions.specs.declared.action.TargetForm.{TargetForm}
use Rattle.control_actions.specs.declared.fact.OriginKind.TheVariants as kinds
use Rattle.ownership_rules.specs.Births.{origin_of}
use Rattle.content_laws.specs.Accept.{Accept}
use Rattle.content_laws.specs.Paths.{move_of}
use Rattle.ledger_state.specs.Contents.{HeapContents}
use Rattle.ledger_state.specs.Heaps.{object_at, root_of}
use Rattle.ledger_state.specs.Values.{number_of}
use Rattle.ledger_state.specs.declared.object.Object.{Object}
use Rattle.ledger_state.specs.declared.value.Value.{Value}
use Rattle.ledger_state.specs.declared.value.Value.TheVariants as values
use Rattle.ledger_obligations.specs.Obligations.{is_unmet}
use Rattle.content_laws.specs.Places.{class_of_method}
use Rattle.ledger_steps.specs.LedgerCallsCalls.{is_alias}
use Rattle.ledger_steps.specs.Conducts as conducts
use Rattle.content_laws.specs.Configuration.{Frame}
use Rattle.content_laws.specs.Choosing.{frame_steps}
use Rattle.content_laws.specs.LedgerFramesFrames.{frame_after}
use Rattle.ledger_steps.specs.Ends.{answered, exception_class, result_value, thrown_in}
use Rattle.content_laws.specs.Heaps.{GoesOn}
use Rattle.content_laws.specs.ProgramCalls.{IsFinished, IsReturned, is_new}
use Rattle.content_laws.specs.Naming.{IsOfItsKind}
use Rattle.content_laws.proofs.NamedReached.{names_what_is_there}
use Rattle.content_laws.specs.Agreement.{IsMade, IsMadeAfter, IsMadeByNew, Stands, Tracks}
use Rattle.content_laws.specs.PlainForms.{HasPlainForms, IsPlainAction, RunsFor}
use Rattle.content_laws.specs.Outcomes.{IsCallRow}
use Rattle.content_laws.specs.Steps.{RootsStay}
use Rattle.content_laws.proofs.Births.{heavy_by_unmet, new_tracks, result_tracks}
use Rattle.content_laws.proofs.Carried.{still_bounded}
use Rattle.content_laws.proofs.Ready.{plain_step, step_there}
use Rattle.content_laws.proofs.Unmet.{may_lies, nothing_to_call, object_type_of, unmet_before, way_of_call}

-- the caller's step of the call, when the frame ends
pub record IsAnswered (p : Program) (h : HeapContents) (fr caller : Frame) (q : Completion) (t : Step) (named : MethodId) : Type 0 where
  pub row : IsCallRow t.action
  pub calls : called_method t.action ≡ Some named
  pub method : Method
  pub named_at : method_at p named ≡ Some method
  pub running : Method
  pub running_at : method_at p fr.method ≡ Some running
  pub fit : RunsFor p method running
  pub normal : exception_class p h (thrown_in fr.locals q) ≡ None → t.edge ≡ edges.Go
  pub thrown : (c : ClassId) → exception_class p h (thrown_in fr.locals q) ≡ Some c → (k : ClassId) × (t.edge ≡ edges.Throws k)
  pub makes : IsMadeByNew p h t.action fr.locals.this
  pub later : IsMadeAfter p caller.locals t.action fr.locals.this

and_false : (a b : Bool) → (a && b) ≡ false → a ≡ true → b ≡ false
and_false true b same is = same
and_false false b same is = absurd (true≢false (sym is))

not_back : (b : Bool) → not b ≡ false → b ≡ true
not_back true is = refl
not_back false is = absurd (true≢false is)

differ_true : (b : Bool) → differ true b ≡ false → b ≡ true
differ_true b same = not_back b same

none_there : (x : Option ℕ) → is_some x ≡ false → x ≡ None
none_there None is = refl
none_there (Some k) is = absurd (true≢false is)

-- a constructor has no result
no_result : (k : MethodKind) (s : Sig) → IsOfKind k s → is_constructor_kind k ≡ true → s.result ≡ None
no_result methods.Ctor s valid is = valid
no_result methods.Instance s valid is = absurd (true≢false (sym is))
no_result methods.Static s valid is = absurd (true≢false (sym is))
no_result methods.Constant s valid is = absurd (true≢false (sym is))

module _ (p : Program) (ac : Accept p) (forms : HasPlainForms p) (h k : HeapContents) (fr caller : Frame) (below : Stands p caller) (j : ℕ) (t : Step)
    (there : slice_get (frame_steps p caller) j ≡ Some t) (q : Completion) (named : MethodId) (answer : IsAnswered p h fr caller q t named) (at n : ℕ) where
  abbrev e : Option ClassId
  e = exception_class p h (thrown_in fr.locals q)

  abbrev v : Value
  v = result_value fr.locals (method_at p fr.method) q

  abbrev given : Value
  given = answered fr.locals.this t.action v e

  same_named : (m : MethodId) → called_method t.action ≡ Some m → m ≡ named
  same_named m is = let same : Some m ≡ Some named = sym is ∙ answer.calls in cc

  at_named : (m : MethodId) → called_method t.action ≡ Some m → method_at p m ≡ Some answer.method
  at_named m is = ap (method_at p) (same_named m is) ∙ answer.named_at

  -- ---- the object of a `new`

  module _ (z x y : Object) (before : object_at h n ≡ Some z) (goes : GoesOn z x) (unmet : is_unmet y ≡ true) (made : IsFinished p at fr.locals.this t.action (method_at p named) e n x y)
      (itself : root_of k (values.Object n) ≡ Some n) where
    by_new : (m : MethodId) (d c : ℕ) → t.action ≡ actions.New m d c → IsMade p h m fr.locals.this → Tracks p k (frame_after p h caller t given) n y
    by_new m d c is object =
        let number : object.0 ≡ n = (let same : Some object.0 ≡ Some n = sym (ap number_of object.1) ∙ made.self in cc) in
        let class : answer.method.class ≡ z.class = (
        let same : Some answer.method.class ≡ Some z.class = sym (ap class_of_method (at_named m (ap called_method is))) ∙ object.3 z (ap (object_at h) number ∙ before) in cc) in
        let now : y.class ≡ answer.method.class = made.class ∙ goes.class ∙ sym class in
        let must : y.must ≡ must_of p answer.method.class = made.must ∙ ap (must_of p) (goes.class ∙ sym class) in
        let within : set.is_subset y.must (must_of p answer.method.class) ≡ true = ap (λ (u : Names). set.is_subset u (must_of p answer.method.class)) must ∙ within_self (must_of p answer.method.class) in
        let value : given ≡ values.Object n =
        ap (λ (a : Action). answered fr.locals.this a v e) is ∙ ap (answered fr.locals.this (actions.New m d c) v) made.normal ∙ object.1 ∙ ap values.Object number in
        subst (λ (w : Value). Tracks p k (frame_after p h caller t w) n y) (sym value)
        (new_tracks p ac forms h k caller below j t there (way_of_call t answer.row) n y (values.Object n) itself m d c answer.method is (answer.normal made.normal) (at_named m (ap called_method is))
        (none_there answer.method.sig.alias (subst (λ (m' : Option Method). is_alias m' ≡ false) answer.named_at made.own))
        (heavy_by_unmet p answer.method.class y unmet within)
        (ap (λ (u : ClassId). fits p u answer.method.class) now ∙ within_self (must_of p answer.method.class))
        (ap (λ (f : Option Names). set.is_subset y.must (origin_of p kinds.New t.pos answer.method.class f).first) answer.fit.first ∙ within)
        (ap (λ (u : ClassId). set.is_subset y.must (must_of p u)) now ∙ within))

    pub finished_tracks : Tracks p k (frame_after p h caller t given) n y
    finished_tracks = go t.action refl
      where
        go : (a : Action) → t.action ≡ a → Tracks p k (frame_after p h caller t given) n y
        go actions.Skip is = absurd (true≢false (sym made.new ∙ ap is_new is))
        go (actions.New m d c) is = by_new m d c is (subst (λ (a : Action). IsMadeByNew p h a fr.locals.this) is answer.makes)
        go a is = absurd (true≢false (sym made.new ∙ ap is_new is))

  -- ---- an owning result

  module _ (x y : Object) (before : object_at h n ≡ Some x) (goes : GoesOn x y) (unmet : is_unmet y ≡ true) (bound : set.is_subset x.must (must_of p x.class) ≡ true)
      (back : IsReturned p at (method_at p fr.method) v e h n x y) (stays : RootsStay h k n) where
    owning : answer.running.sig.owning_result ≡ true
    owning = subst (λ (m : Option Method). conducts.owning_in m ≡ true) answer.running_at back.owning

    result : answer.running.sig.result ≡ Some back.type
    result = subst (λ (m : Option Method). conducts.result_in m ≡ Some back.type) answer.running_at back.result

    -- a result that moves is no alias
    own_result : answer.method.sig.alias ≡ None
    own_result = sym answer.fit.alias ∙ none_there answer.running.sig.alias (subst (λ (m : Option Method). is_alias m ≡ false) answer.running_at back.own)

    -- the result that the call names is owning, and its type asks for no less
    named_owning : answer.method.sig.owning_result ≡ true
    named_owning =
        let same = answer.fit.result in
        differ_true answer.method.sig.owning_result
        (ap (λ (b : Bool). differ b answer.method.sig.owning_result) (sym owning)
        ∙ and_false (is_present answer.running.sig.result) (differ answer.running.sig.owning_result answer.method.sig.owning_result) same (ap is_present result))

    lies : set.is_subset (must_of p x.class) (must_of_optional p answer.method.sig.result) ≡ true
    lies =
        let wide = not_back (set.is_subset (must_of_optional p answer.running.sig.result) (must_of_optional p answer.method.sig.result))
        (and_false answer.running.sig.owning_result (not (set.is_subset (must_of_optional p answer.running.sig.result) (must_of_optional p answer.method.sig.result))) answer.fit.wider owning) in
        within_trans (must_of p x.class) (must_of_type p back.type) (must_of_optional p answer.method.sig.result) (may_lies p back.type x back.may)
        (ap (λ (u : Option VType). set.is_subset (must_of_optional p u) (must_of_optional p answer.method.sig.result)) (sym result) ∙ wide)

    class_result : (u : Option VType) → answer.method.sig.result ≡ u → (r : ClassId) × (answer.method.sig.result ≡ Some (types.Obj r))
    class_result None is = absurd (nothing_to_call x (unmet_before x y goes unmet)
        (within_trans x.must (must_of p x.class) (must_of_optional p None) bound (subst (λ (w : Option VType). set.is_subset (must_of p x.class) (must_of_optional p w) ≡ true) is lies)))
    class_result (Some u) is =
        let c = object_type_of p u x (unmet_before x y goes unmet)
        (within_trans x.must (must_of p x.class) (must_of_type p u) bound (subst (λ (w : Option VType). set.is_subset (must_of p x.class) (must_of_optional p w) ≡ true) is lies)) in
        (c.0, is ∙ ap Some c.1)

    by_call : (m : MethodId) (d c : ℕ) (form : TargetForm) → t.action ≡ actions.Call m d c form → (r : ClassId) → answer.method.sig.result ≡ Some (types.Obj r)
        → Tracks p k (frame_after p h caller t given) n y
    by_call m d c form is r type =
        let fit : fits p x.class r ≡ true = subst (λ (w : Option VType). set.is_subset (must_of p x.class) (must_of_optional p w) ≡ true) type lies in
        let now : fits p y.class r ≡ true = ap (λ (u : ClassId). fits p u r) goes.class ∙ fit in
        let bounded = still_bounded p x y goes bound in
        let value : given ≡ v = ap (λ (a : Action). answered fr.locals.this a v e) is ∙ ap (answered fr.locals.this (actions.Call m d c form) v) back.normal in
        subst (λ (w : Value). Tracks p k (frame_after p h caller t w) n y) (sym value)
        (result_tracks p ac forms h k caller below j t there (way_of_call t answer.row) n y v (stays v back.root) m d c form answer.method r is (answer.normal back.normal) (at_named m (ap called_method is)) own_result type named_owning
        now
        (ap (λ (f : Option Names). set.is_subset y.must (origin_of p kinds.Result t.pos r f).first) answer.fit.first ∙ within_trans y.must (must_of p y.class) (must_of p r) bounded now)
        bounded)

    -- a constructor gives no result
    no_constructor : (m : MethodId) → called_method t.action ≡ Some m → constructs (method_at p m) ≡ true → (r : ClassId) → answer.method.sig.result ≡ Some (types.Obj r) → ⊥
    no_constructor m is new r type =
        let kind : is_constructor_kind answer.method.kind ≡ true = subst (λ (u : Option Method). constructs u ≡ true) (at_named m is) new in
        let none = no_result answer.method.kind answer.method.sig (ac.well_formed.valid.typed.methods named answer.method answer.named_at).kind kind in
        let never : None ≡ Some (types.Obj r) = sym none ∙ type in
        cc

    pub returned_tracks : Tracks p k (frame_after p h caller t given) n y
    returned_tracks = let c = class_result answer.method.sig.result refl in go t.action refl c.0 c.1
      where
        kind : IsOfItsKind p t.action
        kind = (names_what_is_there p ac.well_formed.valid.typed below.number below.body caller.control j (move_of t) below.at below.control (step_there p caller below j t there)).1

        form : IsPlainAction p t.action
        form = plain_step p ac forms caller below j t there

        go : (a : Action) → t.action ≡ a → (r : ClassId) → answer.method.sig.result ≡ Some (types.Obj r) → Tracks p k (frame_after p h caller t given) n y
        go actions.Skip is r type = absurd (subst IsCallRow is answer.row)
        go (actions.Call m d c f) is r type = by_call m d c f is r type
        go (actions.New m d c) is r type = absurd (no_constructor m (ap called_method is) (subst (IsOfItsKind p) is kind) r type)
        go (actions.Super m d c) is r type = absurd (no_constructor m (ap called_method is) (subst (IsPlainAction p) is form).1 r type)
        go a is r type = absurd (subst IsCallRow is answer.row)

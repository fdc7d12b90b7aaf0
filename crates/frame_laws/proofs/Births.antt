-- The object that a call makes or gives for its frame is tracked from its birth on.
use Rattle.std.proofs.Common.{◌≡◌, inl, inr, ℕ, ◌+◌, ◌<◌, ◌≤◌, max, Bool, true, false, not, Option, Some, None, ◌++◌, slice_get, nat_lt, nat_le, refl, sym, ap, ◌∙◌, subst, true≢false, if◌then◌else◌, arith, lt-ltb, le-leb}
use Rattle.std.specs.FinSet as set
use Rattle.std.proofs.lemmas.Cmp.{nat_cmp_total}
use Rattle.std.specs.Prelude.{MatchBool}
use Rattle.std.proofs.lemmas.Bool.{and_parts, and_from, or_left, not-true}
use Rattle.rlc_base.specs.declared.place.Pos.{Pos}
use Rattle.rlc_base.proofs.SetLaws.{empty_within, within_from, within_self, within_trans}
use Rattle.program_model.specs.declared.kinds.ClassId.{ClassId}
use Rattle.program_model.specs.declared.kinds.MethodId.{MethodId}
use Rattle.program_model.specs.declared.kinds.VType.TheVariants as types
use Rattle.program_model.specs.declared.program.Method.{Method}
use Rattle.program_model.specs.declared.program.Program.{Program}
use Rattle.program_model.specs.Lookups.{method_at, optional}
use Rattle.ledger_steps.specs.Bodies.{alias_in, constructs, is_constructor_kind}
use Rattle.ledger_steps.specs.MustCallSets.{Names, fits, is_empty, is_heavy_class, must_of, no_names}
use Rattle.java_control.specs.Control.{Step}
use Rattle.java_control.specs.Sources.{emptied, is_temp_among, source}
use Rattle.control_actions.specs.declared.action.Action.{Action}
use Rattle.control_actions.specs.declared.action.Action.TheVariants as actions
use Rattle.control_actions.specs.declared.action.Edge.{Edge}
use Rattle.control_actions.specs.declared.action.Edge.TheVariants as edges
use Rattle.control_actions.specs.declared.action.TargetForm.{TargetForm}
use Rattle.control_actions.specs.declared.fact.Fact.{Fact}
use Rattle.control_actions.specs.declared.fact.Mode.TheVariants as modes
use Rattle.control_actions.specs.declared.fact.Origin.{Origin}
use Rattle.control_actions.specs.declared.fact.OriginKind.{OriginKind}
use Rattle.control_actions.specs.declared.fact.OriginKind.TheVariants as kinds
use Rattle.control_actions.specs.declared.place.Place.{Place}
use Rattle.control_actions.specs.declared.place.Place.TheVariants as places
use Rattle.ownership_rules.specs.Births.{birth_on, fact_at, origin_of, reset_births, result_birth}
use Rattle.fact_laws.specs.Accept.{Accept}
use Rattle.fact_laws.specs.Paths.{born, move_of}
use Rattle.ledger_state.specs.Contents.{HeapContents}
use Rattle.ledger_state.specs.Heaps.{root_of}
use Rattle.ledger_state.specs.declared.entry.Owner.TheVariants as owners
use Rattle.ledger_state.specs.declared.object.Object.{Object}
use Rattle.ledger_state.specs.declared.value.Value.{Value}
use Rattle.ledger_steps.specs.Obligations.{first_set, is_unmet}
use Rattle.agreement.specs.Places.{place_value}
use Rattle.ledger_moves.specs.Configuration.{Frame}
use Rattle.ledger_steps.specs.Conducts.{result_owner}
use Rattle.ledger_moves.specs.Choosing.{frame_steps}
use Rattle.ledger_moves.specs.LedgerFramesFrames.{frame_after, locals_after, made_place}
use Rattle.agreement.specs.PlacePlaces.{IsWay, is_local}
use Rattle.agreement.specs.Agreement.{Stands, Tracks}
use Rattle.agreement.specs.PlainForms.{HasPlainForms, IsAnsweredBy, LibraryRunsFor}
use Rattle.fact_laws.specs.Naming.{IsOfItsKind}
use Rattle.fact_laws.proofs.NamedReached.{names_what_is_there}
use Rattle.agreement.specs.Fitting.{FitsMethod}
use Rattle.stub_conduct.specs.declared.choice.Conduct.TheVariants as conducts
use Rattle.ownership_rules.specs.SmallActions.{IsSmallAction}
use Rattle.java_control.specs.Calls.{called_method}
use Rattle.ledger_steps.specs.Conducts.{owning_in}
use Rattle.agreement.specs.LibraryCalls.{IsMadeAs}
use Rattle.fact_laws.specs.Outcomes.{IsCallRow}
use Rattle.frame_laws.specs.Steps.{is_super}
use Rattle.frame_laws.proofs.Carried.{Ready}
use Rattle.frame_laws.proofs.LibraryRuns.{constructor_itself, named_result, one_owning, result_within}
use Rattle.fact_laws.proofs.PlaceLaws.{made_value_stands, single_place-alone, single_place-has, single_place-same, single_place-some}
use Rattle.frame_laws.proofs.Ready.{ready, step_there}

-- the place of a result takes its value from no place
among : (d n : ℕ) → 0 < n → is_temp_among d n (places.Temp d) ≡ true
among d n some = and_from (nat_le d d) (nat_lt d (d + n)) (le-leb d d (omega arith)) (lt-ltb d (d + n) (omega arith))

emptied_true : (b : Bool) (q : Place) → b ≡ true → emptied b q ≡ None
emptied_true b q is = rw is refl

first_within : (p : Program) (e : ClassId) (first : Option Names) → set.is_subset (first_set p e first) (must_of p e) ≡ true
first_within p e None = within_self (must_of p e)
first_within p e (Some s) = within_from (set.intersection (must_of p e) s) (must_of p e)
    (λ k one. (and_parts (set.contains (must_of p e) k) (set.contains s k) (sym (set.contains-intersection nat_cmp_total (must_of p e) s k) ∙ one)).0)

-- what must be called first is what the origin of a birth needs
first_is_needed : (p : Program) (kind : OriginKind) (pos : Pos) (c e : ClassId) (first : Option Names) → fits p e c ≡ true
    → set.is_subset (first_set p e first) (origin_of p kind pos c first).first ≡ true
first_is_needed p kind pos c e None fit = fit
first_is_needed p kind pos c e (Some s) fit = within_from (set.intersection (must_of p e) s) s
    (λ k one. (and_parts (set.contains (must_of p e) k) (set.contains s k) (sym (set.contains-intersection nat_cmp_total (must_of p e) s k) ∙ one)).1)

origin_class : (p : Program) (kind : OriginKind) (pos : Pos) (c : ClassId) (first : Option Names) → (origin_of p kind pos c first).class ≡ c
origin_class p kind pos c None = refl
origin_class p kind pos c (Some s) = refl

-- an object of which nothing must be called is met
pub heavy_by_unmet : (p : Program) (c : ClassId) (y : Object) → is_unmet y ≡ true → set.is_subset y.must (must_of p c) ≡ true → is_heavy_class p c ≡ true
heavy_by_unmet p c y unmet within = go (is_empty (must_of p c)) refl
  where
    go : (b : Bool) → is_empty (must_of p c) ≡ b → not (is_empty (must_of p c)) ≡ true
    go true light = absurd (true≢false (
        sym (within_trans y.must no_names y.called (within_trans y.must (must_of p c) no_names within light) (empty_within y.called))
        ∙ not-true (set.is_subset y.must y.called) (and_parts y.finished (not (set.is_subset y.must y.called)) unmet).1))
    go false heavy = ap not heavy

result_birth_is : (p : Program) (d : ℕ) (pos : Pos) (x : Method) (r : ClassId) → x.sig.alias ≡ None → x.sig.result ≡ Some (types.Obj r) → x.sig.owning_result ≡ true
    → result_birth p d pos (Some x) ≡ Some (origin_of p kinds.Result pos r x.sig.first, fact_at (places.Temp d) modes.Own no_names false)
result_birth_is p d pos x r alias result owning = rw (alias, result, owning) refl

module _ (p : Program) (ac : Accept p) (forms : HasPlainForms p) (h k : HeapContents)
    (fr : Frame) (st : Stands p fr) (i : ℕ) (s : Step) (here : slice_get (frame_steps p fr) i ≡ Some s) (way : IsWay s.action s.edge) (n : ℕ) (y : Object) (w : Value) (itself : root_of k w ≡ Some n) where
  born_tracks : (d : ℕ) (o : Origin) → d < 64 → birth_on p s.action s.edge s.pos ≡ Some (o, fact_at (places.Temp d) modes.Own no_names false)
      → made_place s.action ≡ Some (places.Temp d) → source p st.body s.action s.edge (places.Temp d) ≡ None
      → fits p y.class o.class ≡ true → set.is_subset y.must o.first ≡ true → set.is_subset y.must (must_of p y.class) ≡ true
      → Tracks p k (frame_after p h fr s w) n y
  born_tracks d o small birth made none class needed bounded = record {
    body = st.number;
    id = st.id;
    origin = o;
    fact = fact_at (places.Temp d) modes.Own no_names false;
    reached = born i 0 (move_of s) st.control (step_there p fr st i s here)
        (ap (λ (x : Option (Origin × Fact)). slice_get (optional x ++ reset_births p st.number s.action s.pos) 0) birth);
    follows = record {
      own = refl;
      class = class;
      bounded = bounded;
      need = needed;
      called = empty_within y.called;
      some = single_place-some (places.Temp d);
      alone = single_place-alone (places.Temp d) small;
      places = λ q room is.
          let same : places.Temp d ≡ q = single_place-same (places.Temp d) q (sym (single_place-has (places.Temp d) q small room) ∙ is) in
          subst (λ (z : Place). (is_local z ≡ true) × (root_of k (place_value p k fr.method (locals_after p h fr.method fr.locals s.action s.edge w) z) ≡ Some n)) same (
            refl,
            ap (root_of k) (made_value_stands p h k fr.method st.body fr.locals s.action s.edge w (places.Temp d) r.method small refl r.target made none)
                ∙ itself,
          );
    };
  }
    where
      r : Ready p fr.method fr.locals st.number st.body s.action s.edge
      r = ready p ac forms fr st i s here way

  small_step : IsSmallAction p s.action
  small_step = (ready p ac forms fr st i s here way).small

  -- the object of a `new`
  pub new_tracks : (m : MethodId) (d c : ℕ) (x : Method) → s.action ≡ actions.New m d c → s.edge ≡ edges.Go → method_at p m ≡ Some x → x.sig.alias ≡ None → is_heavy_class p x.class ≡ true
      → fits p y.class x.class ≡ true → set.is_subset y.must (origin_of p kinds.New s.pos x.class x.sig.first).first ≡ true → set.is_subset y.must (must_of p y.class) ≡ true
      → Tracks p k (frame_after p h fr s w) n y
  new_tracks m d c x is edge named alias heavy class needed bounded =
      let room : d + c < 64 = subst (IsSmallAction p) is small_step in
      born_tracks d (origin_of p kinds.New s.pos x.class x.sig.first) (omega arith)
      (rw (is, edge, named, heavy, alias) refl)
      (ap made_place is)
      (ap (λ (a : Action). source p st.body a s.edge (places.Temp d)) is ∙ emptied_true _ (places.Temp d) (among d (c + 1) (omega arith)))
      (ap (fits p y.class) (origin_class p kinds.New s.pos x.class x.sig.first) ∙ class)
      needed bounded

  -- an owning result
  pub result_tracks : (m : MethodId) (d c : ℕ) (form : TargetForm) (x : Method) (r : ClassId) → s.action ≡ actions.Call m d c form → s.edge ≡ edges.Go → method_at p m ≡ Some x
      → x.sig.alias ≡ None → x.sig.result ≡ Some (types.Obj r) → x.sig.owning_result ≡ true → fits p y.class r ≡ true
      → set.is_subset y.must (origin_of p kinds.Result s.pos r x.sig.first).first ≡ true → set.is_subset y.must (must_of p y.class) ≡ true
      → Tracks p k (frame_after p h fr s w) n y
  result_tracks m d c form x r is edge named alias result owning class needed bounded =
      let room : (d < 64) × (d + c ≤ 64) = subst (IsSmallAction p) is small_step in
      born_tracks d (origin_of p kinds.Result s.pos r x.sig.first) room.0
      (ap (λ (a : Action). birth_on p a s.edge s.pos) is ∙ ap (λ (f : Edge). birth_on p (actions.Call m d c form) f s.pos) edge
      ∙ ap (result_birth p d s.pos) named ∙ result_birth_is p d s.pos x r alias result owning)
      (ap made_place is)
      (ap (λ (a : Action). source p st.body a s.edge (places.Temp d)) is ∙ emptied_true _ (places.Temp d) (or_left _ _ (among d (max c 1) (omega arith))))
      (ap (fits p y.class) (origin_class p kinds.Result s.pos r x.sig.first) ∙ class)
      needed bounded

  kind_of : IsOfItsKind p s.action
  kind_of = (names_what_is_there p ac.well_formed.valid.typed st.number st.body fr.control i (move_of s) st.at st.control (step_there p fr st i s here)).1

  -- the object that a call of the library makes
  module _ (e : ClassId) (j at : ℕ) (unmet : is_unmet y ≡ true) (edge : s.edge ≡ edges.Go) (owner : y.owner ≡ owners.Frame j) where
    abbrev IsMade : Option Method → Type 0
    IsMade m = IsMadeAs p s.action m at (conducts.Fresh e) y × FitsMethod p m (conducts.Fresh e)

    must_within : (m : Method) (c : ClassId) → fits p e c ≡ true → y.must ≡ first_set p e m.sig.first → set.is_subset y.must (must_of p c) ≡ true
    must_within m c fit must = ap (λ (t : Names). set.is_subset t (must_of p c)) must ∙ within_trans (first_set p e m.sig.first) (must_of p e) (must_of p c) (first_within p e m.sig.first) fit

    bounded_by : (m : Method) → y.class ≡ e → y.must ≡ first_set p e m.sig.first → set.is_subset y.must (must_of p y.class) ≡ true
    bounded_by m class must = ap (λ (c : ClassId). set.is_subset y.must (must_of p c)) class ∙ must_within m e (within_self (must_of p e)) must

    by_new : (m : MethodId) (d c : ℕ) (x : Method) → s.action ≡ actions.New m d c → method_at p m ≡ Some x → x.sig.alias ≡ None → is_constructor_kind x.kind ≡ true → IsMade (Some x)
        → Tracks p k (frame_after p h fr s w) n y
    by_new m d c x is named alias kind made =
        let same : x.class ≡ e = subst (λ (b : Bool). MatchBool b (x.class ≡ e) ((r : ClassId) × (x.sig.result ≡ Some (types.Obj r)) × (fits p e r ≡ true))) kind made.1 in
        let fit : fits p e x.class ≡ true = subst (λ (z : ClassId). fits p z x.class ≡ true) same (within_self (must_of p x.class)) in
        let o = origin_of p kinds.New s.pos x.class x.sig.first in
        new_tracks m d c x is edge named alias (heavy_by_unmet p x.class y unmet (must_within x x.class fit made.0.1))
        (ap (λ (z : ClassId). fits p z x.class) made.0.0 ∙ fit)
        (ap (λ (t : Names). set.is_subset t o.first) made.0.1 ∙ first_is_needed p kinds.New s.pos x.class e x.sig.first fit)
        (bounded_by x made.0.0 made.0.1)

    -- the result of the method `x`, by the signature of `f`, which is that method or runs for it
    by_call : (m : MethodId) (d c : ℕ) (form : TargetForm) (x f : Method) (r : ClassId) → s.action ≡ actions.Call m d c form → method_at p m ≡ Some x → x.sig.alias ≡ None
        → x.sig.result ≡ Some (types.Obj r) → x.sig.owning_result ≡ true → fits p e r ≡ true → set.is_subset (first_set p e f.sig.first) (origin_of p kinds.Result s.pos r x.sig.first).first ≡ true
        → IsMadeAs p s.action (Some f) at (conducts.Fresh e) y → Tracks p k (frame_after p h fr s w) n y
    by_call m d c form x f r is named alias result owning fit needed made =
        result_tracks m d c form x r is edge named alias result owning
        (ap (λ (z : ClassId). fits p z r) made.0 ∙ fit)
        (ap (λ (t : Names). set.is_subset t (origin_of p kinds.Result s.pos r x.sig.first).first) made.1 ∙ needed)
        (bounded_by f made.0 made.1)

    frame_is_owning : (x : Option Method) → (if owning_in x then owners.Frame at else owners.Library) ≡ owners.Frame j → owning_in x ≡ true
    frame_is_owning x same = go (owning_in x) refl same
      where
        go : (b : Bool) → owning_in x ≡ b → (if b then owners.Frame at else owners.Library) ≡ owners.Frame j → owning_in x ≡ true
        go true is one = is
        go false is one = absurd (let never : owners.Library ≡ owners.Frame j = one in cc)

    abbrev Gives : Method → Type 0
    Gives x = (r : ClassId) × (x.sig.result ≡ Some (types.Obj r)) × (fits p e r ≡ true)

    gives : (x : Method) → is_constructor_kind x.kind ≡ false → FitsMethod p (Some x) (conducts.Fresh e) → Gives x
    gives x kind fit = subst (λ (b : Bool). MatchBool b (x.class ≡ e) (Gives x)) kind fit

    -- What the call makes by the signature of the method `f`, where the method that the call names has no aliased argument.
    abbrev IsMadeFor : MethodId → MethodId → Type 0
    IsMadeFor m f = IsAnsweredBy p m f × IsMade (method_at p f)

    by_named : (m : MethodId) (d c : ℕ) (form : TargetForm) (x : Method) → s.action ≡ actions.Call m d c form → method_at p m ≡ Some x → x.sig.alias ≡ None → is_constructor_kind x.kind ≡ false → IsMade (Some x)
        → Tracks p k (frame_after p h fr s w) n y
    by_named m d c form x is named alias kind made =
        let result = gives x kind made.1 in
        by_call m d c form x x result.0 is named alias result.1
        (frame_is_owning (Some x) (ap (λ (a : Action). result_owner a (Some x) at) (sym is) ∙ sym made.0.2 ∙ owner))
        result.2 (first_is_needed p kinds.Result s.pos result.0 e x.sig.first result.2) made.0

    by_other : (m f : MethodId) (d c : ℕ) (form : TargetForm) → s.action ≡ actions.Call m d c form → alias_in (method_at p m) ≡ None → (runs : LibraryRunsFor p m f) → IsMade (method_at p f)
        → Tracks p k (frame_after p h fr s w) n y
    by_other m f d c form is alias runs made' =
        let made : IsMade (Some runs.running) = subst IsMade runs.running_at made' in
        let result = gives runs.running (runs.fit.makes ∙ ap is_constructor_kind runs.kind) made.1 in
        let named = named_result p m f runs result.0 result.1 in
        let owning : runs.running.sig.owning_result ≡ true = frame_is_owning (Some runs.running) (ap (λ (a : Action). result_owner a (Some runs.running) at) (sym is) ∙ sym made.0.2 ∙ owner) in
        let owned : runs.method.sig.owning_result ≡ true = sym (one_owning p m f runs (types.Obj result.0) result.1) ∙ owning in
        let fit : fits p e named.0 ≡ true = within_trans (must_of p e) (must_of p result.0) (must_of p named.0) result.2 (result_within p m f runs result.0 named.0 result.1 named.1 owned) in
        by_call m d c form runs.method runs.running named.0 is runs.named_at (sym (ap alias_in runs.named_at) ∙ alias) named.1 owned fit
        (within_trans (first_set p e runs.running.sig.first) (must_of p e) (origin_of p kinds.Result s.pos named.0 runs.method.sig.first).first (first_within p e runs.running.sig.first)
        (ap (λ (o : Option Names). set.is_subset (must_of p e) (origin_of p kinds.Result s.pos named.0 o).first) runs.fit.first ∙ fit))
        made.0

    pub made_tracks : IsCallRow s.action → is_super s.action ≡ false → ((m : MethodId) → called_method s.action ≡ Some m → alias_in (method_at p m) ≡ None)
        → (f : MethodId) → ((m : MethodId) → called_method s.action ≡ Some m → IsMadeFor m f) → Tracks p k (frame_after p h fr s w) n y
    made_tracks row other alias f made = go s.action refl
      where
        go : (a : Action) → s.action ≡ a → Tracks p k (frame_after p h fr s w) n y
        go actions.Skip is = absurd (subst IsCallRow is row)
        go (actions.New m d c) is = by (method_at p m) refl (made m (ap called_method is))
          where
            new : constructs (method_at p m) ≡ true
            new = subst (IsOfItsKind p) is kind_of

            by : (x : Option Method) → method_at p m ≡ x → IsMadeFor m f → Tracks p k (frame_after p h fr s w) n y
            by None named one = absurd (true≢false (sym new ∙ ap constructs named))
            by (Some x) named one =
                let itself : f ≡ m = constructor_itself p m f one.0 new in
                by_new m d c x is named (sym (ap alias_in named) ∙ alias m (ap called_method is)) (sym (ap constructs named) ∙ new)
                (subst IsMade (ap (method_at p) itself ∙ named) one.1)
        go (actions.Call m d c form) is = by (method_at p m) refl (made m (ap called_method is)).0
          where
            one : IsMade (method_at p f)
            one = (made m (ap called_method is)).1

            by : (x : Option Method) → method_at p m ≡ x → IsAnsweredBy p m f → Tracks p k (frame_after p h fr s w) n y
            by None named (inl itself) = absurd (subst IsMade (ap (method_at p) itself ∙ named) one).1
            by (Some x) named (inl itself) =
                by_named m d c form x is named (sym (ap alias_in named) ∙ alias m (ap called_method is)) (sym (ap constructs named) ∙ subst (IsOfItsKind p) is kind_of)
                (subst IsMade (ap (method_at p) itself ∙ named) one)
            by x named (inr runs) = by_other m f d c form is (alias m (ap called_method is)) runs one
        go (actions.Super m d c) is = absurd (true≢false (sym (ap is_super is) ∙ other))
        go a is = absurd (subst IsCallRow is row)

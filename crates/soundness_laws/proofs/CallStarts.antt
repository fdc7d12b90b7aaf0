-- A call of a method of the program begins a frame.
use Rattle.std.proofs.Common.{◌≡◌, ◌⊎◌, inl, inr, ℕ, ◌+◌, ◌<◌, ◌≤◌, Bool, true, false, not, ◌&&◌, Option, Some, None, List, ◌∷◌, ◌++◌, length, slice_get, nat_eq, nat_le, nat_lt, refl, sym, ap, ◌∙◌, subst, true≢false, if◌then◌else◌, arith, eq-eqb, eqb-true}
use Rattle.std.specs.FinSet as set
use Rattle.std.specs.Option.{IsSomeAnd}
use Rattle.std.specs.Prelude.{MatchBool}
use Rattle.std.proofs.lemmas.Bool.Decides.{nat_tests}
use Rattle.std.proofs.lemmas.Bool.{and_parts}
use Rattle.std.proofs.lemmas.Option.{slice_get_within}
use Rattle.rlc_base.specs.declared.place.Pos.{Pos}
use Rattle.rlc_base.proofs.SetLaws.{within_trans}
use Rattle.program_model.specs.declared.kinds.ClassId.{ClassId}
use Rattle.program_model.specs.declared.kinds.MethodId.{MethodId}
use Rattle.program_model.specs.declared.kinds.VType.{VType}
use Rattle.program_model.specs.declared.kinds.VType.TheVariants as types
use Rattle.program_model.specs.declared.program.Method.{Method}
use Rattle.program_model.specs.declared.program.ParamSig.{ParamSig}
use Rattle.program_model.specs.declared.program.Program.{Program}
use Rattle.program_model.specs.Lookups.{method_at}
use Rattle.program_model.specs.Overrides.{is_abstract}
use Rattle.ledger_obligations.specs.Bodies.{constructs}
use Rattle.ledger_obligations.specs.MustCallSets.{Names, fits, is_heavy_class, must_of, must_of_type}
use Rattle.java_control.specs.Calls.{called_method, temp_at}
use Rattle.java_control.specs.Control.{Step}
use Rattle.control_actions.specs.declared.action.Action.{Action}
use Rattle.control_actions.specs.declared.action.Action.TheVariants as actions
use Rattle.ownership_rules.specs.Callees as callees
use Rattle.ownership_rules.specs.Callees.{callee_in}
use Rattle.ownership_rules.specs.MovesAtCalls.{moved_at_call}
use Rattle.ownership_rules.specs.declared.moved.Moved.TheVariants as moves
use Rattle.content_laws.specs.Accept.{Accept}
use Rattle.ledger_state.specs.Contents.{HeapContents}
use Rattle.ledger_state.specs.Heaps.{next_number, object_at, root_of, unfinished}
use Rattle.ledger_state.specs.Locals.{temp_in, temp_value, variable_value}
use Rattle.ledger_state.specs.declared.entry.Entry.{Entry}
use Rattle.ledger_state.specs.declared.entry.Owner.TheVariants as owners
use Rattle.ledger_state.specs.declared.locals.Locals.{Locals}
use Rattle.ledger_state.specs.declared.object.Object.{Object}
use Rattle.ledger_state.specs.declared.value.Value.TheVariants as values
use Rattle.ledger_obligations.specs.Obligations.{is_unmet, may_move}
use Rattle.content_laws.specs.Places.{class_of_method}
use Rattle.ledger_steps.specs.LedgerCallsCalls.{alias_position, argument_values, object_by, operand_of, params_in}
use Rattle.content_laws.specs.Configuration.{Frame, held_by}
use Rattle.content_laws.specs.Choosing.{frame_steps}
use Rattle.ledger_steps.specs.CallSteps.{began_entries, began_heap, object_of_new, self_begun, started}
use Rattle.content_laws.specs.Paths.{move_of}
use Rattle.content_laws.specs.Constructors.{MakesConcrete}
use Rattle.content_laws.proofs.ConstructorReached.{makes_concrete}
use Rattle.content_laws.proofs.CallWays.{one_action}
use Rattle.content_laws.specs.Heaps.{GoesOn, HasEarlierLinks, IsGiven, KeepsLinks}
use Rattle.content_laws.proofs.LibraryCallLaws.{appended_object_at-object, moved_arguments_are_given, moved_arguments_are_older-older, evolving_heaps-links, numbers_are_in_range, roots_go_on-root, roots_go_on-value}
use Rattle.content_laws.specs.ProgramCalls.{IsNewAtStart, IsOlderAtStart}
use Rattle.content_laws.proofs.Begun.{begun_count, begun_evolves, begun_from, begun_given, begun_leaks_nothing, begun_links, begun_makes}
use Rattle.content_laws.specs.Chains.{HaveEnds, IsLast}
use Rattle.content_laws.specs.Agreement.{Agrees, Awaits, HasMadeClasses, IsAwaited, IsMade, IsMadeAfter, IsMadeByNew, IsTracked, RunsItself, RunsOnSame, Tracks, WaitsFor, is_answering}
use Rattle.content_laws.specs.PlainForms.{HasPlainForms, MayRun, RunsFor, may_be_made}
use Rattle.content_laws.specs.Outcomes.{IsCallRow}
use Rattle.soundness_laws.specs.Supports.{Supports}
use Rattle.soundness_laws.proofs.MadeClasses.{classes_on, concrete_may}
use Rattle.content_laws.specs.StepTargets.{FindsIt}
use Rattle.content_laws.specs.Frames.{KeepsTargets, holds_this}
use Rattle.content_laws.proofs.TargetBegun.{finds}
use Rattle.ownership_rules.specs.SmallActions.{IsSmallAction}
use Rattle.content_laws.specs.Steps.{RootsStay}
use Rattle.content_laws.proofs.Carried.{still_awaited, tracks_on}
use Rattle.content_laws.proofs.Entries.{HasBegun, argument_at, entered_tracks, like_parameter}
use Rattle.content_laws.proofs.Births.{heavy_by_unmet}
use Rattle.content_laws.proofs.TrackingGiven.{given_argument}
use Rattle.content_laws.proofs.GivenArguments.{asked_of_operand}
use Rattle.content_laws.proofs.OwnerSteps.{movable_owes}
use Rattle.content_laws.proofs.Chains.{IsOwnedAs, ends_on}
use Rattle.content_laws.proofs.Landing.{landed}
use Rattle.content_laws.specs.Renewing.{is_renewed}
use Rattle.content_laws.specs.PlaceFacts.{IsCovered, gives_none, renews_none, may_owe}
use Rattle.content_laws.specs.Ranges.{LocalsInRange}
use Rattle.content_laws.proofs.RangeValues.{operand_in_range}
use Rattle.content_laws.proofs.Returned.{finished_by}
use Rattle.content_laws.proofs.Ready.{ready, step_here, step_there}
use Rattle.content_laws.proofs.Stacks.{KeepsClasses, called_on, tracked_bounded, tracked_within}
use Rattle.content_laws.proofs.Unmet.{call_may, owner_of, may_lies, object_type_of, unmet_before, way_of_call}

-- the frame of a call that the machine begins
pub record IsStarted (p : Program) (fr callee : Frame) (h : HeapContents) (s : Step) (named runs : MethodId) : Type 0 where
  pub row : IsCallRow s.action
  pub calls : called_method s.action ≡ Some named
  pub method : Method
  pub named_at : method_at p named ≡ Some method
  pub running : Method
  pub may : MayRun p named runs
  pub itself : RunsItself s.action named runs
  pub fit : RunsFor p method running
  pub begun : HasBegun p callee runs running (self_begun fr.locals s.action h) (argument_values fr.locals s.action (method_at p named))

-- the first operand of a call of a super constructor
is_there : (d n : ℕ) → 0 < n → d < 64 → (nat_lt 0 n && nat_le (d + 0) 4294967295) ≡ true
is_there d n some small = grind (arith, nat_tests)

first_value : (l : Locals) (d n : ℕ) → 0 < n → d < 64 → temp_in l (temp_at d n 0) ≡ temp_value l d
first_value l d n some small =
    ap (λ (t : Bool). temp_in l (if t then Some (d + 0) else None)) (is_there d n some small) ∙ ap (temp_value l) (let same : d + 0 ≡ d = omega arith in same)

module _ (p : Program) (ac : Accept p) (forms : HasPlainForms p) (fr callee : Frame) (frs : List Frame) (h : HeapContents) (es : List Entry) (agrees : Agrees p (fr ∷ frs) h es)
    (i : ℕ) (s : Step) (here : slice_get (frame_steps p fr) i ≡ Some s) (named runs : MethodId) (start : IsStarted p fr callee h s named runs) (sup : Supports p h fr) (targets : KeepsTargets p fr) (ranges : LocalsInRange h fr.locals) (old : ℕ → Bool) (covered : IsCovered p h gives_none renews_none old frs fr) where
  abbrev frames : List Frame
  frames = callee ∷ fr ∷ frs

  abbrev heap : HeapContents
  heap = began_heap p fr.locals s.action (method_at p named) (length frames) h

  from : (o : ℕ) (y : Object) → object_at heap o ≡ Some y → IsNewAtStart (method_at p named) h o y ⊎ IsOlderAtStart p fr.locals s.action (method_at p named) (length frames) h o y
  from o y at = begun_from p fr.locals s.action (method_at p named) (length frames) h agrees.links o y at

  links : HasEarlierLinks heap
  links = begun_links p fr.locals s.action (method_at p named) (length frames) h agrees.links

  keeps_links : KeepsLinks h heap
  keeps_links = evolving_heaps-links h heap (begun_evolves p fr.locals s.action (method_at p named) (length frames) h)

  stays : (o : ℕ) (x : Object) → object_at h o ≡ Some x → RootsStay h heap o
  stays o x before u root = roots_go_on-value h heap u o x agrees.links keeps_links root before

  -- what is not finished is not unmet
  not_unmet : (y : Object) → y.finished ≡ false → is_unmet y ≡ true → ⊥
  not_unmet y none unmet = true≢false (sym (and_parts y.finished (not (set.is_subset y.must y.called)) unmet).0 ∙ none)

  answered : (o : ℕ) (y : Object) → object_at heap o ≡ Some y → y.link ≡ None → is_unmet y ≡ true → is_answering y.owner ≡ true
  answered o y at free unmet = elim (from o y at) [
    | inl new ↦ absurd (not_unmet y new.unfinished unmet)
    | inr old ↦ elim old.owner [
      | inl same ↦ ap is_answering same ∙ agrees.answered o old.before old.at (sym old.goes_on.link ∙ free) (unmet_before old.before y old.goes_on unmet)
      | inr given ↦ ap is_answering given.0
    ]
  ]

  keeps : KeepsClasses h heap
  keeps = record {
    count = begun_count p fr.locals s.action (method_at p named) (length frames) h agrees.links;
    class = λ o y at small. elim (from o y at) [
      | inl new ↦ absurd (let number = new.number in omega (arith, number, small))
      | inr old ↦ (old.before, old.at, old.goes_on.class)
    ];
  }

  same_callee : callees.callee p s.action ≡ method_at p named
  same_callee = ap (callee_in p) start.calls

  -- the frame that now waits
  awaits_top : (o j : ℕ) (x y : Object) → object_at h o ≡ Some x → object_at heap o ≡ Some y → GoesOn x y → is_unmet y ≡ true → x.owner ≡ owners.Frame j → y.owner ≡ owners.Frame j → j ≤ length (fr ∷ frs)
      → Tracks p h fr o x → Awaits p heap fr o y
  awaits_top o j x y before now goes unmet mine owner within t = record {
    tracks = tracks_on p h heap false (is_renewed p heap fr o) fr o x y (λ never. absurd (true≢false (sym never))) (stays o x before) goes t;
    stays = λ k u there moved.
        let one : u.action ≡ s.action = one_action p agrees.standing.0.number fr.control i k s u (step_here p fr agrees.standing.0 i s here) (step_here p fr agrees.standing.0 k u there) (call_may s.action start.row) in
        let given : IsGiven p (operand_of fr.locals s.action) 1 (params_in (callees.callee p s.action)) h o x =
        given_argument p h fr.method fr.locals s.action u.edge o j x t.origin t.fact (ready p ac forms fr agrees.standing.0 i s here (way_of_call s start.row)).small t.follows (unmet_before x y goes unmet) mine
        (subst (λ (a : Action). moved_at_call p t.origin a u.edge t.fact ≡ moves.Moves) one moved) in
        let owned : y.owner ≡ owners.Frame (length frames) =
        begun_given p fr.locals s.action (method_at p named) (length frames) h agrees.links given.index given.param o x y
        (subst (λ (m : Option Method). slice_get (params_in m) given.index ≡ Some given.param) same_callee given.at) given.owning given.root before given.may now in
        not_both j (length frames) (sym owner ∙ owned) (beyond within);
  }
    where
      beyond : {k : ℕ} → k ≤ length (fr ∷ frs) → k < length frames
      beyond {k = k} small = omega (arith, small)

      not_both : (j k : ℕ) → owners.Frame j ≡ owners.Frame k → j < k → ⊥
      not_both j k same less = let one : j ≡ k = cc in omega (arith, one, less)

  older_tracked : (o j : ℕ) (x y : Object) → object_at h o ≡ Some x → object_at heap o ≡ Some y → GoesOn x y → is_unmet y ≡ true → x.owner ≡ owners.Frame j → y.owner ≡ owners.Frame j
      → IsTracked p h (fr ∷ frs) o x j → IsTracked p heap frames o y j
  older_tracked o j x y before now goes unmet mine owner t = below (tracked_within p h (fr ∷ frs) o x j t)
    where
      waits_below : j ≤ length (fr ∷ frs) → (b : Bool) → MatchBool b (Tracks p h fr o x) (IsAwaited p h frs o x j) → MatchBool b (Awaits p heap fr o y) (IsAwaited p heap frs o y j)
      waits_below within true w = awaits_top o j x y before now goes unmet mine owner within w
      waits_below within false w = still_awaited p h heap frs o x y j (stays o x before) goes w

      below : j ≤ length (fr ∷ frs) → IsTracked p heap frames o y j
      below within = go (nat_eq (length (fr ∷ frs) + 1) j) refl
        where
          go : (b : Bool) → nat_eq (length (fr ∷ frs) + 1) j ≡ b → MatchBool b (Tracks p heap callee o y) (IsAwaited p heap (fr ∷ frs) o y j)
          go true at = absurd (let same = eqb-true (length (fr ∷ frs) + 1) j at in omega (arith, same, within))
          go false at = waits_below within (nat_eq (length frs + 1) j) t

  -- the frame that begins tracks what it is given
  given_tracks : (o : ℕ) (x y : Object) → object_at h o ≡ Some x → GoesOn x y → is_unmet y ≡ true → set.is_subset x.must (must_of p x.class) ≡ true → IsGiven p (operand_of fr.locals s.action) 1 (params_in (method_at p named)) h o x
      → Tracks p heap callee o y
  given_tracks o x y before goes unmet bound g =
      let lies : set.is_subset (must_of p x.class) (must_of_type p g.param.vtype) ≡ true = may_lies p g.param.vtype x g.may in
      let unmet' = unmet_before x y goes unmet in
      let type = object_type_of p g.param.vtype x unmet' (within_trans x.must (must_of p x.class) (must_of_type p g.param.vtype) bound lies) in
      let at : slice_get start.method.sig.params.items g.index ≡ Some g.param = subst (λ (m : Option Method). slice_get (params_in m) g.index ≡ Some g.param) start.named_at g.at in
      let like = like_parameter start.running.sig.params.items start.method.sig.params.items g.index g.param type.0 start.fit.types start.fit.owning at g.owning type.1 in
      let q = like.0 in
      let fit : fits p x.class type.0 ≡ true = ap (λ (u : VType). set.is_subset (must_of p x.class) (must_of_type p u)) (sym type.1) ∙ lies in
      entered_tracks p ac heap callee runs start.running (self_begun fr.locals s.action h) (argument_values fr.locals s.action (method_at p named)) start.begun
      g.index q type.0 o y like.1 like.2 like.3 (asked type.0 type.1 q like.1 lies unmet' at)
      (ap (λ (c : ClassId). fits p c type.0) goes.class ∙ fit)
      (ap (λ (u : Names). set.is_subset u (must_of p y.class)) goes.must ∙ ap (λ (c : ClassId). set.is_subset x.must (must_of p c)) goes.class ∙ bound)
      (root_now g.index (count g.index g.param g.at) g.root)
    where
      -- what the parameter asks for before was called
      asked : (c : ClassId) → g.param.vtype ≡ types.Obj c → (q : ParamSig) → slice_get start.running.sig.params.items g.index ≡ Some q → set.is_subset (must_of p x.class) (must_of_type p g.param.vtype) ≡ true → is_unmet x ≡ true
          → slice_get start.method.sig.params.items g.index ≡ Some g.param → set.is_subset q.before y.called ≡ true
      asked c type q q_at lies unmet' at =
          let owes : may_owe x ≡ true = movable_owes p g.param.vtype x g.may in
          let heavy : is_heavy_class p c ≡ true =
          heavy_by_unmet p c x unmet' (subst (λ (t : VType). set.is_subset x.must (must_of_type p t) ≡ true) type (within_trans x.must (must_of p x.class) (must_of_type p g.param.vtype) bound lies)) in
          let here_root : root_of h (operand_of fr.locals s.action (g.index + 1)) ≡ Some o = ap (λ (k : ℕ). root_of h (operand_of fr.locals s.action k)) (let same : g.index + 1 ≡ 1 + g.index = omega arith in same) ∙ g.root in
          within_trans q.before g.param.before y.called (start.fit.asks g.index q g.param q_at at)
          (within_trans g.param.before x.called y.called
          (asked_of_operand p ac h fr agrees.standing.0 old frs i s here start.row covered o x before (heavy_by_unmet p x.class x unmet' bound) (inl owes) start.method g.index g.param (same_callee ∙ start.named_at) at g.owning here_root c type heavy) goes.called)

      count : (k : ℕ) (q : ParamSig) → slice_get (params_in (method_at p named)) k ≡ Some q → k < length (params_in (method_at p named))
      count k q at = slice_get_within (params_in (method_at p named)) k q at

      root_now : (k : ℕ) → k < length (params_in (method_at p named)) → root_of h (operand_of fr.locals s.action (1 + k)) ≡ Some o → root_of heap (variable_value callee.locals k) ≡ Some o
      root_now k small root =
          ap (root_of heap) (start.begun.variables k (operand_of fr.locals s.action (1 + k)) (argument_at (operand_of fr.locals s.action) (length (params_in (method_at p named))) k small))
          ∙ stays o x before (operand_of fr.locals s.action (1 + k)) root

  -- an unmet object that moves has no more to be called than its class
  bounded_before : (o : ℕ) (x : Object) (t : VType) → object_at h o ≡ Some x → x.link ≡ None → is_unmet x ≡ true → may_move p t x ≡ true → set.is_subset x.must (must_of p x.class) ≡ true
  bounded_before o x t at free unmet may = elim (owner_of p t x may (agrees.answered o x at free unmet)) [
    | inl frame ↦ tracked_bounded p h (fr ∷ frs) o x frame.0 (agrees.tracked o x frame.0 at unmet frame.1)
    | inr field ↦ sup.bounded o x field.0 field.1 at unmet field.2
  ]

  tracked : (o : ℕ) (y : Object) (j : ℕ) → object_at heap o ≡ Some y → is_unmet y ≡ true → y.owner ≡ owners.Frame j → IsTracked p heap frames o y j
  tracked o y j at unmet owner = elim (from o y at) [
    | inl new ↦ absurd (not_unmet y new.unfinished unmet)
    | inr old ↦ by old old.owner
  ]
    where
      at_top : length frames ≡ j → Tracks p heap callee o y → IsTracked p heap frames o y j
      at_top same t = rw (eq-eqb (length (fr ∷ frs) + 1) j (omega (arith, same))) t

      by : (old : IsOlderAtStart p fr.locals s.action (method_at p named) (length frames) h o y)
          → (y.owner ≡ old.before.owner) ⊎ ((y.owner ≡ owners.Frame (length frames)) × IsGiven p (operand_of fr.locals s.action) 1 (params_in (method_at p named)) h o old.before) → IsTracked p heap frames o y j
      by old (inl same) =
          let mine : old.before.owner ≡ owners.Frame j = sym same ∙ owner in
          older_tracked o j old.before y old.at at old.goes_on unmet mine owner (agrees.tracked o old.before j old.at (unmet_before old.before y old.goes_on unmet) mine)
      by old (inr given) =
          let unmet' = unmet_before old.before y old.goes_on unmet in
          at_top (let same : owners.Frame (length frames) ≡ owners.Frame j = sym given.0 ∙ owner in cc)
          (given_tracks o old.before y old.at old.goes_on unmet (bounded_before o old.before given.1.param.vtype old.at (roots_go_on-root h (operand_of fr.locals s.action (1 + given.1.index)) o old.before agrees.links given.1.root old.at) unmet' given.1.may) given.1)

  -- the object of a `new` is that of the constructor's class
  is_made : (k : MethodId) → k ≡ named → next_number h < next_number heap → IsMade p heap k (values.Object (next_number h))
  is_made k same more = (
    next_number h,
    refl,
    more,
    λ y at. elim (from (next_number h) y at) [
      | inl new ↦ ap (λ (m : MethodId). class_of_method (method_at p m)) same ∙ new.class
      | inr old ↦ absurd (let range = numbers_are_in_range h (next_number h) old.before old.at in let below = range.1 in omega (arith, below))
    ],
    omega arith,
  )

  made_by : (a : Action) → s.action ≡ a → IsMadeByNew p heap a (self_begun fr.locals a h)
  made_by actions.Skip is = tt
  made_by (actions.New m d n) is =
      is_made m (let same : Some m ≡ Some named = ap called_method (sym is) ∙ start.calls in cc)
      (subst (λ (a : Action). next_number h < next_number (began_heap p fr.locals a (method_at p named) (length frames) h)) (sym is)
      (subst (λ (x : Option Method). next_number h < next_number (began_heap p fr.locals (actions.New m d n) x (length frames) h)) (sym start.named_at)
      (begun_makes p fr.locals (actions.New m d n) start.method (length frames) h tt)))
  made_by a is = tt

  -- it is made after the arguments
  made_after : (a : Action) → s.action ≡ a → IsMadeAfter p fr.locals a (self_begun fr.locals a h)
  made_after actions.Skip is = tt
  made_after (actions.New m d n) is = λ k w number to. by_position k w number (alias_position (method_at p m)) to
    where
      by_position : (k w : ℕ) → Some (next_number h) ≡ Some k → (q : Option ℕ) → object_by (operand_of fr.locals (actions.New m d n)) q ≡ Some w → (0 < w) × (w < k)
      by_position k w number None to = absurd (let never : None ≡ Some w = to in cc)
      by_position k w number (Some q) to =
          let same : next_number h ≡ k = cc in
          let range = operand_in_range h fr.locals ranges (actions.New m d n) q w to in
          let above = range.0 in
          let below = range.1 in
          (above, omega (arith, same, below))
  made_after a is = tt

  -- a super constructor runs on `this`
  same_this : (a : Action) → s.action ≡ a → RunsOnSame a fr.locals.this (self_begun fr.locals a h)
  same_this actions.Skip is = tt
  same_this (actions.Super m d n) is =
      let it : FindsIt p targets.body (actions.Super m d n) (holds_this fr.locals) = subst (λ (a : Action). FindsIt p targets.body a (holds_this fr.locals)) is (finds p ac fr targets i s here) in
      let few : IsSmallAction p (actions.Super m d n) = subst (IsSmallAction p) is (ready p ac forms fr agrees.standing.0 i s here (way_of_call s start.row)).small in
      first_value fr.locals d n it.2 few.0 ∙ it.0 few.0
  same_this a is = tt

  waits : WaitsFor p heap fr callee
  waits = record {
    index = i;
    step = s;
    here = here;
    named = named;
    calls = start.calls;
    runs = subst (MayRun p named) (sym start.begun.method) start.may;
    itself = subst (RunsItself s.action named) (sym start.begun.method) start.itself;
    kind = ap (λ (m : MethodId). constructs (method_at p m)) start.begun.method ∙ ap constructs start.begun.named ∙ start.fit.makes ∙ sym (ap constructs start.named_at);
    on_same = subst (RunsOnSame s.action fr.locals.this) (sym start.begun.this) (same_this s.action refl);
    makes = subst (IsMadeByNew p heap s.action) (sym start.begun.this) (made_by s.action refl);
    after = subst (IsMadeAfter p fr.locals s.action) (sym start.begun.this) (made_after s.action refl);
  }

  -- what the call makes is owned by nobody
  made_last : (a : Action) (o : ℕ) (x : Object) → object_at (object_of_new a (method_at p named) h) o ≡ Some x → (x.owner ≡ owners.Unowned) ⊎ (object_at h o ≡ Some x)
  made_last actions.Skip o x at = inr at
  made_last (actions.New m d n) o x at = go (method_at p named) at
    where
      appended : (c : ClassId) (b : Bool) → nat_eq o (next_number h) ≡ b → (if b then Some (unfinished c) else object_at h o) ≡ Some x → (x.owner ≡ owners.Unowned) ⊎ (object_at h o ≡ Some x)
      appended c true here same = inl (sym (ap (λ (z : Object). z.owner) (let one : unfinished c ≡ x = cc in one)))
      appended c false here same = inr same

      go : (k : Option Method) → object_at (object_of_new (actions.New m d n) k h) o ≡ Some x → (x.owner ≡ owners.Unowned) ⊎ (object_at h o ≡ Some x)
      go None at' = inr at'
      go (Some k) at' = appended k.class (nat_eq o (next_number h)) refl (sym (appended_object_at-object h k.class o) ∙ at')
  made_last a o x at = inr at

  owned : (o : ℕ) (y : Object) → object_at heap o ≡ Some y → IsOwnedAs h heap o y
  owned o y at =
      let old = moved_arguments_are_older-older p (owners.Frame (length frames)) (operand_of fr.locals s.action) 1 (params_in (method_at p named)) (object_of_new s.action (method_at p named) h) o y at in
      let caused = moved_arguments_are_given p (owners.Frame (length frames)) (operand_of fr.locals s.action) 1 (params_in (method_at p named)) (object_of_new s.action (method_at p named) h) o old.before y old.at at in
      elim caused [
        | inl same ↦ elim (made_last s.action o old.before old.at) [
          | inl none ↦ inl (subst IsLast (sym (same ∙ none)) tt, inr (same ∙ none))
          | inr was ↦ inr (inl (old.before, was, (same, old.goes_on.finished)))
        ]
        | inr given ↦ (let done : y.finished ≡ true = old.goes_on.finished ∙ finished_by p given.param.vtype old.before given.may in
            elim old.owner [
              | inl same ↦ elim (made_last s.action o old.before old.at) [
                | inl none ↦ inl (subst IsLast (sym (same ∙ none)) tt, inl done)
                | inr was ↦ inr (inl (old.before, was, (same, old.goes_on.finished)))
              ]
              | inr moved ↦ inl (subst IsLast (sym moved) tt, inl done)
            ])
      ]

  ends : HaveEnds heap
  ends = ends_on h heap agrees.ends keeps.count owned

  -- what the call makes is of a class that is not abstract
  concrete : MakesConcrete p s.action
  concrete = makes_concrete p ac.well_formed.valid.typed agrees.standing.0.number agrees.standing.0.body fr.control i (move_of s) agrees.standing.0.at agrees.standing.0.control (step_there p fr agrees.standing.0 i s here)

  made_class : (a : Action) → MakesConcrete p a → called_method a ≡ Some named → (o : ℕ) (x : Object) → object_at (object_of_new a (method_at p named) h) o ≡ Some x
      → (may_be_made p x.class ≡ true) ⊎ (object_at h o ≡ Some x)
  made_class actions.Skip makes calls o x at = inr at
  made_class (actions.New m d n) makes calls o x at =
      go (method_at p named)
      (subst (λ (k : MethodId). IsSomeAnd (method_at p k) (λ z. is_abstract p z.class ≡ false)) (let both : Some m ≡ Some named = calls in (let one : m ≡ named = cc in one)) makes) at
    where
      appended : (c : ClassId) → is_abstract p c ≡ false → (b : Bool) → nat_eq o (next_number h) ≡ b → (if b then Some (unfinished c) else object_at h o) ≡ Some x
          → (may_be_made p x.class ≡ true) ⊎ (object_at h o ≡ Some x)
      appended c plain true here' same = inl (subst (λ (z : Object). may_be_made p z.class ≡ true) (let one : unfinished c ≡ x = cc in one) (concrete_may p c plain))
      appended c plain false here' same = inr same

      go : (k : Option Method) → IsSomeAnd k (λ z. is_abstract p z.class ≡ false) → object_at (object_of_new (actions.New m d n) k h) o ≡ Some x → (may_be_made p x.class ≡ true) ⊎ (object_at h o ≡ Some x)
      go None plain at' = inr at'
      go (Some k) plain at' = appended k.class plain (nat_eq o (next_number h)) refl (sym (appended_object_at-object h k.class o) ∙ at')
  made_class a makes calls o x at = inr at

  classes : HasMadeClasses p heap
  classes = classes_on p h heap agrees.classes (λ o y at.
      let old = moved_arguments_are_older-older p (owners.Frame (length frames)) (operand_of fr.locals s.action) 1 (params_in (method_at p named)) (object_of_new s.action (method_at p named) h) o y at in
      elim (made_class s.action concrete start.calls o old.before old.at) [ inl new ↦ inr (ap (may_be_made p) old.goes_on.class ∙ new) | inr was ↦ inl (old.before, was, old.goes_on.class) ])

  pub began_agrees : (pos : Pos)
      → Agrees p frames (started p h fr.locals s.action (method_at p named) (length frames) pos (held_by frames)).heap
      (es ++ (started p h fr.locals s.action (method_at p named) (length frames) pos (held_by frames)).lines)
  began_agrees pos = landed p frames heap es pos (began_entries p pos fr.locals s.action (method_at p named) (length frames) h)
      (start.begun.stands, agrees.standing) (waits, called_on p h heap keeps fr fr frs refl refl agrees.stacked) links ends classes tracked answered agrees.no_leak
      (begun_leaks_nothing p fr.locals s.action (method_at p named) (length frames) h agrees.links pos)

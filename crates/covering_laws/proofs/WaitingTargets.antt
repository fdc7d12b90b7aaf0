-- A frame waits for a call that creates the obligation of an object anew, or stands at one: which facts have the object, and that the frame tracks it if it owns it.
use Rattle.covering_laws.proofs.AliasedResets.{aliased_resets_nothing}
use Rattle.covering_laws.proofs.OwnerSteps.{own_frame}
use Rattle.covering_laws.proofs.Owners.{lent_not_from}
use Rattle.covering_laws.proofs.RenewedOperands.{HoldsLent, IsHeldOrLent, claims_or_lends, lent_hand}
use Rattle.std.proofs.Common.{Bool, List, None, Option, Some, ap, arith, eqb-true, false, inl, inr, length, refl, slice_get, subst, sym, true, true≢false, ℕ, ◌&&◌, ◌+◌, ◌<◌, ◌||◌, ◌∙◌, ◌≡◌, ◌⊎◌}
use Rattle.std.specs.FinSet as set
use Rattle.std.proofs.lemmas.Bool.{and_from, and_parts}
use Rattle.rlc_base.proofs.SetLaws.{empty_within, within_trans}
use Rattle.program_model.specs.declared.kinds.BodyId.{BodyId}
use Rattle.program_model.specs.declared.program.Method.{Method}
use Rattle.program_model.specs.declared.program.Program.{Program}
use Rattle.program_model.specs.Lookups.{method_at}
use Rattle.ledger_obligations.specs.Bodies.{reset_in}
use Rattle.ledger_obligations.specs.MustCallSets.{fits, is_heavy_class, must_of}
use Rattle.java_control.specs.Control.{Step}
use Rattle.java_control.specs.PlaceNumbers.{IsSmall}
use Rattle.control_actions.specs.declared.action.Action.{Action}
use Rattle.control_actions.specs.declared.fact.Mode.{Mode}
use Rattle.control_actions.specs.declared.fact.Mode.TheVariants as modes
use Rattle.control_actions.specs.declared.fact.OriginKind.{OriginKind}
use Rattle.control_actions.specs.declared.fact.OriginKind.TheVariants as kinds
use Rattle.control_actions.specs.declared.place.Place.{Place}
use Rattle.control_actions.specs.declared.place.Place.TheVariants as places
use Rattle.ownership_rules.specs.Callees.{callee}
use Rattle.ownership_rules.specs.Facts.{PlaceSet, has, has_temp, is_held, is_nowhere, is_origin_at, is_own}
use Rattle.ownership_rules.specs.MovesAtCalls.{moved_at_call}
use Rattle.ownership_rules.specs.SmallActions.{IsSmallTemp}
use Rattle.ownership_rules.specs.declared.moved.Moved.TheVariants as moves
use Rattle.ownership_rules.proofs.SmallOperands.{operand_has_room}
use Rattle.ledger_state.specs.Contents.{HeapContents}
use Rattle.ledger_state.specs.Heaps.{object_at, root_of}
use Rattle.ledger_state.specs.declared.entry.Owner.{Owner}
use Rattle.ledger_state.specs.declared.entry.Owner.TheVariants as owners
use Rattle.ledger_state.specs.declared.object.Object.{Object}
use Rattle.value_laws.specs.Accept.{Accept}
use Rattle.value_laws.specs.Agreement.{Awaits, Follows, Stands, TracksAs}
use Rattle.value_laws.specs.Anew.{MayBeAnew, holds_target, is_target}
use Rattle.value_laws.specs.Choosing.{body_id, frame_steps}
use Rattle.value_laws.specs.Configuration.{Frame}
use Rattle.value_laws.specs.Outcomes.{IsCallRow}
use Rattle.value_laws.specs.Paths.{Reach, move_of, relation_of}
use Rattle.value_laws.specs.PlaceFacts.{Covers, IsCovered, IsKeyed, IsOwned, claims, is_given, is_idle, is_lent, is_lent_place, is_owning_fact, OwesOrHolds, owned, unowned}
use Rattle.value_laws.specs.PlacePlaces.{HasPlacesAlone, is_local}
use Rattle.value_laws.specs.Places.{place_value}
use Rattle.value_laws.specs.Renewing.{IsWhole, fact_as, is_renewed, is_reread, lends_this, answers_for_fields, renews}
use Rattle.value_laws.specs.Steps.{RootsStay}
use Rattle.value_laws.proofs.Carried.{local_value}
use Rattle.value_laws.proofs.CallWays.{one_action}
use Rattle.value_laws.proofs.FactOrigins.{this_own}
use Rattle.value_laws.proofs.FrameFollowing.{breaks_nothing}
use Rattle.value_laws.proofs.Going.{somewhere}
use Rattle.value_laws.proofs.Needs.{origin_needs_all}
use Rattle.ledger_steps.specs.LedgerCallsCalls.{operand_of}
use Rattle.value_laws.specs.Chains.{HaveEnds}
use Rattle.value_laws.specs.Frames.{KeepsTargets}
use Rattle.covering_laws.specs.Sight.{MakesThis}
use Rattle.value_laws.proofs.Readings.{mode_as, places_as, renewed_operand}
use Rattle.value_laws.proofs.Ready.{step_here, step_there}
use Rattle.value_laws.proofs.ResetTargets.{answered_targets}
use Rattle.value_laws.proofs.Resetting.{answered_target}
use Rattle.value_laws.proofs.Tracking.{same_body}
use Rattle.value_laws.proofs.Unmet.{call_may}
use Rattle.covering_laws.proofs.Bodies.{running_method}
use Rattle.covering_laws.proofs.Following.{small_step}
use Rattle.covering_laws.proofs.GivenArguments.{away_moves}
use Rattle.covering_laws.proofs.GivenAway.{at_any, given_at_step}
use Rattle.covering_laws.proofs.HeavyFields.{claims_by, claims_owned, not_held_not_idle, owning_in_no_field}
use Rattle.covering_laws.proofs.KnownNames.{operand_temp}

own_mode : (m : Mode) → is_own m ≡ true → m ≡ modes.Own
own_mode modes.Own is = refl
own_mode modes.None is = absurd (true≢false (sym is))
own_mode modes.Held is = absurd (true≢false (sym is))
own_mode modes.Lent is = absurd (true≢false (sym is))
own_mode modes.Alias is = absurd (true≢false (sym is))

pub this_kind : (kind : OriginKind) → is_origin_at kind (Some 0) ≡ true → kind ≡ kinds.ThisRef
this_kind kinds.ThisRef is = refl
this_kind (kinds.Param j) is = absurd (let same : j + 1 ≡ 0 = eqb-true (j + 1) 0 is in omega (arith, same))
this_kind kind is = absurd (true≢false (sym is))

-- ---- a fact that says that the frame owns the object

module _ (p : Program) (ac : Accept p) (h : HeapContents) (fr : Frame) (old : ℕ → Bool) (frs : List Frame) (st : Stands p fr) (away anew : Bool) (o : ℕ) (x : Object)
    (c : Covers p h away anew old frs fr o x) (key : IsOwned p h away anew old frs fr o x c) (own : is_own c.fact.mode ≡ true) where
  reached : Reach p st.number (relation_of p st.number) c.origin fr.control c.fact
  reached = subst (λ (b : BodyId). Reach p b (relation_of p b) c.origin fr.control c.fact) (same_body c.body st.number (body_id p fr.method) c.id st.id) c.reached

  owning' : is_owning_fact p c.origin c.fact ≡ true
  owning' = and_from (is_heavy_class p c.origin.class) (is_own c.fact.mode)
      (and_parts (is_heavy_class p c.origin.class) (is_own c.fact.mode || is_held c.fact.mode && answers_for_fields (method_at p fr.method)) key.owning).0 own

  unheld : is_held c.fact.mode ≡ false
  unheld = ap is_held (own_mode c.fact.mode own)

  -- something is said of it
  said : is_idle p frs fr c.fact ≡ false
  said = not_held_not_idle p frs fr c.fact unheld

  -- no owning field holds it
  no_field : (k : ℕ) → k < 16 → has c.fact.places (places.Field k) ≡ true → ⊥
  no_field = owning_in_no_field p h away anew old frs fr o x c owning'

  -- nor is it `this`, which is lent
  no_this : has c.fact.places places.This ≡ true → ⊥
  no_this is =
      let run = running_method p ac fr st in
      let kind = this_kind c.origin.kind (this_own p ac st.number st.body st.at c.origin fr.control c.fact reached is) in
      let lent : is_lent p (method_at p fr.method) c.origin.kind ≡ true =
      ap (is_lent p (method_at p fr.method)) kind ∙ ap (λ (z : Option Method). is_lent p z kinds.ThisRef) run.1 in
      true≢false (sym owning' ∙ (c.lent lent).0)

  local_places : (q : Place) → IsSmall q → has c.fact.places q ≡ true → is_local q ≡ true
  local_places (places.Var i) small is = refl
  local_places (places.Temp d) small is = refl
  local_places places.This small is = absurd (no_this is)
  local_places (places.Field k) small is = absurd (no_field k small is)
  local_places places.Super small is = absurd (let never : None ≡ Some o = c.places said places.Super small refl is in cc)

  local_kept : (q : Place) → is_local q ≡ true → is_lent_place p fr q ≡ false
  local_kept (places.Var i) is = refl
  local_kept (places.Temp d) is = refl
  local_kept places.This is = absurd (true≢false (sym is))
  local_kept (places.Field k) is = absurd (true≢false (sym is))
  local_kept places.Super is = absurd (true≢false (sym is))

  -- tracks it, unless it is given away
  pub covered_tracks : away ≡ false → (t : ℕ) → has c.fact.places (places.Temp t) ≡ true → (later : Bool) → anew ≡ later → (it : TracksAs p h later fr o x) × (it.fact ≡ c.fact) × (it.origin ≡ c.origin)
  covered_tracks kept t there later alike =
      let truth = c.true' key.owning (ap (λ (b : Bool). b && is_own c.fact.mode) kept) (ap (λ (b : Bool). b && lends_this p fr) unheld) in
      let same : c.fact.places ≡ (fact_as anew c.fact).places = sym (places_as anew c.fact) in (
        record {
          body = c.body;
          id = c.id;
          origin = c.origin;
          fact = c.fact;
          reached = c.reached;
          follows = subst (λ (b : Bool). Follows p h fr.method fr.locals o x c.origin (fact_as b c.fact)) alike (record {
            own = mode_as anew c.fact ∙ own_mode c.fact.mode own;
            class = truth.class;
            bounded = truth.bounded;
            need = truth.need;
            called = truth.called;
            some = ap is_nowhere (places_as anew c.fact) ∙ somewhere c.fact.places (places.Temp t) there;
            alone = subst HasPlacesAlone same c.alone;
            places = λ q small is. let in' : has c.fact.places q ≡ true = ap (λ (held : PlaceSet). has held q) same ∙ is in (local_places q small in', c.places said q small (local_kept q (local_places q small in')) in');
          });
        },
        refl,
        refl,
      )

-- ---- the fact that has the target

module _ (p : Program) (ac : Accept p) (h : HeapContents) (fr : Frame) (old : ℕ → Bool) (frs : List Frame) (st : Stands p fr)
    (i : ℕ) (s : Step) (here : slice_get (frame_steps p fr) i ≡ Some s) (row : IsCallRow s.action) where
  module _ (away anew : Bool) (o : ℕ) (x : Object) (c : Covers p h away anew old frs fr o x) (target : is_target p s.action c.fact.places ≡ true) where
    pub target_reached : Reach p st.number (relation_of p st.number) c.origin fr.control c.fact
    target_reached = subst (λ (b : BodyId). Reach p b (relation_of p b) c.origin fr.control c.fact) (same_body c.body st.number (body_id p fr.method) c.id st.id) c.reached

    pub answer : (k : ℕ) × (reset_in (callee p s.action) ≡ Some k) × MayBeAnew p st.number c.origin s.action k c.fact × (moved_at_call p c.origin s.action s.edge c.fact ≡ moves.Moves → ⊥)
    answer = elim (answered_target p st.number c.origin s.action s.edge c.fact row target) [
      | inl fault ↦ absurd (breaks_nothing p ac st.number c.origin i (move_of s) c.fact target_reached (step_there p fr st i s here) fault)
      | inr is ↦ is
    ]

    -- it claims the object, or says that it is lent
    pub target_mode : (claims p (method_at p fr.method) c.origin c.fact ≡ true) ⊎ (c.fact.mode ≡ modes.Lent)
    target_mode =
        let run = running_method p ac fr st in
        claims_or_lends p fr st c.origin c.fact
        (answered_targets p ac st.number st.body run.0 st.at (ap (method_at p) st.method ∙ run.1) (λ aliased k n t comes there. aliased_resets_nothing p ac st.number n t comes there aliased)
        c.origin fr.control c.fact target_reached s.action answer.0 answer.2)

    -- and it does not move
    pub target_stays : moved_at_call p c.origin s.action s.edge c.fact ≡ moves.Moves → ⊥
    target_stays = answer.3

  -- a place that holds the object is the operand
  pub target_temp : (o : ℕ) → renews p h fr.locals s.action o ≡ true
      → (t : ℕ) × IsSmall (places.Temp t) × (root_of h (place_value p h fr.method fr.locals (places.Temp t)) ≡ Some o) × ((held : PlaceSet) → has held (places.Temp t) ≡ true → is_target p s.action held ≡ true)
  target_temp o is =
      let k = renewed_operand p h fr.locals s.action o is in
      let t = operand_temp fr.locals s.action k.0 h o k.2 in (
        t.0,
        subst IsSmallTemp t.1 (operand_has_room p s.action k.0 (small_step p ac fr st i s here)),
        ap (root_of h) (sym t.2) ∙ k.2,
        λ held in'. ap (holds_target s.action held) k.1 ∙ ap (has_temp held) t.1 ∙ in',
      )

-- ---- frames that wait

-- an object whose obligation the call creates anew is read so
pub read_alike : (p : Program) (h : HeapContents) (fr : Frame) (o : ℕ) (owner : Owner) → is_renewed p h fr o ≡ true → is_reread p h fr o owner ≡ is_renewed p h fr o
read_alike p h fr o owner renewed = refl

-- the call at which the frame waits is that of each of its steps
pub renewed_at_step : (p : Program) (h : HeapContents) (fr : Frame) → Stands p fr → (i : ℕ) (s : Step) (o : ℕ) → slice_get (frame_steps p fr) i ≡ Some s → IsCallRow s.action → is_renewed p h fr o ≡ true
    → renews p h fr.locals s.action o ≡ true
renewed_at_step p h fr st i s o here row is =
    let t = at_any (λ (u : Step). renews p h fr.locals u.action o) (frame_steps p fr) is in
    let one : t.1.action ≡ s.action = one_action p st.number fr.control i t.0 s t.1 (step_here p fr st i s here) (step_here p fr st t.0 t.1 t.2) (call_may s.action row) in
    ap (λ (a : Action). renews p h fr.locals a o) (sym one) ∙ t.3

-- the frame that waits and owns the object has it in a fact that says so, with the operand
pub record OwnsTarget (p : Program) (h : HeapContents) (old : ℕ → Bool) (frs : List Frame) (fr : Frame) (o : ℕ) (x : Object) : Type 0 where
  pub covers : Covers p h (is_given p h fr o x.class) (is_reread p h fr o x.owner) old frs fr o x
  pub key : IsOwned p h (is_given p h fr o x.class) (is_reread p h fr o x.owner) old frs fr o x covers
  pub temp : ℕ
  pub there : has covers.fact.places (places.Temp temp) ≡ true
  pub own : is_own covers.fact.mode ≡ true
  pub kept : is_given p h fr o x.class ≡ false
  pub target : (i : ℕ) (s : Step) → slice_get (frame_steps p fr) i ≡ Some s → is_target p s.action covers.fact.places ≡ true
  pub stays : (i : ℕ) (s : Step) → slice_get (frame_steps p fr) i ≡ Some s → moved_at_call p covers.origin s.action s.edge covers.fact ≡ moves.Moves → ⊥

module _ (p : Program) (ac : Accept p) (h : HeapContents) (fr : Frame) (old : ℕ → Bool) (frs : List Frame) (st : Stands p fr)
    (i : ℕ) (s : Step) (here : slice_get (frame_steps p fr) i ≡ Some s) (row : IsCallRow s.action) (covered : IsCovered p h (is_given p h fr) (is_reread p h fr) old frs fr) (holds : HoldsLent p h old frs fr st)
    (have : HaveEnds h) (targets : KeepsTargets p fr) (making : MakesThis p h fr) (o : ℕ) (x : Object) (at : object_at h o ≡ Some x) (heavy : is_heavy_class p x.class ≡ true) (owes : OwesOrHolds p h o x) (whole : IsWhole p x) (renewed : is_renewed p h fr o ≡ true) where
  abbrev away : Bool
  away = is_given p h fr o x.class

  abbrev anew : Bool
  anew = is_reread p h fr o x.owner

  pub temp : (t : ℕ) × IsSmall (places.Temp t) × (root_of h (place_value p h fr.method fr.locals (places.Temp t)) ≡ Some o) × ((held : PlaceSet) → has held (places.Temp t) ≡ true → is_target p s.action held ≡ true)
  temp = target_temp p ac h fr old frs st i s here row o (renewed_at_step p h fr st i s o here row renewed)

  -- it is in a fact that says so
  pub owns_target : (c : Covers p h away anew old frs fr o x) → has c.fact.places (places.Temp temp.0) ≡ true → IsOwned p h away anew old frs fr o x c → is_own c.fact.mode ≡ true → OwnsTarget p h old frs fr o x
  owns_target c in' key own = record {
    covers = c;
    key = key;
    temp = temp.0;
    there = in';
    own = own;
    kept = none_away away refl;
    target = λ n t there. ap (λ (a : Action). is_target p a c.fact.places) (one n t there) ∙ temp.3 c.fact.places in';
    stays = λ n t there. target_stays p ac h fr old frs st n t there (subst IsCallRow (sym (one n t there)) row) away anew o x c (ap (λ (a : Action). is_target p a c.fact.places) (one n t there) ∙ temp.3 c.fact.places in');
  }
    where
      one : (n : ℕ) (t : Step) → slice_get (frame_steps p fr) n ≡ Some t → t.action ≡ s.action
      one n t there = one_action p st.number fr.control i n s t (step_here p fr st i s here) (step_here p fr st n t there) (call_may s.action row)

      none_away : (b : Bool) → away ≡ b → away ≡ false
      none_away false kept = kept
      none_away true gives = absurd (target_stays p ac h fr old frs st i s here row away anew o x c (temp.3 c.fact.places in')
          (away_moves p ac h fr st old frs i s here row away anew o x c key heavy (given_at_step p h fr st i s o x.class here row gives)))

  -- the object is in a fact that says that the frame owns it, or it is lent, or a field of what the frame's constructor makes owns it, or one of `this`, which is lent
  pub owned_or_lent : OwnsTarget p h old frs fr o x ⊎ IsHeldOrLent p h frs fr o x.owner
  owned_or_lent = by (covered (places.Temp temp.0) o x temp.1 refl temp.2 at heavy owes)
    where
      position : (k : ℕ) × (reset_in (callee p s.action) ≡ Some k) × (root_of h (operand_of fr.locals s.action k) ≡ Some o)
      position = renewed_operand p h fr.locals s.action o (renewed_at_step p h fr st i s o here row renewed)

      lent : (c : Covers p h away anew old frs fr o x) → has c.fact.places (places.Temp temp.0) ≡ true → c.fact.mode ≡ modes.Lent → IsHeldOrLent p h frs fr o x.owner
      lent c in' mode =
          let is = answer p ac h fr old frs st i s here row away anew o x c (temp.3 c.fact.places in') in
          elim (lent_hand p ac h have fr st targets making old frs i s here away anew o x at c mode position.0 position.2
          (subst (λ (n : ℕ). MayBeAnew p st.number c.origin s.action n c.fact) (let both : Some is.0 ≡ Some position.0 = sym is.1 ∙ position.1 in (let one : is.0 ≡ position.0 = cc in one)) is.2) whole) [
            | inl lends ↦ inl lends
            | inr made ↦ inr (inr (inr made))
          ]

      by : IsKeyed p h away anew old frs fr (places.Temp temp.0) o x → OwnsTarget p h old frs fr o x ⊎ IsHeldOrLent p h frs fr o x.owner
      by (owned c in' key) = elim (claims_by p (method_at p fr.method) c.origin c.fact key.owning) [
        | inl own ↦ inl (owns_target c in' key own)
        | inr held ↦ inr (holds o x at heavy owes whole renewed away anew c held.0 held.1 (claims_owned p (method_at p fr.method) c.origin c.fact key.owning).0)
      ]
      by (unowned u) = elim (target_mode p ac h fr old frs st i s here row away anew o x u.covers (temp.3 u.covers.fact.places u.here)) [
        | inl claimed ↦ absurd (true≢false (sym claimed ∙ u.unowned))
        | inr lends ↦ inr (lent u.covers u.here lends)
      ]

  -- where the frame owns it
  pub its_owner : x.owner ≡ owners.Frame (length frs + 1) → OwnsTarget p h old frs fr o x
  its_owner mine = elim owned_or_lent [
    | inl is ↦ is
    | inr other ↦ absurd (elim other [
      | inl lent ↦ true≢false (sym (own_frame (length frs + 1) x.owner mine) ∙ lent_not_from p h frs o x.owner lent)
      | inr field ↦ elim field [
        | inl held ↦ (let never : owners.Field held.1.holder held.1.field ≡ owners.Frame (length frs + 1) = sym held.1.owns ∙ mine in cc)
        | inr more ↦ elim more [
          | inl held ↦ (let never : owners.Field held.holder held.field ≡ owners.Frame (length frs + 1) = sym held.owns ∙ mine in cc)
          | inr made ↦ (let never : ◌≡◌ {A = Owner} owners.Unowned (owners.Frame (length frs + 1)) = sym made.1 ∙ mine in cc)
        ]
      ]
    ])
  ]

  -- so it tracks it
  awaits : OwnsTarget p h old frs fr o x → Awaits p h fr o x
  unfolding covered_tracks
  awaits it = record {
    tracks = (covered_tracks p ac h fr old frs st away anew o x it.covers it.key it.own it.kept it.temp it.there (is_renewed p h fr o) (read_alike p h fr o x.owner renewed)).0;
    stays = λ n u there moved. it.stays n u there moved;
  }

  pub owner_awaits : x.owner ≡ owners.Frame (length frs + 1) → Awaits p h fr o x
  owner_awaits mine = awaits (its_owner mine)

-- ---- over the reset

-- what is true of the object, as it is read anew, is so when its obligation is created anew
pub follows_anew : (p : Program) (h k : HeapContents) (before after : Bool) (fr : Frame) (o : ℕ) (x y : Object) → after ≡ true → RootsStay h k o → y.class ≡ x.class → set.is_subset y.must (must_of p y.class) ≡ true
    → (t : TracksAs p h before fr o x) → Follows p k fr.method fr.locals o y t.origin (fact_as after t.fact)
follows_anew p h k before after fr o x y anew stay class bounded t = subst (λ (b : Bool). Follows p k fr.method fr.locals o y t.origin (fact_as b t.fact)) (sym anew) (record {
  own = sym (mode_as before t.fact) ∙ t.follows.own;
  class = its_class;
  bounded = bounded;
  need = ap (set.is_subset y.must) (origin_needs_all p t.body t.origin fr.control t.fact t.reached) ∙ within_trans y.must (must_of p y.class) (must_of p t.origin.class) bounded its_class;
  called = empty_within y.called;
  some = ap is_nowhere (sym (places_as before t.fact)) ∙ t.follows.some;
  alone = subst HasPlacesAlone (places_as before t.fact) t.follows.alone;
  places = λ q small is.
      let was = t.follows.places q small (ap (λ (held : PlaceSet). has held q) (places_as before t.fact) ∙ is) in
      (was.0, ap (root_of k) (local_value p h k fr.method fr.locals q was.0) ∙ stay (place_value p h fr.method fr.locals q) was.1);
})
  where
    its_class : fits p y.class t.origin.class ≡ true
    its_class = ap (λ c. fits p c t.origin.class) class ∙ t.follows.class

-- so a frame that tracks it goes on to do so
abbrev pub tracks_anew : (p : Program) (h k : HeapContents) (before after : Bool) (fr : Frame) (o : ℕ) (x y : Object) → after ≡ true → RootsStay h k o → y.class ≡ x.class
    → set.is_subset y.must (must_of p y.class) ≡ true → TracksAs p h before fr o x → TracksAs p k after fr o y
tracks_anew p h k before after fr o x y anew stay class bounded t = record {
  body = t.body;
  id = t.id;
  origin = t.origin;
  fact = t.fact;
  reached = t.reached;
  follows = follows_anew p h k before after fr o x y anew stay class bounded t;
}

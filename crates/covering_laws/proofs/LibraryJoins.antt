-- A call of the library, or a read of its constant, begins and ends in one step of the top frame.
use Rattle.std.specs.Prelude.{MatchBool, not}
use Rattle.std.proofs.Common.{Bool, List, None, Option, Some, ap, arith, false, if◌then◌else◌, inl, inr, refl, subst, suc, length, sym, true, true≢false, zero, ℕ, ◌+◌, ◌∙◌, ◌∷◌, ◌≡◌, ◌⊎◌}
use Rattle.std.proofs.lemmas.List.Elements.{All-tail}
use Rattle.std.specs.FinSet as set
use Rattle.rlc_base.specs.declared.name_id.NameId.{NameId}
use Rattle.rlc_base.proofs.SetLaws.{within_self, within_trans}
use Rattle.program_model.specs.declared.kinds.ClassId.{ClassId}
use Rattle.program_model.specs.declared.kinds.MethodId.{MethodId}
use Rattle.program_model.specs.declared.kinds.MethodKind.TheVariants as methods
use Rattle.program_model.specs.declared.kinds.VType.TheVariants as types
use Rattle.program_model.specs.declared.program.Method.{Method}
use Rattle.program_model.specs.declared.program.ParamSig.{ParamSig}
use Rattle.program_model.specs.declared.program.Program.{Program}
use Rattle.program_model.specs.Lookups.{method_at}
use Rattle.ledger_obligations.specs.Bodies.{alias_in, constructs, is_constructor_kind}
use Rattle.ledger_obligations.specs.MustCallSets.{Names, fits, is_heavy_class, must_of, no_names}
use Rattle.ledger_obligations.specs.WellFormed.{HasSmallInterests}
use Rattle.java_control.specs.Calls.{called_method}
use Rattle.java_control.specs.Control.{Step}
use Rattle.java_control.specs.PlaceNumbers.{IsSmall}
use Rattle.control_actions.specs.declared.action.Action.{Action}
use Rattle.control_actions.specs.declared.action.Action.TheVariants as actions
use Rattle.control_actions.specs.declared.action.Edge.{Edge}
use Rattle.control_actions.specs.declared.action.Edge.TheVariants as edges
use Rattle.control_actions.specs.declared.action.PlainValue.TheVariants as plain_values
use Rattle.control_actions.specs.declared.action.TargetForm.{TargetForm}
use Rattle.control_actions.specs.declared.fact.Mode.TheVariants as modes
use Rattle.control_actions.specs.declared.fact.Origin.{Origin}
use Rattle.control_actions.specs.declared.fact.OriginKind.TheVariants as kinds
use Rattle.control_actions.specs.declared.place.Place.{Place}
use Rattle.control_actions.specs.declared.place.Place.TheVariants as places
use Rattle.ownership_rules.specs.Callees.{callee, callee_in, is_super_target}
use Rattle.value_laws.specs.CalledRows.{interest_in, called_after, promises_at}
use Rattle.ownership_rules.specs.Births.{birth_on, fact_at, origin_of, read_birth}
use Rattle.ownership_rules.specs.MovesAtReturns as returns
use Rattle.value_laws.specs.Paths.{move_of}
use Rattle.value_laws.specs.Accept.{Accept}
use Rattle.stub_conduct.specs.declared.choice.Conduct.{Conduct}
use Rattle.stub_conduct.specs.declared.choice.Conduct.TheVariants as conducts
use Rattle.value_laws.specs.Fitting.{FitsMethod}
use Rattle.ledger_obligations.specs.Obligations.{is_held_by, is_library_method}
use Rattle.ledger_state.specs.Contents.{HeapContents}
use Rattle.ledger_state.specs.declared.entry.Owner.{Owner}
use Rattle.ledger_state.specs.Heaps.{next_number, object_at, root, root_of}
use Rattle.ledger_state.specs.declared.array.ArrayObject.{ArrayObject}
use Rattle.ledger_state.specs.declared.locals.Locals.{Locals}
use Rattle.ledger_state.specs.declared.object.Object.{Object}
use Rattle.ledger_state.specs.declared.value.Value.{Value}
use Rattle.ledger_state.specs.declared.value.Value.TheVariants as values
use Rattle.ledger_obligations.specs.declared.note.Note.{Note}
use Rattle.ledger_obligations.specs.Obligations.{first_set, has_note, is_library_owner, note}
use Rattle.value_laws.specs.Places.{place_value}
use Rattle.ledger_steps.specs.LedgerCallsCalls.{alias_position, operand_of, params_in, position_object, position_of, reset_position}
use Rattle.ledger_steps.specs.Conducts.{conduct_value, first_in, made_by_new, owning_in, positions, result_in, result_owner, value_at}
use Rattle.value_laws.specs.Configuration.{Frame}
use Rattle.value_laws.specs.Choosing.{frame_steps}
use Rattle.value_laws.specs.Frames.{frame_after, is_made, made_place, KeepsTargets}
use Rattle.ledger_steps.specs.CallSteps.{library_heap}
use Rattle.value_laws.specs.Heaps.{GoesOn, HasEarlierLinks, IsGiven, IsOlder}
use Rattle.value_laws.specs.Leading.{Leads}
use Rattle.value_laws.proofs.HeapLaws.{numbers_are_in_range, roots_of_links-absent}
use Rattle.value_laws.specs.LibraryCalls.{HasSmallInterest, IsAliasMadeAs, IsAliasOf, IsMadeAs}
use Rattle.value_laws.proofs.LibraryCallLaws.{library_aliases_are_older_or_made, library_objects_are_older_or_made, receiver_is_called}
use Rattle.value_laws.specs.PlacePlaces.{is_local}
use Rattle.value_laws.proofs.PlaceLaws.{single_place-same}
use Rattle.value_laws.specs.Naming.{IsOfItsKind}
use Rattle.value_laws.proofs.NamedReached.{names_what_is_there}
use Rattle.value_laws.specs.Agreement.{Stands}
use Rattle.value_laws.specs.PlainForms.{HasPlainForms, IsPlainAction, LibraryRunsFor}
use Rattle.value_laws.proofs.LibraryRuns.{constructor_itself, named_result, one_alias, one_owning, result_within, runs_no_constant}
use Rattle.value_laws.specs.Outcomes.{IsCallRow, IsPlainRow}
use Rattle.value_laws.proofs.Going.{other_steps}
use Rattle.value_laws.specs.Nexts.{IsLibraryMove}
use Rattle.value_laws.specs.Steps.{is_super}
use Rattle.value_laws.proofs.CallNames.{IsReceiver, same_interest}
use Rattle.value_laws.proofs.Ready.{call_sets, plain_step, row_gives_none, step_there}
use Rattle.value_laws.proofs.Unmet.{way_of_call}
use Rattle.value_laws.specs.Typed.{IsLibraryConstant, NamesMembers}
use Rattle.value_laws.proofs.Moved.{IsConstantRead}
use Rattle.value_laws.specs.FieldContents.{AreUnfinished, HaveContents, LinksLead, FieldsOwn, MakersOwn}
use Rattle.value_laws.specs.Types.{StoredHoldNone, is_text}
use Rattle.value_laws.proofs.RootLaws.{one_object}
use Rattle.covering_laws.specs.Texts.{TextsAreLight}
use Rattle.value_laws.specs.PlaceFacts.{AreCovered, AreWaiting, IsCovered, IsOld, IsHolder, IsTrueOf, IsUnowned, OwnersBelow, gives_none, OwesOrHolds, owned, renews_none, unowned, gives_away}
use Rattle.value_laws.specs.Ranges.{FieldsInRange, LocalsInRange}
use Rattle.std.proofs.lemmas.Bool.{and_from}
use Rattle.ledger_state.specs.Values.{number_of}
use Rattle.ledger_state.specs.declared.entry.Owner.TheVariants as owners
use Rattle.value_laws.proofs.RangeValues.{operand_in_range}
use Rattle.value_laws.proofs.AliasRoots.{OperandsAreThere, fresh_root, library_alias, same_alias}
use Rattle.value_laws.proofs.Chains.{object_there}
use Rattle.covering_laws.proofs.AliasPlaces.{from_operand}
use Rattle.covering_laws.proofs.EndOwners.{number_value}
use Rattle.covering_laws.proofs.Births.{born_covers}
use Rattle.covering_laws.proofs.BornTruths.{read_unlent, true_of_answer, true_of_made}
use Rattle.covering_laws.proofs.CallNotes.{noted_at}
use Rattle.covering_laws.proofs.CallResults.{IsBornSo, born_unowned, new_covers, result_covers, unclaimed, unowned_mode, not_lent_none}
use Rattle.value_laws.proofs.Emptied.{plain_interest, plain_note}
use Rattle.value_laws.proofs.Renewed.{same_params, says_nothing, without_reset}
use Rattle.covering_laws.proofs.CallSteps.{IsGivenOr, call_from, sure_is_said}
use Rattle.covering_laws.proofs.ExistingResults.{GivesUnowned, MayGive, library_may_give}
use Rattle.covering_laws.proofs.InnerSteps.{same_names}
use Rattle.covering_laws.proofs.KnownNames.{kept_further, operand_holds, operand_temp}
use Rattle.covering_laws.proofs.LibraryNames.{library_name_goes_on}
use Rattle.covering_laws.proofs.LibraryPromises.{library_keeps_promises}
use Rattle.covering_laws.proofs.LightExceptions.{leaving_is_light}
use Rattle.covering_laws.proofs.LocalSteps.{LocalsIn, all_there, holds_there, local_step, names_members}
use Rattle.covering_laws.proofs.MadeObjects.{fresh_finished, library_carries, library_keeps, library_roots, library_unfinished, thrown_class}
use Rattle.covering_laws.proofs.Gifts.{all_keep_gifts}
use Rattle.covering_laws.proofs.GivenArguments.{given_owner}
use Rattle.covering_laws.proofs.GivenAliases.{library_class}
use Rattle.covering_laws.proofs.GivenAway.{moved_given}
use Rattle.covering_laws.proofs.OlderHolders.{holder_there}
use Rattle.covering_laws.proofs.ContentHolders.{contents_have_holders}
use Rattle.covering_laws.proofs.LeftOut.{left_out_bears}
use Rattle.program_model.specs.Overrides.{is_library}
use Rattle.covering_laws.proofs.WholeThis.{IsSingleThis}
use Rattle.covering_laws.proofs.AnewAtEnds.{this_stays}
use Rattle.covering_laws.proofs.IdleFacts.{idle_stays}
use Rattle.covering_laws.proofs.IdleCalls.{LendsItsOwn, idle_over_call}
use Rattle.covering_laws.proofs.SaidFacts.{said_apart}
use Rattle.covering_laws.proofs.LibraryAnswers.{argument_no_object, given_no_object, no_result, small_interest}
use Rattle.covering_laws.proofs.LibraryConstants.{constant_not_null, constant_resets_none, constant_row, constant_sets, constant_way, no_operand}
use Rattle.covering_laws.proofs.LibraryOwners.{library_below, library_owner, library_owners_go}
use Rattle.value_laws.specs.Chains.{HaveEnds}
use Rattle.value_laws.specs.HeapAnew.{is_field_owner}
use Rattle.covering_laws.proofs.StepWays.{ends_by, library_births, library_unowned, ways_by}
use Rattle.covering_laws.proofs.OwnerSteps.{held_is}
use Rattle.covering_laws.proofs.Owners.{AllKeepGifts, KeepsHeld, OwnersGo, StaysApart, WaysGo, held_here, old_kept, owners_kept, stays_apart}
use Rattle.covering_laws.proofs.TopSteps.{ComesFrom, IsKeyedFrom, IsLocalStep, IsMadeSo, StopsOwning, after_as, top_covered}
use Rattle.covering_laws.proofs.Waiting.{but_texts, Carries, HoldsThere, KeepsRoots, KeepsUnfinished, all_keep, all_ready, all_wait, frames_ready, keeps_roots, new_root, no_other, old_as, value_root, ways_go_on, this_was}
use Rattle.covering_laws.specs.Linking.{GivesClass, IsGivenAsAlias, LinkedAreAliases}
use Rattle.value_laws.proofs.AliasConducts.{GivesAlias, gives_object, library_gives}
use Rattle.value_laws.specs.FactGoing.{GoesAs}
use Rattle.control_actions.specs.declared.fact.Fact.{Fact}
use Rattle.value_laws.specs.Flow.{flow}
use Rattle.value_laws.proofs.Growth.{library_grows}
use Rattle.value_laws.specs.PlaceRows.{places_after}

-- ---- the call

module _ (p : Program) (ac : Accept p) (forms : HasPlainForms p) (names : HasSmallInterests p) (h : HeapContents) (links : HasEarlierLinks h) (ranges : FieldsInRange h) (fr : Frame) (old : ℕ → Bool) (frs : List Frame) (st : Stands p fr)
    (mine : LocalsInRange h fr.locals) (arrays : List ArrayObject) (named runs : MethodId) (d : Conduct) (s : Step) (next : IsLibraryMove p h arrays fr.locals (frame_steps p fr) named runs d s) (count : ℕ)
    (leads : LinksLead p h) (contents : HaveContents p (fr ∷ frs) h) (have : HaveEnds h) (texts : TextsAreLight p h) (stored : StoredHoldNone (is_text p h) p h) (fields_own : FieldsOwn p h) (targets : KeepsTargets p fr)
    (single : IsSingleThis p h fr) (lending : LendsItsOwn p fr s) (unready : AreUnfinished p h (fr ∷ frs)) (makers : MakersOwn p h (fr ∷ frs)) where
  -- the position of the frame
  abbrev at : ℕ
  at = length frs + 1

  abbrev m : Option Method
  m = method_at p named

  -- the method by whose signature the library answers
  abbrev ran : Option Method
  ran = method_at p runs

  abbrev l : Locals
  l = fr.locals

  abbrev pub K : HeapContents
  K = library_heap p l s.action (without_reset m) ran d at h

  abbrev pub v : Value
  v = conduct_value count ran (positions l s.action (next_number h) d) (next_number h) d

  abbrev pub after : Frame
  after = frame_after p h fr s v

  pub no_reset : reset_position (without_reset m) ≡ None
  no_reset = says_nothing m

  -- what the call gives away, as its signature says with the reset
  given_so : (o : ℕ) (x : Object) → IsGiven p (operand_of l s.action) 1 (params_in (without_reset m)) h o x → IsGiven p (operand_of l s.action) 1 (params_in m) h o x
  given_so o x = subst (λ (qs : List ParamSig). IsGiven p (operand_of l s.action) 1 qs h o x) (same_params m)

  interests : HasSmallInterest m
  interests n is = small_interest p names named n (method_at p named) refl is

  pub roots : KeepsRoots h K
  roots = library_roots p l s.action (without_reset m) ran at h no_reset links d

  pub carries : Carries h K
  carries = library_carries p l s.action (without_reset m) ran at h no_reset links d

  -- the ways up go on
  pub library_ways : WaysGo p None (fr ∷ frs) at h K
  library_ways = ways_by p None (fr ∷ frs) at h K have (contents_have_holders p ac (fr ∷ frs) h contents) (library_unowned p l s.action (without_reset m) ran d at h have.unfinished) (library_grows p l s.action (without_reset m) ran d at h).count carries (library_births p l s.action (without_reset m) ran d at h no_reset) no_other
      (library_unfinished p l s.action (without_reset m) ran at h no_reset links d) (λ o never. absurd never) (λ w never. absurd (let no : None ≡ Some w = never in cc))

  -- and end
  pub library_ends : HaveEnds K
  library_ends = ends_by at h K have (library_grows p l s.action (without_reset m) ran d at h).count (library_births p l s.action (without_reset m) ran d at h no_reset) (library_unowned p l s.action (without_reset m) ran d at h have.unfinished)
      (λ o x y before now done. elim (library_owner p l s.action (without_reset m) ran d at h no_reset o x y before now) [ inl same ↦ inl same | inr gave ↦ inr (ap is_field_owner gave.0) ])

  pub inside : HoldsThere p h fr
  inside = holds_there p h ranges fr mine

  operands_there : OperandsAreThere h l s.action
  operands_there k w is = operand_in_range h l mine s.action k w is

  kind : IsOfItsKind p s.action
  kind = (names_what_is_there p ac.well_formed.valid.typed st.number st.body fr.control next.index (move_of s) st.at st.control (step_there p fr st next.index s next.here)).1

  -- ---- the next object

  not_older : (z : Object) → IsOlder h (next_number h) z owners.Library → ⊥
  not_older z old = let range = numbers_are_in_range h (next_number h) old.before old.at in let below = range.1 in omega (arith, below)

  new_number : ((z : Object) → object_at K (next_number h) ≡ Some z → z.link ≡ None) → (o : ℕ) → root_of K (values.Object (next_number h)) ≡ Some o → next_number h ≡ o
  new_number unlinked o is = sym (new_root h K unlinked) ∙ (let both : Some (root K (next_number h)) ≡ Some o = is in (let one : root K (next_number h) ≡ o = cc in one))

  -- where the signature has no alias, the call made it so
  made_next : alias_position ran ≡ None → (c : Conduct) → d ≡ c → (z : Object) → object_at K (next_number h) ≡ Some z → IsMadeAs p s.action ran at c z
  made_next none c is z there = elim (library_objects_are_older_or_made p l s.action (without_reset m) ran d at h (next_number h) z no_reset none there) [
    | inl old ↦ absurd (not_older z old)
    | inr new ↦ subst (λ (x : Conduct). IsMadeAs p s.action ran at x z) is new.1
  ]

  -- where it has one, so
  alias_next : (k : ℕ) → alias_position ran ≡ Some k → (c : Conduct) → d ≡ c → (z : Object) → object_at K (next_number h) ≡ Some z → IsAliasMadeAs l s.action k c z
  alias_next k some c is z there = elim (library_aliases_are_older_or_made p l s.action (without_reset m) ran d at h (next_number h) k z no_reset some there) [
    | inl old ↦ absurd (not_older z old)
    | inr new ↦ subst (λ (x : Conduct). IsAliasMadeAs l s.action k x z) is new.1
  ]

  thrown_unlinked : (e : ClassId) → d ≡ conducts.Throws e → (z : Object) → object_at K (next_number h) ≡ Some z → z.link ≡ None
  thrown_unlinked e is z there = by (alias_position ran) refl
    where
      by : (k : Option ℕ) → alias_position ran ≡ k → z.link ≡ None
      by None none = (made_next none (conducts.Throws e) is z there).1
      by (Some k) some = (alias_next k some (conducts.Throws e) is z there).1

  -- an exception is light
  thrown_light : (e : ClassId) → d ≡ conducts.Throws e → (o : ℕ) (y : Object) → next_number h ≡ o → object_at K o ≡ Some y → is_heavy_class p y.class ≡ true → ⊥
  thrown_light e is o y number now heavy =
      let class : y.class ≡ e = thrown_class p l s.action (without_reset m) ran at h no_reset e y (ap (λ (c : Conduct). object_at (library_heap p l s.action (without_reset m) ran c at h) (next_number h)) (sym is) ∙ ap (object_at K) number ∙ now) in
      let way = next.thrown e is in
      true≢false (sym heavy ∙ ap (is_heavy_class p) class ∙ leaving_is_light p ac named e way.0 way.1)

  -- what the call makes is finished
  made_finished : (e : ClassId) → d ≡ conducts.Fresh e → (y : Object) → object_at K (next_number h) ≡ Some y → y.finished ≡ true
  made_finished e is y there = fresh_finished p l s.action (without_reset m) ran at h no_reset e y (ap (λ (c : Conduct). object_at (library_heap p l s.action (without_reset m) ran c at h) (next_number h)) (sym is) ∙ there)

  normal : ((e : ClassId) → d ≡ conducts.Throws e → ⊥) → s.edge ≡ edges.Go
  normal other = next.normal other

  may_give : MayGive ran d
  may_give = subst (MayGive ran) (sym next.by.1) (library_may_give p h arrays runs next.by.0 (position_of None l s.action) s.action)

  existing : (k : ℕ) → d ≡ conducts.Existing k → GivesUnowned ran
  existing k is = subst (MayGive ran) is may_give

  -- the next object holds nothing
  next_holds_nothing : IsHolder p K (next_number h) → ⊥
  next_holds_nothing (c, y, now, done, heavy, held) = elim (library_births p l s.action (without_reset m) ran d at h no_reset c y now done) [
    | inl old ↦ elim (library_owner p l s.action (without_reset m) ran d at h no_reset c old.0 y old.1 now) [
      | inl same ↦ (
          let inside' = numbers_are_in_range h c old.0 old.1 in
          let was = carries c y now inside'.1 in
          let class : y.class ≡ old.0.class = was.2 ∙ ap (λ (u : Object). u.class) (one_object was.0 old.0 (object_at h c) was.1 old.1) in
          let z = holder_there p (fr ∷ frs) h contents (next_number h) (c, old.0, old.1, old.2, ap (is_heavy_class p) (sym class) ∙ heavy, ap (λ (a : Owner). is_held_by a (next_number h)) (sym same) ∙ held) in
          let range = numbers_are_in_range h (next_number h) z.0 z.1 in
          let below = range.1 in
          omega (arith, below))
      | inr gave ↦ true≢false (sym held ∙ ap (λ (a : Owner). is_held_by a (next_number h)) gave.0)
    ]
    | inr free ↦ true≢false (sym (held_is y.owner (next_number h) held) ∙ free.0)
  ]

  -- ---- what the call makes as an alias

  alias_gives : (k : ℕ) (e : ClassId) → d ≡ conducts.Fresh e → (x : Method) → ran ≡ Some x → x.sig.alias ≡ Some k → GivesClass p x e
  alias_gives k e is x named_at alias =
      library_class p forms runs x e named_at (ap (is_library_method p) (sym named_at) ∙ next.library) (subst (GivesAlias p x) (sym next.by.1 ∙ is)
      (library_gives p x k alias (gives_object p ac.well_formed runs x named_at k alias) h arrays runs named_at next.by.0 (position_of None l s.action) s.action (next.other e is)))

  alias_class : (k : ℕ) → alias_position ran ≡ Some k → (e : ClassId) → d ≡ conducts.Fresh e → IsGivenAsAlias p e
  alias_class k some e is = by ran refl
    where
      by : (x : Option Method) → ran ≡ x → IsGivenAsAlias p e
      by None named_at = absurd (let never : None ≡ Some k = ap alias_position (sym named_at) ∙ some in cc)
      by (Some x) named_at =
          let alias : x.sig.alias ≡ Some k = ap alias_position (sym named_at) ∙ some in
          record { number = runs; method = x; at = named_at; position = k; alias = alias; class = alias_gives k e is x named_at alias }

  -- its class is one of the library
  alias_library : (k : ℕ) → alias_position ran ≡ Some k → (e : ClassId) → d ≡ conducts.Fresh e → is_library p e ≡ true
  alias_library k some e is = by ran refl
    where
      by : (x : Option Method) → ran ≡ x → is_library p e ≡ true
      by None named_at = absurd (let never : None ≡ Some k = ap alias_position (sym named_at) ∙ some in cc)
      by (Some x) named_at = elim (alias_gives k e is x named_at (ap alias_position (sym named_at) ∙ some)) [
        | inl own ↦ ap (is_library p) own.1 ∙ ap (is_library_method p) (sym named_at) ∙ next.library
        | inr other ↦ other.4
      ]

  -- the object that is given: it is made by the call, or was there
  module _ (o : ℕ) (y : Object) (root' : root_of K v ≡ Some o) (now : object_at K o ≡ Some y) (heavy : is_heavy_class p y.class ≡ true) (owes : OwesOrHolds p K o y) where
    -- it is the root of the aliased operand
    abbrev IsOperand : Type 0
    IsOperand = (k : ℕ) × (alias_position ran ≡ Some k) × (root_of h (operand_of l s.action k) ≡ Some o)

    root_by : (c : Conduct) → d ≡ c → root_of K (conduct_value count ran (positions l s.action (next_number h) c) (next_number h) c) ≡ Some o
    root_by c is = ap (λ (x : Conduct). root_of K (conduct_value count ran (positions l s.action (next_number h) x) (next_number h) x)) (sym is) ∙ root'

    position_is : (k : ℕ) → position_of None l s.action k ≡ operand_of l s.action k
    position_is zero = refl
    position_is (suc k) = refl

    -- an alias that the call makes
    alias_made : (e : ClassId) → d ≡ conducts.Fresh e → (k : ℕ) → alias_position ran ≡ Some k → IsOperand
    alias_made e is k some = by (position_object (position_of None l s.action) k) refl
      where
        next_is : root_of K (values.Object (next_number h)) ≡ Some o
        next_is = root_by (conducts.Fresh e) is

        of_null : position_object (position_of None l s.action) k ≡ None → ⊥
        of_null none =
            let number : next_number h ≡ o = new_number (λ z there. (subst (λ (w : Option ℕ). IsAliasOf w z) none (alias_next k some (conducts.Fresh e) is z there).2).2) o next_is in
            let there : object_at K (next_number h) ≡ Some y = ap (object_at K) number ∙ now in
            let made = subst (λ (w : Option ℕ). IsAliasOf w y) none (alias_next k some (conducts.Fresh e) is y there).2 in
            elim owes [
              | inl may ↦ true≢false (sym may ∙ ap not (and_from y.finished (is_library_owner y.owner) (made_finished e is y there) (ap is_library_owner made.1)))
              | inr more ↦ elim more [
                | inl holds ↦ next_holds_nothing (subst (IsHolder p K) (sym number) holds)
                | inr stores ↦ true≢false (sym (alias_library k some e is) ∙ ap (is_library p) (sym (alias_next k some (conducts.Fresh e) is y there).0) ∙ stores.0)
              ]
            ]

        of_object : (w : ℕ) → position_object (position_of None l s.action) k ≡ Some w → IsOperand
        of_object w is' =
            let value : operand_of l s.action k ≡ values.Object w = number_value (operand_of l s.action k) w (ap number_of (sym (position_is k)) ∙ is') in
            let same : root K (next_number h) ≡ root h w = fresh_root p l s.action (without_reset m) ran d at count h links operands_there k some (root h w) (ap (root_of h) value) e is in
            (k, some, ap (root_of h) value ∙ ap Some (sym same) ∙ next_is)

        by : (w : Option ℕ) → position_object (position_of None l s.action) k ≡ w → IsOperand
        by None none = absurd (of_null none)
        by (Some w) is' = of_object w is'

    -- the argument itself
    argument_given : d ≡ conducts.Argument → (k : ℕ) → alias_position ran ≡ Some k → IsOperand
    argument_given is k some = (k, some, sym (value_root h K roots (operand_of l s.action k) (operand_in_range h l mine s.action k)) ∙ operand s.action k (alias_next k some conducts.Argument is) at_position)
      where
        at_position : root_of K (position_of (made_by_new s.action (next_number h) conducts.Argument) l s.action k) ≡ Some o
        at_position = ap (λ (x : Option ℕ). root_of K (value_at (positions l s.action (next_number h) conducts.Argument) x)) (sym some) ∙ root_by conducts.Argument is

        no_new : ((z : Object) → object_at K (next_number h) ≡ Some z → ⊥) → root_of K (values.Object (next_number h)) ≡ Some o → ⊥
        no_new none is' = by (object_at K (next_number h)) refl
          where
            by : (x : Option Object) → object_at K (next_number h) ≡ x → ⊥
            by None absent =
                let number : next_number h ≡ o = sym (roots_of_links-absent K (next_number h) absent) ∙ (let both : Some (root K (next_number h)) ≡ Some o = is' in (let one : root K (next_number h) ≡ o = cc in one)) in
                let never : None ≡ Some y = sym absent ∙ ap (object_at K) number ∙ now in
                cc
            by (Some z) there = none z there

        operand : (b : Action) (j : ℕ) → ((z : Object) → object_at K (next_number h) ≡ Some z → ⊥) → root_of K (position_of (made_by_new b (next_number h) conducts.Argument) l b j) ≡ Some o
            → root_of K (operand_of l b j) ≡ Some o
        operand actions.Skip zero none r = r
        operand actions.Skip (suc j) none r = r
        operand (actions.New c e n) zero none r = absurd (no_new none r)
        operand (actions.New c e n) (suc j) none r = r
        operand b zero none r = r
        operand b (suc j) none r = r

    given : (P : Type 0) → ((e : ClassId) → d ≡ conducts.Fresh e → next_number h ≡ o → alias_position ran ≡ None → s.edge ≡ edges.Go → IsMadeAs p s.action ran at (conducts.Fresh e) y → y.finished ≡ true → P)
        → ((k : ℕ) → d ≡ conducts.Existing k → s.edge ≡ edges.Go → GivesUnowned ran → P) → (s.edge ≡ edges.Go → IsOperand → P) → P
    given P fresh there aliased = by d refl
      where
        by_fresh : (e : ClassId) → d ≡ conducts.Fresh e → (k : Option ℕ) → alias_position ran ≡ k → P
        by_fresh e is None none =
            let number : next_number h ≡ o = new_number (λ z here. (made_next none (conducts.Fresh e) is z here).3) o (root_by (conducts.Fresh e) is) in
            let here : object_at K (next_number h) ≡ Some y = ap (object_at K) number ∙ now in
            fresh e is number none (next.edge e is) (made_next none (conducts.Fresh e) is y here) (made_finished e is y here)
        by_fresh e is (Some k) some = aliased (next.edge e is) (alias_made e is k some)

        by_argument : d ≡ conducts.Argument → (k : Option ℕ) → alias_position ran ≡ k → P
        by_argument is None none = absurd (argument_no_object K ran _ o none (root_by conducts.Argument is))
        by_argument is (Some k) some = aliased (normal (λ e same. let never : conducts.Argument ≡ conducts.Throws e = sym is ∙ same in cc)) (argument_given is k some)

        by : (c : Conduct) → d ≡ c → P
        by conducts.Null is = absurd (let never : None ≡ Some o = root_by conducts.Null is in cc)
        by (conducts.Throws e) is = absurd (thrown_light e is o y (new_number (thrown_unlinked e is) o (root_by (conducts.Throws e) is)) now heavy)
        by (conducts.Fresh e) is = by_fresh e is (alias_position ran) refl
        by (conducts.Existing k) is = there k is (normal (λ e same. let never : conducts.Existing k ≡ conducts.Throws e = sym is ∙ same in cc)) (existing k is)
        by conducts.Argument is = by_argument is (alias_position ran) refl
        by (conducts.Value z) is = absurd (given_no_object K count (result_in ran) z o (root_by (conducts.Value z) is))
        by conducts.Nothing is = absurd (let never : None ≡ Some o = root_by conducts.Nothing is in cc)

  -- ---- a call

  module _ (called : called_method s.action ≡ Some named) (row : IsCallRow s.action) where
    pub local : IsLocalStep p fr st s
    local = local_step p ac forms fr st next.index s next.here (call_sets s.action row) (way_of_call s row)

    same_callee : callee p s.action ≡ m
    same_callee = ap (callee_in p) called

    form : IsPlainAction p s.action
    form = plain_step p ac forms fr st next.index s next.here

    noted : (o : ℕ) (x y : Object) (n : NameId) → object_at h o ≡ Some x → object_at K o ≡ Some y → root_of h (operand_of l s.action 0) ≡ Some o → is_super_target s.action ≡ false
        → interest_in (callee p s.action) ≡ Some n → x.finished ≡ true → GoesOn x y → is_heavy_class p x.class ≡ true → OwesOrHolds p h o x → set.contains y.called n.0 ≡ true
    noted o x y n before now root' other interest done goes heavy owes =
        let r = subst (λ (z : Option Method). IsReceiver h l s.action z o n) same_callee (noted_at p ac h l o n s.action form row other root' (same_interest (callee p s.action) ∙ interest)) in
        let number = operands_there 0 r.object (ap number_of r.value) in
        let object = object_there h r.object x number.0 number.1 in
        let way : Leads p h r.object o = leads r.object o object.0 x object.1 r.root before heavy owes in
        receiver_is_called p l s.action (without_reset m) ran d at h (note false r.object n) o object.0 y links (plain_interest m interests) no_reset (ap (λ (ns : List Note). has_note ns (note false r.object n)) (plain_note l s.action m) ∙ r.noted) object.1
        (library_name_goes_on p ac forms h arrays l s.action named (next.ran called).0 (next.ran called).1 r.object n object.0 r.noted object.1 (next.ran called).2 o way) way now

    -- a place that gives an alias its object
    abbrev Comes : Place → ℕ → Type 0
    Comes q o = ComesFrom p ac h K links carries (but_texts p h K (library_keeps p l s.action (without_reset m) ran at h no_reset links d)) fr st next.index s next.here local inside (keeps_roots p h K roots fr inside) v q o

    comes : (q : Place) (o : ℕ) → IsSmall q → is_local q ≡ true → is_made (made_place s.action) q ≡ true → s.edge ≡ edges.Go → (k : ℕ) → alias_position ran ≡ Some k → root_of h (operand_of l s.action k) ≡ Some o
        → Comes q o
    comes q o small local' there edge k some is = from_operand p h fr st s local q o small local' there edge k (ap alias_in same_callee ∙ sym (same_alias m) ∙ sym (one_alias p named runs next.answers) ∙ some) is

    abbrev IsMadeHere : Place → ℕ → Object → Type 0
    IsMadeHere q o y = IsMadeSo p ac h K links carries (but_texts p h K (library_keeps p l s.action (without_reset m) ran at h no_reset links d)) fr st next.index s next.here local inside (keeps_roots p h K roots fr inside) v old frs gives_none (λ o. false)
        (IsGivenOr p ac h K links carries (but_texts p h K (library_keeps p l s.action (without_reset m) ran at h no_reset links d)) fr st next.index s next.here local inside (keeps_roots p h K roots fr inside) v row) q o y

    -- what the call makes no fact of the frame owned
    stops : (o : ℕ) (More : Origin → Fact → Fact → Type 0) → next_number h ≡ o → StopsOwning p h fr old frs gives_none (λ o. false) More o
    stops o More number x before = absurd (let range = numbers_are_in_range h o x before in let below = range.1 in omega (arith, below, number))

    -- what the call gives is covered by its birth, or comes from the operand of which it is an alias
    made : (q : Place) (o : ℕ) (y : Object) → IsSmall q → is_local q ≡ true → is_made (made_place s.action) q ≡ true → place_value p K fr.method after.locals q ≡ v → root_of K v ≡ Some o → object_at K o ≡ Some y
        → is_heavy_class p y.class ≡ true → OwesOrHolds p K o y → IsMadeHere q o y
    made q o y small local' there is root' now heavy owes = given o y root' now heavy owes (IsMadeHere q o y)
        (λ e same number none edge as' done. fresh e same number none edge as' done) (λ k same edge gives. existing k same edge gives) (λ edge operand. inr (inr (comes q o small local' there edge operand.0 operand.1 operand.2)))
      where
        rooted : root_of K (place_value p K fr.method after.locals q) ≡ Some o
        rooted = ap (root_of K) is ∙ root'

        named_is : (k : MethodId) (a : Action) → s.action ≡ a → called_method a ≡ Some k → k ≡ named
        named_is k a same is' = let both : Some k ≡ Some named = sym is' ∙ ap called_method (sym same) ∙ called in (let one : k ≡ named = cc in one)

        place : (d' : ℕ) → made_place s.action ≡ Some (places.Temp d') → places.Temp d' ≡ q
        place d' same = single_place-same (places.Temp d') q (ap (λ (x : Option Place). is_made x q) (sym same) ∙ there)

        -- at the place of the result
        at_temp : (d' : ℕ) (A : Type 0) → made_place s.action ≡ Some (places.Temp d')
            → (IsSmall (places.Temp d') → root_of K (place_value p K fr.method after.locals (places.Temp d')) ≡ Some o → IsBornSo p K false old frs after (places.Temp d') o y A) → IsBornSo p K false old frs after q o y A
        at_temp d' A same covers =
            let here = place d' same in
            subst (λ (z : Place). IsBornSo p K false old frs after z o y A) here (covers (subst IsSmall (sym here) small) (subst (λ (z : Place). root_of K (place_value p K fr.method after.locals z) ≡ Some o) (sym here) rooted))

        alias : alias_position ran ≡ None → (x : Method) → m ≡ Some x → x.sig.alias ≡ None
        alias none x named_at = ap alias_position (sym named_at) ∙ sym (one_alias p named runs next.answers) ∙ none

        result : (k : MethodId) (d' c : ℕ) (f : TargetForm) (x : Method) (r : ClassId) → s.action ≡ actions.Call k d' c f → k ≡ named → s.edge ≡ edges.Go → m ≡ Some x → x.sig.result ≡ Some (types.Obj r) → x.sig.alias ≡ None
            → (x.sig.owning_result ≡ true → IsTrueOf p y (origin_of p kinds.Result s.pos r x.sig.first) (fact_at (places.Temp d') modes.Own no_names false))
            → IsBornSo p K false old frs after q o y ((x.sig.owning_result ≡ true) × (is_heavy_class p r ≡ true))
        result k d' c f x r same it edge named_at result' none truth =
            at_temp d' ((x.sig.owning_result ≡ true) × (is_heavy_class p r ≡ true)) (ap made_place same) (λ small' root''. result_covers p h K fr st next.index s next.here v old frs false d' o y small' root'' k x edge (ap (method_at p) it ∙ named_at) none c f r same result'
            (λ owning heavy'. truth owning))

        fresh : (e : ClassId) → d ≡ conducts.Fresh e → next_number h ≡ o → alias_position ran ≡ None → s.edge ≡ edges.Go → IsMadeAs p s.action ran at (conducts.Fresh e) y → y.finished ≡ true → IsMadeHere q o y
        fresh e same number none edge as' done = go s.action refl
          where
            fit : FitsMethod p ran (conducts.Fresh e)
            fit = subst (FitsMethod p ran) same next.fits

            by_kind : (x : Method) → ran ≡ Some x → (b : Bool) → constructs ran ≡ b → MatchBool b (x.class ≡ e) ((c : ClassId) × (x.sig.result ≡ Some (types.Obj c)) × (fits p e c ≡ true))
            by_kind x ran_at b is' = subst (λ (t : Bool). MatchBool t (x.class ≡ e) ((c : ClassId) × (x.sig.result ≡ Some (types.Obj c)) × (fits p e c ≡ true))) (sym (ap constructs ran_at) ∙ is')
                (subst (λ (z : Option Method). FitsMethod p z (conducts.Fresh e)) ran_at fit)

            must : (x : Method) → ran ≡ Some x → y.must ≡ first_set p e x.sig.first
            must x ran_at = as'.1 ∙ ap (λ (z : Option Method). first_set p e (first_in z)) ran_at

            no_method : ran ≡ None → ⊥
            no_method none' = subst (λ (z : Option Method). FitsMethod p z (conducts.Fresh e)) none' fit

            born : (A : Type 0) → (A → y.owner ≡ owners.Frame at) → IsBornSo p K false old frs after q o y A → IsMadeHere q o y
            born A owner (inl (c, has', free, it)) = inl (c, has', owner it, stops o _ number, free)
            born A owner (inr u) = inr (inl u)

            owned : (k : MethodId) (d' c : ℕ) (f : TargetForm) → s.action ≡ actions.Call k d' c f → (x : Method) → ran ≡ Some x → x.sig.owning_result ≡ true → y.owner ≡ owners.Frame at
            owned k d' c f is' x ran_at owning =
                as'.2 ∙ ap (λ (a : Action). result_owner a ran at) is' ∙ ap (λ (z : Option Method). if owning_in z then owners.Frame at else owners.Library) ran_at
                ∙ ap (λ (b : Bool). if b then owners.Frame at else owners.Library) owning

            by_itself : (k : MethodId) (d' c : ℕ) (f : TargetForm) → s.action ≡ actions.Call k d' c f → runs ≡ named → (x : Option Method) → m ≡ x → IsMadeHere q o y
            by_itself k d' c f is' one None named_at = absurd (no_method (ap (method_at p) one ∙ named_at))
            by_itself k d' c f is' one (Some x) named_at =
                let it = named_is k (actions.Call k d' c f) is' refl in
                let ran_at : ran ≡ Some x = ap (method_at p) one ∙ named_at in
                let r = by_kind x ran_at false (ap (λ (z : MethodId). constructs (method_at p z)) (one ∙ sym it) ∙ subst (IsOfItsKind p) is' kind) in
                born ((x.sig.owning_result ≡ true) × (is_heavy_class p r.0 ≡ true))
                (λ own. owned k d' c f is' x ran_at own.0)
                (result k d' c f x r.0 is' it edge named_at r.1 (alias none x named_at)
                (λ owning. true_of_made p kinds.Result s.pos r.0 e x.sig.first (places.Temp d') y done as'.0 (must x ran_at) r.2))

            by_other : (k : MethodId) (d' c : ℕ) (f : TargetForm) → s.action ≡ actions.Call k d' c f → LibraryRunsFor p named runs → IsMadeHere q o y
            by_other k d' c f is' other =
                let it = named_is k (actions.Call k d' c f) is' refl in
                let r = by_kind other.running other.running_at false (ap constructs other.running_at ∙ other.fit.makes ∙ ap is_constructor_kind other.kind) in
                let named' = named_result p named runs other r.0 r.1 in
                born ((other.method.sig.owning_result ≡ true) × (is_heavy_class p named'.0 ≡ true))
                (λ own. owned k d' c f is' other.running other.running_at (one_owning p named runs other (types.Obj r.0) r.1 ∙ own.0))
                (result k d' c f other.method named'.0 is' it edge other.named_at named'.1 (alias none other.method other.named_at)
                (λ owning. subst (λ (first : Option Names). IsTrueOf p y (origin_of p kinds.Result s.pos named'.0 first) (fact_at (places.Temp d') modes.Own no_names false)) (sym other.fit.first)
                (true_of_answer p kinds.Result s.pos named'.0 e other.running.sig.first (places.Temp d') y done as'.0 (must other.running other.running_at)
                (within_trans (must_of p e) (must_of p r.0) (must_of p named'.0) r.2 (result_within p named runs other r.0 named'.0 r.1 named'.1 owning)))))

            by_call : (k : MethodId) (d' c : ℕ) (f : TargetForm) → s.action ≡ actions.Call k d' c f → IsMadeHere q o y
            by_call k d' c f is' = elim next.answers [ inl one ↦ by_itself k d' c f is' one m refl | inr other ↦ by_other k d' c f is' other ]

            by_new : (k : MethodId) (d' c : ℕ) → s.action ≡ actions.New k d' c → (x : Option Method) → m ≡ x → IsMadeHere q o y
            by_new k d' c is' x named_at = of_constructor x named_at
              where
                it : k ≡ named
                it = named_is k (actions.New k d' c) is' refl

                new : constructs m ≡ true
                new = ap (λ (z : MethodId). constructs (method_at p z)) (sym it) ∙ subst (IsOfItsKind p) is' kind

                one : runs ≡ named
                one = constructor_itself p named runs next.answers new

                of_constructor : (x : Option Method) → m ≡ x → IsMadeHere q o y
                of_constructor None named_at = absurd (no_method (ap (method_at p) one ∙ named_at))
                of_constructor (Some x) named_at =
                    let ran_at : ran ≡ Some x = ap (method_at p) one ∙ named_at in
                    let class : x.class ≡ e = by_kind x ran_at true (ap (λ (z : MethodId). constructs (method_at p z)) one ∙ new) in
                    born (Unit {0}) (λ unit. as'.2 ∙ ap (λ (a : Action). result_owner a ran at) is')
                    (at_temp d' (Unit {0}) (ap made_place is') (λ small' root''.
                    let z = new_covers p h K fr st next.index s next.here v old frs false d' o y small' root'' k x edge (ap (method_at p) it ∙ named_at) (alias none x named_at) c is'
                    (ap (is_heavy_class p) class ∙ ap (is_heavy_class p) (sym as'.0) ∙ heavy)
                    (true_of_made p kinds.New s.pos x.class e x.sig.first (places.Temp d') y done as'.0 (must x ran_at) (subst (λ (z : ClassId). fits p e z ≡ true) (sym class) (within_self (must_of p e)))) in
                    inl (z.0, z.1, z.2, tt)))

            go : (a : Action) → s.action ≡ a → IsMadeHere q o y
            go actions.Skip is' = absurd (subst IsCallRow is' row)
            go (actions.Call k d' c f) is' = by_call k d' c f is'
            go (actions.New k d' c) is' = by_new k d' c is' m refl
            go (actions.Super k d' c) is' = absurd (true≢false (sym (ap is_super is') ∙ next.other e same))
            go a is' = absurd (subst IsCallRow is' row)

        existing : (k : ℕ) → d ≡ conducts.Existing k → s.edge ≡ edges.Go → GivesUnowned ran → IsMadeHere q o y
        existing k same edge gives = go s.action refl
          where
            no_new : (j : MethodId) → j ≡ named → constructs (method_at p j) ≡ true → ⊥
            no_new j it new =
                let mine : constructs m ≡ true = ap (λ (z : MethodId). constructs (method_at p z)) (sym it) ∙ new in
                let one : runs ≡ named = constructor_itself p named runs next.answers mine in
                let never : None ≡ Some (types.Obj gives.class) = sym (no_result gives.method (sym (ap constructs gives.is) ∙ ap (λ (z : MethodId). constructs (method_at p z)) one ∙ mine)
                (ac.well_formed.valid.typed.methods runs gives.method gives.is).kind) ∙ gives.result in
                cc

            -- the named method gives an object that is not owning
            free : (j : MethodId) (d' c : ℕ) (f : TargetForm) → s.action ≡ actions.Call j d' c f → (x : Method) (r : ClassId) → m ≡ Some x → x.sig.result ≡ Some (types.Obj r) → x.sig.alias ≡ None → x.sig.owning_result ≡ false
                → IsMadeHere q o y
            free j d' c f is' x r named_at gives' plain unowned' =
                by (result j d' c f x r is' (named_is j (actions.Call j d' c f) is' refl) edge named_at gives' plain (λ owning. absurd (true≢false (sym owning ∙ unowned'))))
              where
                by : IsBornSo p K false old frs after q o y ((x.sig.owning_result ≡ true) × (is_heavy_class p r ≡ true)) → IsMadeHere q o y
                by (inl (c', has', free, own)) = absurd (true≢false (sym own.0 ∙ unowned'))
                by (inr u) = inr (inl u)

            by_other : (j : MethodId) (d' c : ℕ) (f : TargetForm) → s.action ≡ actions.Call j d' c f → LibraryRunsFor p named runs → IsMadeHere q o y
            by_other j d' c f is' other =
                let one : gives.method ≡ other.running = (let both : Some gives.method ≡ Some other.running = sym gives.is ∙ other.running_at in cc) in
                let result' : other.running.sig.result ≡ Some (types.Obj gives.class) = ap (λ (z : Method). z.sig.result) (sym one) ∙ gives.result in
                let named' = named_result p named runs other gives.class result' in
                free j d' c f is' other.method named'.0 other.named_at named'.1 (sym other.fit.alias ∙ ap (λ (z : Method). z.sig.alias) (sym one) ∙ gives.alias)
                (sym (one_owning p named runs other (types.Obj gives.class) result') ∙ ap (λ (z : Method). z.sig.owning_result) (sym one) ∙ gives.unowned)

            by_call : (j : MethodId) (d' c : ℕ) (f : TargetForm) → s.action ≡ actions.Call j d' c f → IsMadeHere q o y
            by_call j d' c f is' = elim next.answers [
              | inl one ↦ free j d' c f is' gives.method gives.class (ap (method_at p) (sym one) ∙ gives.is) gives.result gives.alias gives.unowned
              | inr other ↦ by_other j d' c f is' other
            ]

            go : (a : Action) → s.action ≡ a → IsMadeHere q o y
            go actions.Skip is' = absurd (subst IsCallRow is' row)
            go (actions.Call j d' c f) is' = by_call j d' c f is'
            go (actions.New j d' c) is' = absurd (no_new j (named_is j (actions.New j d' c) is' refl) (subst (IsOfItsKind p) is' kind))
            go (actions.Super j d' c) is' = absurd (no_new j (named_is j (actions.Super j d' c) is' refl) (subst (IsPlainAction p) is' form).1)
            go a is' = absurd (subst IsCallRow is' row)

    -- the frame owned what it gave to the library
    pub call_goes : IsCovered p h gives_none renews_none old frs fr → OwnersGo p None (fr ∷ frs) at h K
    call_goes covered = library_owners_go p l s.action (without_reset m) ran d at h no_reset None (fr ∷ frs) at (λ o x before heavy owes g. given_owner p ac h fr st old frs next.index s next.here row covered m same_callee o x before heavy owes (given_so o x g))

    -- what is not given away the frame goes on owning
    pub call_owner : (o : ℕ) (x y : Object) → object_at h o ≡ Some x → object_at K o ≡ Some y → x.finished ≡ true → is_heavy_class p x.class ≡ true → gives_away p h l s.action o x.class ≡ false → x.owner ≡ owners.Frame at → y.owner ≡ owners.Frame at
    call_owner o x y before now done heavy spared mine = elim (library_owner p l s.action (without_reset m) ran d at h no_reset o x y before now) [
      | inl same ↦ same ∙ mine
      | inr gave ↦ absurd (true≢false (sym (moved_given p h l s.action m o x same_callee (given_so o x gave.1)) ∙ spared))
    ]

    pub call_apart : IsCovered p h gives_none renews_none old frs fr → LocalsIn h frs → StaysApart p h K frs fr
    call_apart covered others = stays_apart p None (fr ∷ frs) at h K library_ways (call_goes covered) frs fr (omega arith) (all_keep_gifts p h K roots frs others) tt (λ w none. none.1) (λ w is this. absurd (let never : None ≡ Some w = is in cc))

    pub call_lasting : IsCovered p h gives_none renews_none old frs fr → LocalsIn h frs → KeepsHeld p h K fr
    call_lasting covered others = held_here p None (fr ∷ frs) at h K library_ways (call_goes covered) frs fr (omega arith) (all_keep_gifts p h K roots frs others) (λ w none. none.0)

    -- each place after the call is in a fact that comes from one before it, or was born
    pub call_top_from : IsCovered p h gives_none renews_none old frs fr → IsOld p h frs fr old → LocalsIn h frs → (q : Place) (o : ℕ) (y : Object) → IsSmall q → root_of K (place_value p K after.method after.locals q) ≡ Some o → object_at K o ≡ Some y
        → is_heavy_class p y.class ≡ true → OwesOrHolds p K o y
        → IsKeyedFrom p ac h K links carries (but_texts p h K (library_keeps p l s.action (without_reset m) ran at h no_reset links d)) fr st next.index s next.here local inside (keeps_roots p h K roots fr inside) v old frs gives_none (λ o. false)
        (IsGivenOr p ac h K links carries (but_texts p h K (library_keeps p l s.action (without_reset m) ran at h no_reset links d)) fr st next.index s next.here local inside (keeps_roots p h K roots fr inside) v row) q o y
    call_top_from covered aged others =
        call_from p ac h K links carries (but_texts p h K (library_keeps p l s.action (without_reset m) ran at h no_reset links d)) fr st next.index s next.here local inside (keeps_roots p h K roots fr inside) v row old frs gives_none (λ o. false)
        (λ o c never. absurd (true≢false (sym never))) covered aged (idle_over_call p ac forms fr st s local lending frs)
        (all_ready p h K (library_unfinished p l s.action (without_reset m) ran at h no_reset links d) fr)
        (call_apart covered others) (call_lasting covered others)
        call_owner
        (λ o x y c n before now root' other interest sure full stays done goes heavy owes. noted o x y n before now root' other interest done goes heavy owes)
        (λ o x y c before now g more trusted sure full stays done goes some owes names less was. kept_further p st.number s.action c.fact.places y.called names (promises_at p s.action s.edge) less
        (library_keeps_promises p ac h links fr st arrays named runs d s next at old frs called local.small interests leads mine o x y c
        (sure_is_said p ac h K links carries (but_texts p h K (library_keeps p l s.action (without_reset m) ran at h no_reset links d)) fr st next.index s next.here local inside (keeps_roots p h K roots fr inside) v row old frs false false o x c sure) before now some owes))
        (λ o x c before some owes said gives.
        library_alias p ac h links arrays l s.action s.edge c.fact.places named runs (without_reset m) d at count o local.small form same_callee next.answers operands_there next.by (λ e is. let way = next.thrown e is in (way.0, way.2))
        (λ k below held. operand_holds p h fr.method l s.action o k c.fact.places local.small below (said_apart p h frs fr o c.fact c.places said) held) gives)
        (left_out_bears p ac forms h K texts stored links carries (but_texts p h K (library_keeps p l s.action (without_reset m) ran at h no_reset links d)) fr st next.index s next.here local inside (keeps_roots p h K roots fr inside) v old frs gives_none (λ o. false) covered (all_ready p h K (library_unfinished p l s.action (without_reset m) ran at h no_reset links d) fr)
        (call_apart covered others) fields_own (fr ∷ frs) contents have (this_stays p fr frs h K library_ways (call_goes covered)) mine targets single (λ o never resets. absurd (true≢false (sym never))) unready makers)
        (λ q o y small local' none' there is root' now heavy owes. made q o y small local' there is root' now heavy owes)

    pub call_top : IsCovered p h gives_none renews_none old frs fr → IsOld p h frs fr old → LocalsIn h frs → IsCovered p K gives_none renews_none old frs after
    call_top covered aged others q o y small lent held now heavy owes = elim (call_top_from covered aged others q o y small held now heavy owes) [
      | inl key ↦ owned key.0 key.1 key.2
      | inr free ↦ unowned free
    ]

  -- ---- a read of a constant

  module _ (read : IsConstantRead s.action named) where
    local_read : IsLocalStep p fr st s
    local_read = local_step p ac forms fr st next.index s next.here (constant_sets s.action named read) (constant_way s.action s.edge named read)

    plain_row : IsPlainRow s.action
    plain_row = constant_row s.action named read

    constant_made : (q : Place) (o : ℕ) (y : Object) → IsSmall q → is_local q ≡ true → is_made (made_place s.action) q ≡ true → place_value p K fr.method after.locals q ≡ v → root_of K v ≡ Some o
        → object_at K o ≡ Some y → is_heavy_class p y.class ≡ true → OwesOrHolds p K o y → IsUnowned p K false false old frs after q o y
    constant_made q o y small local' there is root' now heavy owes = go s.action refl read
      where
        by_class : (x : Place) (k : MethodId) (z : Method) (r : ClassId) → s.action ≡ actions.Plain x (plain_values.LibraryConstant k) → k ≡ named → s.edge ≡ edges.Go → m ≡ Some z → z.sig.result ≡ Some (types.Obj r)
            → IsUnowned p K false false old frs after q o y
        by_class x k z r is' it edge named_at result =
            born_unowned p K false old frs after q o y (origin_of p kinds.Read s.pos r None) (fact_at q modes.None no_names true)
            (born_covers p K fr st next.index s next.here after old frs false q o y (origin_of p kinds.Read s.pos r None) modes.None true refl refl small local'
            (ap (λ (a : Action). birth_on p a s.edge s.pos) is' ∙ ap (λ (e : Edge). birth_on p (actions.Plain x (plain_values.LibraryConstant k)) e s.pos) edge
            ∙ ap (λ (u : Option Method). read_birth p x s.pos (returns.result_in u)) (ap (method_at p) it ∙ named_at) ∙ ap (read_birth p x s.pos) result
            ∙ ap (λ (u : Place). Some (origin_of p kinds.Read s.pos r None, fact_at u modes.None no_names true)) (single_place-same x q (ap (λ (a : Action). is_made (made_place a) q) (sym is') ∙ there)))
            (ap (root_of K) is ∙ root') (read_unlent p) refl not_lent_none refl (λ claimed. absurd (unclaimed p (method_at p fr.method) (origin_of p kinds.Read s.pos r None) q claimed))) (unowned_mode p (origin_of p kinds.Read s.pos r None))

        constant : (x : Place) (k : MethodId) → s.action ≡ actions.Plain x (plain_values.LibraryConstant k) → IsLibraryConstant p k
        constant x k is' = subst (NamesMembers p st.body) is' (names_members p ac forms fr st next.index s next.here)

        -- a constant is read by its own signature
        itself : (k : MethodId) → k ≡ named → (of : IsLibraryConstant p k) → runs ≡ named
        itself k it of = elim next.answers [ inl one ↦ one | inr other ↦ absurd (runs_no_constant p named runs other of.0 (ap (method_at p) (sym it) ∙ of.1) of.2) ]

        fresh_class : (z : Method) (e : ClassId) → ran ≡ Some z → z.kind ≡ methods.Constant → d ≡ conducts.Fresh e → (r : ClassId) × (z.sig.result ≡ Some (types.Obj r)) × (fits p e r ≡ true)
        fresh_class z e named_at kind' same = subst (λ (b : Bool). MatchBool b (z.class ≡ e) ((r : ClassId) × (z.sig.result ≡ Some (types.Obj r)) × (fits p e r ≡ true))) (ap is_constructor_kind kind')
            (subst (λ (u : Option Method). FitsMethod p u (conducts.Fresh e)) named_at (subst (FitsMethod p ran) same next.fits))

        by_constant : (x : Place) (k : MethodId) → s.action ≡ actions.Plain x (plain_values.LibraryConstant k) → k ≡ named → IsLibraryConstant p k → IsUnowned p K false false old frs after q o y
        by_constant x k is' it of = given o y root' now heavy owes (IsUnowned p K false false old frs after q o y)
            (λ e same number none edge as' done. (let r = fresh_class of.0 e (ap (method_at p) (itself k it of ∙ sym it) ∙ of.1) of.2 same in by_class x k of.0 r.0 is' it edge (ap (method_at p) (sym it) ∙ of.1) r.1))
            (λ j same edge gives. by_class x k gives.method gives.class is' it edge (ap (method_at p) (sym (itself k it of)) ∙ gives.is) gives.result)
            (λ edge operand. absurd (let t = operand_temp l s.action operand.0 h o operand.2 in no_operand s.action named read operand.0 t.0 t.1))

        go : (a : Action) → s.action ≡ a → IsConstantRead a named → IsUnowned p K false false old frs after q o y
        go actions.Skip is' read' = absurd read'
        go (actions.Plain x (plain_values.LibraryConstant k)) is' read' = by_constant x k is' read' (constant x k is')
        go (actions.Plain x (plain_values.Literal z)) is' read' = absurd read'
        go (actions.Plain x z) is' read' = absurd read'
        go a is' read' = absurd read'

    -- a read gives nothing away
    nothing_given : (n : ℕ) (x : Object) → IsGiven p (operand_of l s.action) 1 (params_in m) h n x → ⊥
    nothing_given n x g = let t = operand_temp l s.action (1 + g.index) h n g.root in no_operand s.action named read (1 + g.index) t.0 t.1

    same_owner : (o : ℕ) (x y : Object) → object_at h o ≡ Some x → object_at K o ≡ Some y → y.owner ≡ x.owner
    same_owner o x y before now = elim (library_owner p l s.action (without_reset m) ran d at h no_reset o x y before now) [ inl same ↦ same | inr gave ↦ absurd (nothing_given o x (given_so o x gave.1)) ]

    read_goes : OwnersGo p None (fr ∷ frs) at h K
    read_goes = library_owners_go p l s.action (without_reset m) ran d at h no_reset None (fr ∷ frs) at (λ n x before heavy owes g. absurd (nothing_given n x (given_so n x g)))

    read_apart : LocalsIn h frs → StaysApart p h K frs fr
    read_apart others = stays_apart p None (fr ∷ frs) at h K library_ways read_goes frs fr (omega arith) (all_keep_gifts p h K roots frs others) tt (λ w none. none.1) (λ w is this. absurd (let never : None ≡ Some w = is in cc))

    read_lasting : LocalsIn h frs → KeepsHeld p h K fr
    read_lasting others = held_here p None (fr ∷ frs) at h K library_ways read_goes frs fr (omega arith) (all_keep_gifts p h K roots frs others) (λ w none. none.0)

    read_top : IsCovered p h gives_none renews_none old frs fr → IsOld p h frs fr old → LocalsIn h frs → IsCovered p K gives_none renews_none old frs after
    read_top covered aged others =
        top_covered p ac h K links carries (but_texts p h K (library_keeps p l s.action (without_reset m) ran at h no_reset links d)) fr st next.index s next.here local_read inside (keeps_roots p h K roots fr inside) v old frs gives_none (λ o. false) covered aged
        (idle_stays p ac forms fr st s local_read (constant_resets_none p s.action named read) frs) (all_ready p h K (library_unfinished p l s.action (without_reset m) ran at h no_reset links d) fr)
        (read_apart others) (read_lasting others)
        (λ o f g. Unit {0})
        (λ o x c q is. after_as (GoesAs c.fact (places_after p st.number s.action s.edge c.fact.places) (called_after p st.number s.action s.edge c.fact))
        (λ (g : Fact). GoesAs c.fact (places_after p st.number s.action s.edge c.fact.places) (called_after p st.number s.action s.edge c.fact) g × Unit {0})
        (flow p st.number c.origin s.action s.edge c.fact) (λ g goes. (goes, tt))
        (other_steps p st.number c.origin s.action s.edge c.fact q plain_row (constant_not_null c.fact s.action s.edge named read) is))
        (λ o x y c before now g more trusted sure stays done goes some owes names less was.
        ap (λ (t : Names). set.is_subset t names) (same_names p st.number s.action s.edge c.fact plain_row (constant_not_null c.fact s.action s.edge named read)) ∙ was)
        (λ o x c before some owes said gives. absurd (true≢false (sym gives ∙ row_gives_none p s.action s.edge c.fact.places plain_row)))
        (λ o x y c key before now heavy owes g more own. (refl, (λ done mine. same_owner o x y before now ∙ mine)))
        (λ q o y small out root' now heavy owes. absurd (true≢false (sym out.0 ∙ constant_resets_none p s.action named read)))
        (λ q o y small local' none' there is root' now heavy owes. inr (inl (constant_made q o y small local' there is root' now heavy owes)))

  -- ---- all frames

  row_of : (a : Action) → called_method a ≡ Some named → IsCallRow a
  row_of actions.Skip is = absurd (let never : None ≡ Some named = is in cc)
  row_of (actions.Call k d' n f) is = tt
  row_of (actions.New k d' n) is = tt
  row_of (actions.Super k d' n) is = tt
  row_of a is = absurd (let never : None ≡ Some named = is in cc)

  pub library_linked : LinkedAreAliases p h → LinkedAreAliases p K
  library_linked apart n y k there some = by (alias_position ran) refl
    where
      older : IsOlder h n y owners.Library → IsGivenAsAlias p y.class
      older old = subst (IsGivenAsAlias p) (sym old.goes_on.class) (apart n old.before k old.at (sym old.goes_on.link ∙ some))

      unlinked : y.link ≡ None → IsGivenAsAlias p y.class
      unlinked none = absurd (let never : None ≡ Some k = sym none ∙ some in cc)

      made_as : (c : Conduct) → IsMadeAs p s.action ran at c y → IsGivenAsAlias p y.class
      made_as (conducts.Throws e) is = unlinked is.1
      made_as (conducts.Fresh e) is = unlinked is.3
      made_as conducts.Null is = absurd is
      made_as (conducts.Existing j) is = absurd is
      made_as conducts.Argument is = absurd is
      made_as (conducts.Value z) is = absurd is
      made_as conducts.Nothing is = absurd is

      alias_as : (j : ℕ) → alias_position ran ≡ Some j → (c : Conduct) → d ≡ c → IsAliasMadeAs l s.action j c y → IsGivenAsAlias p y.class
      alias_as j at' (conducts.Throws e) same is = unlinked is.1
      alias_as j at' (conducts.Fresh e) same is = subst (IsGivenAsAlias p) (sym is.0) (alias_class j at' e same)
      alias_as j at' conducts.Null same is = absurd is
      alias_as j at' (conducts.Existing i) same is = absurd is
      alias_as j at' conducts.Argument same is = absurd is
      alias_as j at' (conducts.Value z) same is = absurd is
      alias_as j at' conducts.Nothing same is = absurd is

      by : (j : Option ℕ) → alias_position ran ≡ j → IsGivenAsAlias p y.class
      by None none = elim (library_objects_are_older_or_made p l s.action (without_reset m) ran d at h n y no_reset none there) [ inl old ↦ older old | inr new ↦ made_as d new.1 ]
      by (Some j) at' = elim (library_aliases_are_older_or_made p l s.action (without_reset m) ran d at h n j y no_reset at' there) [ inl old ↦ older old | inr new ↦ alias_as j at' d refl new.1 ]

  pub library_keeps_roots : KeepsRoots h K
  library_keeps_roots = roots

  pub library_after_unfinished : KeepsUnfinished h K no_other
  library_after_unfinished = library_unfinished p l s.action (without_reset m) ran at h no_reset links d

  -- the owners go on, as it does
  pub goes_by : (called_method s.action ≡ Some named) ⊎ IsConstantRead s.action named → IsCovered p h gives_none renews_none old frs fr → OwnersGo p None (fr ∷ frs) at h K
  goes_by row covered = elim row [ inl called ↦ call_goes called (row_of s.action called) covered | inr read ↦ read_goes read ]

  pub library_kept : (called_method s.action ≡ Some named) ⊎ IsConstantRead s.action named → LocalsIn h (fr ∷ frs) → IsOld p h frs fr old → IsCovered p h gives_none renews_none old frs fr → AreWaiting p h old frs
      → OwnersBelow h (length frs + 1) → IsOld p K frs after old × IsCovered p K gives_none renews_none old frs after × AreWaiting p K old frs × OwnersBelow K (length frs + 1)
  library_kept row in' is covered waits below = (
    old_as p K old frs fr after refl refl
        (old_kept p h K old frs fr (stays_apart p None (fr ∷ frs) at h K library_ways (goes_by row covered) frs fr (omega arith) gifts tt (λ w none. none.1) (λ w is' this. absurd (let never : None ≡ Some w = is' in cc)))
        (ways_go_on p None (fr ∷ frs) at h K library_ways) is (this_was p h K fr (keeps_roots p h K roots fr inside) inside (all_ready p h K (library_unfinished p l s.action (without_reset m) ran at h no_reset links d) fr) carries)),
    elim row [ inl called ↦ call_top called (row_of s.action called) covered is others | inr read ↦ read_top read covered is others ],
    all_wait p h K links roots carries (ways_go_on p None (fr ∷ frs) at h K library_ways) old frs (all_keep p h K (library_keeps p l s.action (without_reset m) ran at h no_reset links d) frs)
        (all_there p h ranges frs others) (frames_ready p h K (library_unfinished p l s.action (without_reset m) ran at h no_reset links d) frs) gifts
        (owners_kept p None (fr ∷ frs) at h K library_ways (goes_by row covered) frs (omega arith) gifts tt (λ w none. none.1)) waits,
    library_below p l s.action (without_reset m) ran d at h no_reset below,
  )
    where
      others : LocalsIn h frs
      others = All-tail (λ (x : Frame). LocalsInRange h x.locals) fr frs in'

      gifts : AllKeepGifts p h K frs
      gifts = all_keep_gifts p h K roots frs others

  pub library_covered : (called_method s.action ≡ Some named) ⊎ IsConstantRead s.action named → LocalsIn h (fr ∷ frs) → IsOld p h frs fr old → IsCovered p h gives_none renews_none old frs fr → AreWaiting p h old frs
      → OwnersBelow h (length frs + 1) → AreCovered p K (after ∷ frs)
  library_covered row in' is covered waits below = let kept = library_kept row in' is covered waits below in (old, kept.0, kept.1, kept.2, kept.3)

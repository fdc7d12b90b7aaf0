-- A frame ends, and with it the call at which the frame below waits.
use Rattle.std.proofs.Common.{Bool, List, None, Option, Some, ap, arith, false, inl, length, not, refl, slice_get, subst, sym, true, true≢false, ℕ, ◌+◌, ◌<◌, ◌∙◌, ◌∷◌, ◌≡◌, ◌⊎◌, inr}
use Rattle.std.proofs.lemmas.Bool.{and_from}
use Rattle.rlc_base.proofs.SetLaws.{within_at}
use Rattle.std.specs.Prelude.{is_some}
use Rattle.std.specs.FinSet as set
use Rattle.std.proofs.lemmas.List.Elements.{All-head, All-tail}
use Rattle.rlc_base.specs.declared.name_id.NameId.{NameId}
use Rattle.program_model.specs.declared.kinds.ClassId.{ClassId}
use Rattle.program_model.specs.declared.kinds.MethodId.{MethodId}
use Rattle.program_model.specs.declared.program.Method.{Method}
use Rattle.program_model.specs.declared.program.Program.{Program}
use Rattle.program_model.specs.Lookups.{method_at}
use Rattle.ledger_obligations.specs.WellFormed.{HasSmallInterests}
use Rattle.java_control.specs.Calls.{called_method, is_reset_of_this}
use Rattle.java_control.specs.Control.{Step}
use Rattle.java_control.specs.PlaceNumbers.{IsSmall}
use Rattle.control_actions.specs.declared.action.Action.{Action}
use Rattle.control_actions.specs.declared.action.Action.TheVariants as actions
use Rattle.control_actions.specs.declared.action.Completion.{Completion}
use Rattle.ownership_rules.specs.Callees.{callee, callee_in, is_super_target}
use Rattle.value_laws.specs.CalledRows.{interest_in, is_emptied}
use Rattle.value_laws.specs.Accept.{Accept}
use Rattle.ledger_state.specs.Contents.{HeapContents}
use Rattle.ledger_state.specs.Heaps.{next_number, object_at, root, root_of, unfinished}
use Rattle.ledger_state.specs.declared.entry.Owner.{Owner}
use Rattle.ledger_state.specs.declared.entry.Owner.TheVariants as owners
use Rattle.ledger_state.specs.declared.object.Link.{Link}
use Rattle.ledger_state.specs.declared.object.Object.{Object}
use Rattle.ledger_state.specs.declared.value.Value.{Value}
use Rattle.ledger_state.specs.declared.value.Value.TheVariants as values
use Rattle.ledger_obligations.specs.declared.note.Note.{Note}
use Rattle.ledger_obligations.specs.Obligations.{has_note, is_library_owner, note, is_held_by}
use Rattle.ledger_steps.specs.LedgerCallsCalls.{alias_position, alias_target, body_of, object_by, operand_of, reset_position}
use Rattle.ledger_steps.specs.LedgerCallsCalls as calls
use Rattle.value_laws.specs.Configuration.{Frame}
use Rattle.value_laws.specs.Choosing.{frame_steps}
use Rattle.value_laws.specs.Frames.{frame_after}
use Rattle.ledger_steps.specs.Ends.{answered, answered_normally, exception_class, result_value, returned_heap, thrown_in}
use Rattle.value_laws.specs.Heaps.{GoesOn, HasEarlierLinks}
use Rattle.value_laws.specs.ProgramCalls.{IsReturned}
use Rattle.value_laws.specs.Leading.{Leads, is_passed_on}
use Rattle.value_laws.proofs.HeapLaws.{roots_of_links-itself}
use Rattle.value_laws.specs.Agreement.{AllStand, HasMadeClasses, IsMadeAfter, IsMadeByNew, RunsItself, RunsOnSame, Stands}
use Rattle.value_laws.specs.Chains.{HaveEnds}
use Rattle.value_laws.specs.PlainForms.{HasPlainForms, IsPlainAction, IsPlainCall, MayRun, RunsFor}
use Rattle.value_laws.specs.Nexts.{IsBackStep}
use Rattle.value_laws.proofs.Cases.{none_runs}
use Rattle.value_laws.specs.Frames.{KeepsTargets}
use Rattle.value_laws.proofs.CallNames.{IsReceiver, object_with_root, operand_has_position, same_interest, small_name}
use Rattle.value_laws.proofs.Ready.{call_sets, plain_call, plain_step, step_there}
use Rattle.value_laws.proofs.Unmet.{way_of_call}
use Rattle.value_laws.specs.Types.{GivesAsNamed, KeepsTypes, is_text}
use Rattle.value_laws.specs.FieldContents.{AreNew, AreUnfinished, FieldsOwn, HaveContents, MakersOwn, IsBeingMade, IsDispatched, LinksLead, is_new, RunOnOthers, TopRunsAlone}
use Rattle.value_laws.specs.PlaceFacts.{AreWaiting, Covers, IsCovered, IsHolder, IsOld, OwesOrHolds, OwnersBelow, gives_none, is_given, may_owe, renews_none, AreCovered, is_frame_from, MayStore, is_idle}
use Rattle.covering_laws.proofs.OlderHolders.{alias_holds_nothing, field_of_owner}
use Rattle.value_laws.specs.Renewing.{is_renewed, is_reread, renews}
use Rattle.value_laws.proofs.Emptied.{plain_note}
use Rattle.value_laws.proofs.EndResets.{plain_alias_position}
use Rattle.value_laws.proofs.Renewed.{says_nothing, without_reset}
use Rattle.value_laws.specs.Ranges.{FieldsInRange, IsNumber, LocalsInRange}
use Rattle.covering_laws.specs.Linking.{IsGivenAsAlias, LinkedAreAliases}
use Rattle.covering_laws.specs.Throws.{EndsAsDeclared}
use Rattle.covering_laws.specs.Running.{HasPlainRuns}
use Rattle.value_laws.proofs.SettledFrames.{AllRenewInHand, RenewsInHand}
use Rattle.covering_laws.specs.Covering.{IsCountedOn}
use Rattle.covering_laws.proofs.CountedAtEnds.{counted}
use Rattle.covering_laws.proofs.SaidFacts.{ends_lend_nothing, said_apart}
use Rattle.covering_laws.proofs.IdleCalls.{LendsItsOwn, idle_over_call}
use Rattle.covering_laws.proofs.WholeThis.{IsSingleThis}
use Rattle.value_laws.proofs.AliasConducts.{gives_object}
use Rattle.covering_laws.proofs.AliasPlaces.{alias_kind, from_operand, gives_operand}
use Rattle.covering_laws.proofs.AliasResults.{argument_is_result, result_is_argument}
use Rattle.covering_laws.proofs.CallNotes.{no_receiver, noted_at, plain_interest_in}
use Rattle.covering_laws.proofs.KnownNames.{operand_holds}
use Rattle.covering_laws.proofs.CallSteps.{IsGivenOr, call_from, sure_is_said}
use Rattle.covering_laws.proofs.EndHeaps.{end_carries, end_keeps, end_linked, end_noted, end_roots, end_unfinished, end_was, made_roots, null_here, other_roots, self_root}
use Rattle.covering_laws.proofs.EndOwners.{end_below, end_keeps_own, end_owners_go, number_value}
use Rattle.covering_laws.proofs.BegunFrames.{not_own}
use Rattle.covering_laws.proofs.CallResults.{IsBornSo}
use Rattle.covering_laws.proofs.Gifts.{small_gifts}
use Rattle.covering_laws.proofs.GivenArguments.{away_moves}
use Rattle.covering_laws.proofs.GivenAway.{any_at, given_at_step}
use Rattle.covering_laws.proofs.Owners.{AllKeepGifts, HoldersWere, IsNewTo, KeepsHeld, OwnerGoes, OwnersGo, StaysApart, WaysGo, held_here, holders_were, left, old_kept, owners_kept, passed, stays, stays_apart, ThisWas}
use Rattle.covering_laws.proofs.ResultOwners.{returned_owner}
use Rattle.covering_laws.proofs.Bodies.{running_method}
use Rattle.covering_laws.proofs.OwnNames.{chosen_by_note, own_name_called}
use Rattle.covering_laws.proofs.EndNames.{promises_kept}
use Rattle.covering_laws.proofs.FieldOwnersAtEnds.{fields_own_at_end}
use Rattle.covering_laws.proofs.EndResults.{given, thrown_light}
use Rattle.covering_laws.proofs.LocalSteps.{LocalsIn, all_there, holds_there, local_step}
use Rattle.covering_laws.proofs.TopSteps.{IsKeyedFrom, IsLocalStep, IsMadeSo, IsSureOf, StopsOwning}
use Rattle.covering_laws.proofs.Waiting.{AllHeldBefore, AllKeepRoots, AllReady, AllThere, Carries, HoldsThere, IsCarried, KeepsFieldsButTexts, KeepsOtherRoots, KeepsRoots, KeepsUnfinished, all_held_before_on, all_keep, all_keep_but_texts, but_texts, all_keep_other_roots, all_keep_roots, all_wait_on, frames_ready_but, bore_before, old_as, value_root, ways_go_on, KeepsFields, numbered}
use Rattle.value_laws.proofs.Chains.{object_there}
use Rattle.value_laws.proofs.Steps.{result_in_range}
use Rattle.value_laws.proofs.RangeValues.{operand_in_range}
use Rattle.ledger_state.specs.Values.{number_of}
use Rattle.program_model.specs.Overrides.{is_library}
use Rattle.ledger_obligations.specs.Bodies.{alias_in, constructs, is_constructor_kind}
use Rattle.covering_laws.specs.Making.{IsUnheld}
use Rattle.ledger_obligations.specs.MustCallSets.{is_heavy_class}
use Rattle.control_actions.specs.declared.action.Completion.TheVariants as completions
use Rattle.control_actions.specs.declared.action.Edge.TheVariants as edges
use Rattle.value_laws.specs.Ends.{is_throw}
use Rattle.value_laws.specs.Paths.{move_of}
use Rattle.value_laws.specs.Arguments.{HasArguments, has_receiver}
use Rattle.value_laws.specs.Aliases.{gives_alias}
use Rattle.control_actions.specs.declared.fact.Fact.{Fact}
use Rattle.control_actions.specs.declared.fact.Origin.{Origin}
use Rattle.control_actions.specs.declared.place.Place.{Place}
use Rattle.control_actions.specs.declared.place.Place.TheVariants as places
use Rattle.ownership_rules.specs.Facts.{is_held, is_own}
use Rattle.value_laws.specs.Frames.{is_made, made_place}
use Rattle.value_laws.specs.Places.{class_of_method, place_value}
use Rattle.value_laws.specs.Naming.{IsOfItsKind}
use Rattle.value_laws.proofs.NamedReached.{names_what_is_there}
use Rattle.value_laws.specs.PlacePlaces.{is_local}
use Rattle.covering_laws.proofs.OwnerSteps.{held_is}
use Rattle.covering_laws.proofs.LeftOut.{left_out_bears}
use Rattle.covering_laws.proofs.RenewedOperands.{HoldsLent}
use Rattle.covering_laws.proofs.StepWays.{end_births, end_unowned, ways_by}
use Rattle.covering_laws.proofs.AlikeHeaps.{AreAlike}
use Rattle.covering_laws.proofs.AnewAtEnds.{AllTurned, all_anew, content_declares, this_stays}
use Rattle.covering_laws.proofs.WaitingTargets.{renewed_at_step, target_temp}
use Rattle.covering_laws.proofs.ThisOperands.{lends_target}
use Rattle.value_laws.specs.Holders.{HoldersAreUnlinked}
use Rattle.value_laws.specs.Types.{StoredHoldNone}
use Rattle.value_laws.proofs.Growth.{returned_grows}
use Rattle.covering_laws.specs.Texts.{TextsAreLight}

module _ (p : Program) (ac : Accept p) (forms : HasPlainForms p) (runs' : HasPlainRuns p) (names : HasSmallInterests p) (h : HeapContents) (texts : TextsAreLight p h) (links : HasEarlierLinks h) (apart : LinkedAreAliases p h) (ranges : FieldsInRange h)
    (fr caller : Frame) (rest : List Frame) (st : Stands p fr) (below : Stands p caller) (targets : KeepsTargets p caller) (keeps : KeepsTypes (is_text p h) p fr) (gives : GivesAsNamed p caller fr) (dispatched : IsDispatched p h fr caller)
    (making : IsBeingMade p h fr caller) (mine' : LocalsInRange h fr.locals) (old : ℕ → Bool) (covered : IsCovered p h gives_none renews_none old (caller ∷ rest) fr) (i : ℕ) (s : Step) (q : Completion) (here : slice_get (frame_steps p fr) i ≡ Some s) (is : s.action ≡ actions.End q)
    (t : Step) (named : MethodId) (back : IsBackStep p (frame_steps p caller) (exception_class p h (thrown_in fr.locals q)) named t) (may : MayRun p named fr.method) (makes : IsMadeByNew p h t.action fr.locals.this) (itself : RunsItself t.action named fr.method) (args : HasArguments p caller fr) (exits : EndsAsDeclared p h fr)
    (leads : LinksLead p h) (ends : HaveEnds h) (made_after : IsMadeAfter p caller.locals t.action fr.locals.this) (classes : HasMadeClasses p h) (unheld : IsUnheld p h fr caller rest) (in' : LocalsIn h (caller ∷ rest)) (alone : TopRunsAlone p h (fr ∷ caller ∷ rest)) (contents : HaveContents p (fr ∷ caller ∷ rest) h)
    (unlinked : HoldersAreUnlinked (is_heavy_class p) h) (fresh : (w : ℕ) → is_new t.action ≡ true → fr.locals.this ≡ values.Object w → RunOnOthers w (caller ∷ rest)) (on_same : RunsOnSame t.action caller.locals.this fr.locals.this)
    (stored : StoredHoldNone (is_text p h) p h) where
  -- the position of the caller
  abbrev pub at : ℕ
  at = length rest + 1

  abbrev pub e : Option ClassId
  e = exception_class p h (thrown_in fr.locals q)

  abbrev pub v : Value
  v = result_value fr.locals (method_at p fr.method) q

  abbrev pub V : Value
  V = answered fr.locals.this t.action v e

  abbrev pub m : Option Method
  m = method_at p named

  -- the method that the call names, but for its reset
  abbrev pub plain : Option Method
  plain = without_reset m

  -- the heap that the end leaves without the reset
  abbrev pub K : HeapContents
  K = returned_heap p at fr.locals.this caller.locals t.action (method_at p fr.method) plain v e h

  abbrev pub after : Frame
  after = frame_after p h caller t V

  form : IsPlainAction p t.action
  form = plain_step p ac forms caller below back.index t back.here

  call : IsPlainCall p named
  call = plain_call p t.action named form back.row back.calls

  unmade : (w : ℕ) (x : Object) → is_new t.action ≡ true → fr.locals.this ≡ values.Object w → object_at h w ≡ Some x → x.finished ≡ false
  unmade w x new this at' = making back.index t w x back.here new this at'

  -- the method that the call names is there
  named_there : (n : Method) × (m ≡ Some n)
  named_there = go m refl
    where
      go : (x : Option Method) → m ≡ x → (n : Method) × (m ≡ Some n)
      go None none = absurd (let never : None ≡ Some st.number = sym (ap body_of (none_runs p named fr.method may none)) ∙ st.id in cc)
      go (Some n) there = (n, there)

  -- one of the program runs, which is as the named signature says
  run : (x : Method) × (method_at p fr.method ≡ Some x) × (is_library p x.class ≡ false)
  run = running_method p ac fr st

  fit : RunsFor p named_there.0 run.0
  fit = call.program fr.method named_there.0 run.0 may named_there.1 run.1 run.2

  no_reset : reset_position plain ≡ None
  no_reset = says_nothing m

  plain_alias : alias_position plain ≡ named_there.0.sig.alias
  plain_alias = plain_alias_position m ∙ ap alias_position named_there.1

  same_callee : callee p t.action ≡ Some named_there.0
  same_callee = ap (callee_in p) back.calls ∙ named_there.1

  kind : IsOfItsKind p t.action
  kind = (names_what_is_there p ac.well_formed.valid.typed below.number below.body caller.control back.index (move_of t) below.at below.control (step_there p caller below back.index t back.here)).1

  named_is : (m' : MethodId) → called_method t.action ≡ Some m' → m' ≡ named
  named_is m' it = let both : Some m' ≡ Some named = sym it ∙ back.calls in (let one : m' ≡ named = cc in one)

  call_kind : (k : ℕ) → named_there.0.sig.alias ≡ Some k → (is_new t.action ≡ true) ⊎ ((is_new t.action ≡ false) × (constructs m ≡ false) × (has_receiver t.action ≡ true))
  call_kind k some = alias_kind p t.action named form kind back.calls k (ap alias_in named_there.1 ∙ some)

  -- the argument of which the object of a `new` is to be an alias
  abbrev target : Option ℕ
  target = alias_target (operand_of caller.locals t.action) plain

  -- the caller goes on as if the method had returned: it threw nothing
  normal : t.edge ≡ edges.Go → e ≡ None
  normal edge = go e refl
    where
      go : (x : Option ClassId) → e ≡ x → e ≡ None
      go None is' = is'
      go (Some c) is' = let way' = back.thrown c is' in absurd (let never : edges.Go ≡ edges.Throws way'.0 = sym edge ∙ way'.2 in cc)

  -- and it did return
  returns : t.edge ≡ edges.Go → is_throw q ≡ false
  returns edge = by q refl
    where
      by : (c : Completion) → q ≡ c → is_throw q ≡ false
      by (completions.Throw f k pos) is' =
          absurd (exits.throws i s f k pos here (is ∙ ap actions.End is') (ap (λ (c : Completion). exception_class p h (thrown_in fr.locals c)) (sym is') ∙ normal edge))
      by (completions.Return pos) is' = ap is_throw is'
      by (completions.ReturnValue f pos) is' = ap is_throw is'
      by (completions.Break pos) is' = ap is_throw is'
      by (completions.Continue pos) is' = ap is_throw is'

  thrown : (d : ClassId) → t.edge ≡ edges.Throws d → is_throw q ≡ true
  thrown d edge = go e refl
    where
      throws : (c : Completion) (k : ClassId) → exception_class p h (thrown_in fr.locals c) ≡ Some k → is_throw c ≡ true
      throws (completions.Throw f k' pos) k is' = refl
      throws (completions.Return pos) k is' = absurd (let never : None ≡ Some k = is' in cc)
      throws (completions.ReturnValue f pos) k is' = absurd (let never : None ≡ Some k = is' in cc)
      throws (completions.Break pos) k is' = absurd (let never : None ≡ Some k = is' in cc)
      throws (completions.Continue pos) k is' = absurd (let never : None ≡ Some k = is' in cc)

      go : (x : Option ClassId) → e ≡ x → is_throw q ≡ true
      go None is' = absurd (let never : edges.Throws d ≡ edges.Go = sym edge ∙ back.normal is' in cc)
      go (Some k) is' = throws q k is'

  -- where no object is linked, all roots stay
  roots : (e ≡ None → is_new t.action ≡ true → target ≡ None) → KeepsRoots h K
  roots free = end_roots p at fr.locals.this caller.locals t.action (method_at p fr.method) plain v e h links no_reset unmade free

  roots_thrown : (c : ClassId) → e ≡ Some c → KeepsRoots h K
  roots_thrown c thrown' = roots (λ normal' new. absurd (let never : None ≡ Some c = sym normal' ∙ thrown' in cc))

  roots_called : is_new t.action ≡ false → KeepsRoots h K
  roots_called earlier = roots (λ normal' new. absurd (true≢false (sym new ∙ earlier)))

  roots_plain : named_there.0.sig.alias ≡ None → KeepsRoots h K
  roots_plain none = roots (λ normal' new. ap (object_by (operand_of caller.locals t.action)) (plain_alias ∙ none))

  -- the object of a `new`
  self_made : is_new t.action ≡ true → (w : ℕ) × (fr.locals.this ≡ values.Object w) × (0 < w) × (w < next_number h)
  self_made new = go t.action refl new makes
    where
      go : (a : Action) → t.action ≡ a → is_new a ≡ true → IsMadeByNew p h a fr.locals.this → (w : ℕ) × (fr.locals.this ≡ values.Object w) × (0 < w) × (w < next_number h)
      go actions.Skip is' one made' = absurd (true≢false (sym one))
      go (actions.New m' d n') is' one made' = (made'.0, made'.1, made'.4, made'.2)
      go a is' one made' = absurd (true≢false (sym one))

  -- it is of the class of the constructor that the `new` names
  made_class : is_new t.action ≡ true → (w : ℕ) (x : Object) → fr.locals.this ≡ values.Object w → object_at h w ≡ Some x → (named_there.0.class ≡ x.class) × (is_constructor_kind named_there.0.kind ≡ true)
  made_class new w x this there = go t.action refl new makes
    where
      go : (a : Action) → t.action ≡ a → is_new a ≡ true → IsMadeByNew p h a fr.locals.this → (named_there.0.class ≡ x.class) × (is_constructor_kind named_there.0.kind ≡ true)
      go actions.Skip is' one made' = absurd (true≢false (sym one))
      go (actions.New m' d n') is' one made' =
          let m_is = named_is m' (ap called_method is') in
          let number : made'.0 ≡ w = (let both : values.Object made'.0 ≡ values.Object w = sym made'.1 ∙ this in (let same : made'.0 ≡ w = cc in same)) in (
            let both : Some named_there.0.class ≡ Some x.class = sym (ap class_of_method named_there.1) ∙ sym (ap (λ (z : MethodId). class_of_method (method_at p z)) m_is) ∙ made'.3 x (ap (object_at h) number ∙ there) in cc,
            sym (ap constructs named_there.1) ∙ sym (ap (λ (z : MethodId). constructs (method_at p z)) m_is) ∙ subst (IsOfItsKind p) is' kind,
          )
      go a is' one made' = absurd (true≢false (sym one))

  -- ---- it is linked

  module _ (normal' : e ≡ None) (new : is_new t.action ≡ true) (k : ℕ) (to : target ≡ Some k) where
    abbrev self : ℕ
    self = (self_made new).0

    object : (x : Object) × (object_at h self ≡ Some x)
    object = let class : ClassId = record { 0 = 0 } in object_there h self (unfinished class) (self_made new).2 (self_made new).3

    is_aliased : calls.is_alias plain ≡ true
    is_aliased = go (alias_position plain) refl
      where
        go : (a : Option ℕ) → alias_position plain ≡ a → calls.is_alias plain ≡ true
        go None none = absurd (let never : None ≡ Some k = sym (ap (object_by (operand_of caller.locals t.action)) none) ∙ to in cc)
        go (Some j) some = ap is_some some

    unowned : object.0.owner ≡ owners.Unowned
    unowned = ends.unfinished self object.0 object.1 (unmade self object.0 new (self_made new).1 object.1)

    -- it was made after the argument
    later : (0 < k) × (k < self)
    later = go t.action refl new made_after (ap (object_by (operand_of caller.locals t.action)) (sym (plain_alias_position m)) ∙ to)
      where
        go : (a : Action) → t.action ≡ a → is_new a ≡ true → IsMadeAfter p caller.locals a fr.locals.this → alias_target (operand_of caller.locals a) m ≡ Some k → (0 < k) × (k < self)
        go actions.Skip is' one after' to' = absurd (true≢false (sym one))
        go (actions.New m' d n') is' one after' to' = after' self k (ap number_of (self_made new).1)
            (ap (λ (z : MethodId). alias_target (operand_of caller.locals (actions.New m' d n')) (method_at p z)) (named_is m' (ap called_method is')) ∙ to')
        go a is' one after' to' = absurd (true≢false (sym one))

    -- its class has an obligation
    made_heavy : is_heavy_class p object.0.class ≡ true
    made_heavy = go (alias_position plain) refl
      where
        its : (named_there.0.class ≡ object.0.class) × (is_constructor_kind named_there.0.kind ≡ true)
        its = made_class new self object.0 (self_made new).1 object.1

        go : (a : Option ℕ) → alias_position plain ≡ a → is_heavy_class p object.0.class ≡ true
        go None none = absurd (let never : None ≡ Some k = sym (ap (object_by (operand_of caller.locals t.action)) none) ∙ to in cc)
        go (Some j) some = elim (gives_object p ac.well_formed named named_there.0 named_there.1 j (sym plain_alias ∙ some)) [
          | inl made ↦ ap (is_heavy_class p) (sym its.0) ∙ made.1
          | inr other ↦ absurd (true≢false (sym its.1 ∙ other.0))
        ]

    others_keep : KeepsOtherRoots h K self
    others_keep = other_roots p at fr.locals.this caller.locals t.action (method_at p fr.method) plain v e h links no_reset unmade normal' new self k (self_made new).1 is_aliased to object.0 object.1 unowned later.0 later.1

    linked_root : root K self ≡ root h k
    linked_root = self_root p at fr.locals.this caller.locals t.action (method_at p fr.method) plain v e h links no_reset unmade normal' new self k (self_made new).1 is_aliased to object.0 object.1 unowned later.0 later.1

    made_keep : (n : ℕ) → IsNumber h n → root h n ≡ self → root K n ≡ root h k
    made_keep = made_roots p at fr.locals.this caller.locals t.action (method_at p fr.method) plain v e h links no_reset unmade normal' new self k (self_made new).1 is_aliased to object.0 object.1 unowned later.0 later.1

  -- the frames that wait keep the roots of what they hold
  pub all_roots : AllKeepRoots p h K (caller ∷ rest)
  all_roots = by e refl (is_new t.action) refl target refl
    where
      inside : AllThere p h (caller ∷ rest)
      inside = all_there p h ranges (caller ∷ rest) in'

      by : (x : Option ClassId) → e ≡ x → (b : Bool) → is_new t.action ≡ b → (k : Option ℕ) → target ≡ k → AllKeepRoots p h K (caller ∷ rest)
      by (Some c) thrown' b new k to = all_keep_roots p h K (roots_thrown c thrown') (caller ∷ rest) inside
      by None normal' false earlier k to = all_keep_roots p h K (roots_called earlier) (caller ∷ rest) inside
      by None normal' true new None none = all_keep_roots p h K (roots (λ x y. none)) (caller ∷ rest) inside
      by None normal' true new (Some k) to =
          all_keep_other_roots p h K (self normal' new k to) (others_keep normal' new k to) (caller ∷ rest) inside
          (unheld back.index t (self normal' new k to) (object normal' new k to).0 back.here new (self_made new).1 (object normal' new k to).1 (made_heavy normal' new k to))

  pub local : IsLocalStep p caller below t
  local = local_step p ac forms caller below back.index t back.here (call_sets t.action back.row) (way_of_call t back.row)

  caller_in : LocalsInRange h caller.locals
  caller_in = All-head (λ (x : Frame). LocalsInRange h x.locals) caller rest in'

  -- ---- what stays

  pub inside : HoldsThere p h caller
  inside = holds_there p h ranges caller caller_in

  pub carries : Carries h K
  carries = end_carries p at fr.locals.this caller.locals t.action (method_at p fr.method) plain v e h links no_reset unmade

  pub fields : KeepsFieldsButTexts p h K
  fields = but_texts p h K (end_keeps p at fr.locals.this caller.locals t.action (method_at p fr.method) plain v e h links no_reset unmade)

  pub was : (n : ℕ) (x : Object) → object_at K n ≡ Some x → IsCarried h n x
  was = end_was p at fr.locals.this caller.locals t.action (method_at p fr.method) plain v e h links no_reset unmade

  -- ---- names

  -- the call is noted on its receiver, whose names its frame leaves
  noted : (o : ℕ) (x y : Object) (k : NameId) → object_at h o ≡ Some x → object_at K o ≡ Some y → root_of h (operand_of caller.locals t.action 0) ≡ Some o → is_super_target t.action ≡ false
      → interest_in (callee p t.action) ≡ Some k → IsCountedOn p h old (caller ∷ rest) fr o x → x.finished ≡ true → GoesOn x y
      → is_heavy_class p x.class ≡ true → OwesOrHolds p h o x → set.contains y.called k.0 ≡ true
  noted o x y k before now root' other interest counted done goes heavy owes = by (is_passed_on p (note false r.object k) object.0) refl
    where
      r : IsReceiver h caller.locals t.action m o k
      r = subst (λ (z : Option Method). IsReceiver h caller.locals t.action z o k) (ap (callee_in p) back.calls)
          (noted_at p ac h caller.locals o k t.action form back.row other root' (same_interest (callee p t.action) ∙ interest))

      object : (z : Object) × (object_at h r.object ≡ Some z)
      object = let number = operand_in_range h caller.locals caller_in t.action 0 r.object (ap number_of r.value) in object_there h r.object x number.0 number.1

      way : Leads p h r.object o
      way = leads r.object o object.0 x object.1 r.root before heavy owes

      named_interest : (z : Option NameId) → interest_in (callee p t.action) ≡ z → calls.interest_in plain ≡ z
      named_interest z same = plain_interest_in m ∙ ap calls.interest_in (sym (ap (callee_in p) back.calls)) ∙ (same_interest (callee p t.action) ∙ same)

      -- the note without the reset
      plain_receiver : IsReceiver h caller.locals t.action plain o k
      plain_receiver = record { object = r.object; value = r.value; root = r.root; noted = ap (λ (ns : List Note). has_note ns (note false r.object k)) (plain_note caller.locals t.action m) ∙ r.noted }

      by : (b : Bool) → is_passed_on p (note false r.object k) object.0 ≡ b → set.contains y.called k.0 ≡ true
      by true goes_through =
          end_noted p at fr.locals.this caller.locals t.action (method_at p fr.method) plain v e h links no_reset unmade o object.0 y k (no_receiver h caller.locals t.action o root') plain_receiver
          (λ n is'. small_name p t.action n names (interest ∙ sym (named_interest (Some k) interest) ∙ is')) object.1 goes_through way now
      by false stopped = within_at x.called y.called goes.called k.0
          (own_name_called p ac forms h links fr caller rest st old covered i s q here is back.index t back.here named named_there.0 back.calls named_there.1 dispatched k
          (ap interest_in (sym same_callee) ∙ interest) (chosen_by_note caller.locals t.action m (note false r.object k) r.noted) o x before heavy owes done classes counted r.object object.0 r.value object.1 way stopped)

  -- what is linked is an alias: so is the object of a `new`
  pub ended_apart : LinkedAreAliases p K
  ended_apart n y l now some = elim (end_linked p at fr.locals.this caller.locals t.action (method_at p fr.method) plain v e h links no_reset unmade n y l now some) [
    | inl was ↦ subst (IsGivenAsAlias p) (sym was.3) (apart n was.0 l was.1 was.2)
    | inr made' ↦ of_new made'.0 made'.1 made'.2 made'.3
  ]
    where
      alias_there : (x : Option ℕ) → named_there.0.sig.alias ≡ x → is_some x ≡ true → (k : ℕ) × (named_there.0.sig.alias ≡ Some k)
      alias_there None none' some' = absurd (true≢false (sym some'))
      alias_there (Some k) is' some' = (k, is')

      of_new : is_new t.action ≡ true → fr.locals.this ≡ values.Object n → calls.is_alias plain ≡ true → ((x : Object) × (object_at h n ≡ Some x) × (y.class ≡ x.class)) → IsGivenAsAlias p y.class
      of_new new this aliased' earlier =
          let alias' = alias_there named_there.0.sig.alias refl (sym (ap is_some plain_alias) ∙ aliased') in
          let its = made_class new n earlier.0 this earlier.1 in
          record { number = named; method = named_there.0; at = named_there.1; position = alias'.0; alias = alias'.1; class = inl (its.1, earlier.2 ∙ sym its.0) }

  pub ended_unfinished : KeepsUnfinished h K (λ o. (fr.locals.this ≡ values.Object o) × (is_new t.action ≡ true))
  ended_unfinished = end_unfinished p at fr.locals.this caller.locals t.action (method_at p fr.method) plain v e h links no_reset unmade

  pub ready : AllReady p h K (caller ∷ rest)
  ready = frames_ready_but p h K (λ o. (fr.locals.this ≡ values.Object o) × (is_new t.action ≡ true)) ended_unfinished (caller ∷ rest) (λ w x before heavy is. unheld back.index t w x back.here is.1 is.0 before heavy)

  pub ended_held_before : AllHeldBefore p h K rest
  ended_held_before =
      all_held_before_on p h K rest all_roots.1 (all_keep p h K (end_keeps p at fr.locals.this caller.locals t.action (method_at p fr.method) plain v e h links no_reset unmade) rest)

  -- ---- who owns what

  -- the frame owned its result, which the caller owns when the call has ended
  result_owner : (n : ℕ) (x u : Object) → object_at h n ≡ Some x → is_heavy_class p x.class ≡ true → may_owe x ≡ true → IsReturned p at (method_at p fr.method) v e h n x u → x.owner ≡ owners.Frame (at + 1)
  result_owner n x u before heavy owes r =
      returned_owner p ac h fr old (caller ∷ rest) st mine' covered i s q here is at n x u before heavy owes r ∙ ap owners.Frame (let number : length (caller ∷ rest) + 1 ≡ length rest + 1 + 1 = omega arith in number)

  -- a constructor that runs on an object on which no frame below runs has not finished it
  made_unready : (w : ℕ) → constructs (method_at p fr.method) ≡ true → fr.locals.this ≡ values.Object w → RunOnOthers w (caller ∷ rest) → (z : Object) → object_at h w ≡ Some z → z.finished ≡ false
  made_unready w makes' this others z there = go t.action refl
    where
      named_makes : constructs m ≡ true
      named_makes = ap constructs named_there.1 ∙ sym fit.makes ∙ sym (ap constructs run.1) ∙ makes'

      go : (a : Action) → t.action ≡ a → z.finished ≡ false
      go actions.Skip is' = absurd (let never : None ≡ Some named = sym (ap called_method is') ∙ back.calls in cc)
      go (actions.New m' d n') is' = unmade w z (ap is_new is') this there
      go (actions.Super m' d n') is' = absurd (others.0 (sym (subst (λ (a : Action). RunsOnSame a caller.locals.this fr.locals.this) is' on_same) ∙ this))
      go (actions.Call m' d n' f) is' = absurd (true≢false (sym named_makes ∙ ap (λ (z' : MethodId). constructs (method_at p z')) (sym (named_is m' (ap called_method is'))) ∙ subst (IsOfItsKind p) is' kind))
      go a is' = absurd (let never : None ≡ Some named = sym (ap called_method is') ∙ back.calls in cc)

  pub goes_on : OwnersGo p None (caller ∷ rest) at h K
  goes_on = end_owners_go p at fr.locals.this caller.locals t.action (method_at p fr.method) plain v e h no_reset unmade (caller ∷ rest) gives_up_alone result_owner None
    where
      gives_up_alone : (n : ℕ) (x : Object) → object_at h n ≡ Some x → is_heavy_class p x.class ≡ true → (w : ℕ) → constructs (method_at p fr.method) ≡ true → fr.locals.this ≡ values.Object w → is_held_by x.owner w ≡ true → IsNewTo h (caller ∷ rest) w
      gives_up_alone n x before heavy w makes this held' =
          let field = field_of_owner x.owner w held' in
          let others = alone n x w field.0 makes this before heavy field.1 in
          (others, λ z there. made_unready w makes this others z there)

  pub ways : WaysGo p None (caller ∷ rest) at h K
  ways = ways_by p None (caller ∷ rest) at h K ends unlinked (end_unowned p at fr.locals.this caller.locals t.action (method_at p fr.method) plain v e h no_reset ends unmade)
      (returned_grows p at fr.locals.this caller.locals t.action (method_at p fr.method) plain v e h).count carries (end_births p at fr.locals.this caller.locals t.action (method_at p fr.method) plain v e h no_reset ends unmade)
      (λ o. (fr.locals.this ≡ values.Object o) × (is_new t.action ≡ true)) ended_unfinished (λ o is'. fresh o is'.1 is'.0) (λ w none. absurd (let never : None ≡ Some w = none in cc))

  -- what fields own
  pub holders : HoldersWere p h K
  holders = holders_were p None (caller ∷ rest) at h K ways goes_on

  -- the caller goes on owning what it owned
  pub caller_owns : (o : ℕ) (x y : Object) → object_at h o ≡ Some x → object_at K o ≡ Some y → x.finished ≡ true → is_heavy_class p x.class ≡ true → x.owner ≡ owners.Frame at → y.owner ≡ owners.Frame at
  caller_owns = end_keeps_own p at fr.locals.this caller.locals t.action (method_at p fr.method) plain v e h no_reset unmade result_owner

  -- what fields hold they own, and so it is with what constructors make
  fields_then : (FieldsOwn p h → FieldsOwn p K) × (MakersOwn p h (caller ∷ rest) → MakersOwn p K (caller ∷ rest))
  fields_then = fields_own_at_end p ac forms h links ranges ends fr caller old rest st covered (ends_lend_nothing p fr st i s q here is) args back.index t back.here named makes itself new_makes (λ m' d n' is'. named_is m' (ap called_method is'))
      plain (plain_alias ∙ sym (ap alias_in named_there.1)) no_reset at v e unmade result_owner roots
      (λ normal' new k to. (self normal' new k to, (self_made new).1, object normal' new k to, others_keep normal' new k to, made_keep normal' new k to, linked_root normal' new k to)) fields carries holders goes_on
    where
      new_makes : is_new t.action ≡ true → constructs (method_at p fr.method) ≡ true
      new_makes new = go t.action refl new
        where
          go : (a : Action) → t.action ≡ a → is_new a ≡ true → constructs (method_at p fr.method) ≡ true
          go actions.Skip is' one = absurd (true≢false (sym one))
          go (actions.New m' d n') is' one =
              ap (λ (z : MethodId). constructs (method_at p z)) (subst (λ (a : Action). RunsItself a named fr.method) is' itself ∙ sym (named_is m' (ap called_method is'))) ∙ subst (IsOfItsKind p) is' kind
          go a is' one = absurd (true≢false (sym one))

  pub ended_owns : FieldsOwn p h → FieldsOwn p K
  ended_owns = fields_then.0

  pub ended_makers : MakersOwn p h (caller ∷ rest) → MakersOwn p K (after ∷ rest)
  ended_makers own = let then' = fields_then.1 own in (λ w f o x made. then'.0 w f o x (record { alone = made.alone; field = made.field; declared = made.declared; runs = made.runs }), then'.1)

  -- ---- a result that is an alias

  value_root_is : KeepsRoots h K → root_of K v ≡ root_of h v
  value_root_is keeps' = value_root h K keeps' v (result_in_range h fr.locals mine' (method_at p fr.method) q)

  -- the object of a `new` is an alias of its argument
  module _ (k : ℕ) (some : named_there.0.sig.alias ≡ Some k) (normal' : e ≡ None) (new : is_new t.action ≡ true) where
    target_is : target ≡ number_of (operand_of caller.locals t.action k)
    target_is = ap (object_by (operand_of caller.locals t.action)) (plain_alias ∙ some)

    answer_is_self : V ≡ fr.locals.this
    answer_is_self = ap (answered fr.locals.this t.action v) normal' ∙ go t.action refl new
      where
        go : (a : Action) → t.action ≡ a → is_new a ≡ true → answered fr.locals.this a v None ≡ fr.locals.this
        go actions.Skip is' one = absurd (true≢false (sym one))
        go (actions.New m' d n') is' one = refl
        go a is' one = absurd (true≢false (sym one))

    new_root_is : (j : ℕ) → target ≡ Some j → root_of K V ≡ Some (root h j)
    new_root_is j to = ap (root_of K) (answer_is_self ∙ (self_made new).1) ∙ ap Some (linked_root normal' new j to)

    new_to_result : (o : ℕ) → root_of h (operand_of caller.locals t.action k) ≡ Some o → root_of K V ≡ Some o
    new_to_result o root' =
        let w = object_with_root h (operand_of caller.locals t.action k) o root' in
        new_root_is w.0 (target_is ∙ ap number_of w.1) ∙ ap Some w.2

    -- the constructor that ran makes an alias
    run_aliased : calls.is_alias (method_at p fr.method) ≡ true
    run_aliased = ap calls.is_alias run.1 ∙ ap is_some (fit.alias ∙ some)

    run_makes : constructs (method_at p fr.method) ≡ true
    run_makes = ap constructs run.1 ∙ fit.makes ∙ ap constructs (sym named_there.1) ∙ go t.action refl new
      where
        go : (a : Action) → t.action ≡ a → is_new a ≡ true → constructs m ≡ true
        go actions.Skip is' one = absurd (true≢false (sym one))
        go (actions.New m' d n') is' one = ap (λ (z : MethodId). constructs (method_at p z)) (sym (named_is m' (ap called_method is'))) ∙ subst (IsOfItsKind p) is' kind
        go a is' one = absurd (true≢false (sym one))

    -- an alias of null is the library's
    null_owes : (o : ℕ) (y : Object) → target ≡ None → root_of K V ≡ Some o → object_at K o ≡ Some y → OwesOrHolds p K o y → ⊥
    null_owes o y none root' now owes = go t.action refl new
      where
        self' : (w : ℕ) × (fr.locals.this ≡ values.Object w) × (0 < w) × (w < next_number h)
        self' = self_made new

        earlier : (x : Object) × (object_at h self'.0 ≡ Some x)
        earlier = let class : ClassId = record { 0 = 0 } in object_there h self'.0 (unfinished class) self'.2 self'.3

        no_link : earlier.0.link ≡ None
        no_link = by earlier.0.link refl
          where
            by : (l : Option Link) → earlier.0.link ≡ l → earlier.0.link ≡ None
            by None none' = none'
            by (Some l) some' = absurd (true≢false (sym (links self'.0 earlier.0 l earlier.1 some').finished ∙ unmade self'.0 earlier.0 new self'.1 earlier.1))

        itself' : self'.0 ≡ o
        itself' =
            sym (roots_of_links-itself h self'.0 earlier.0 earlier.1 no_link) ∙ sym (roots (λ x z. none) self'.0 (self'.2, self'.3))
            ∙ (let both : Some (root K self'.0) ≡ Some o = ap (root_of K) (sym (answer_is_self ∙ self'.1)) ∙ root' in (let same : root K self'.0 ≡ o = cc in same))

        -- what was being made, with an aliased argument, held nothing, and nothing was moved to it since
        holds_nothing : IsHolder p K self'.0 → ⊥
        holds_nothing (c, z, there, done', heavy', held') = elim (end_births p at fr.locals.this caller.locals t.action (method_at p fr.method) plain v e h no_reset ends unmade c z there done') [
          | inl before ↦ (let wide' = wide_then before.0 before.1 in by before.0 before.1 before.2 wide' (goes_on c before.0 z before.1 there before.2 wide'))
          | inr free ↦ true≢false (sym (held_is z.owner self'.0 held') ∙ free.0)
        ]
          where
            wide_then : (x : Object) → object_at h c ≡ Some x → is_heavy_class p x.class ≡ true
            wide_then x at' =
                let then' = was c z there in
                ap (λ (u : Object). is_heavy_class p u.class) (let both : Some x ≡ Some then'.0 = sym at' ∙ then'.1 in (let one : x ≡ then'.0 = cc in one)) ∙ ap (is_heavy_class p) (sym then'.2) ∙ heavy'

            by : (x : Object) → object_at h c ≡ Some x → x.finished ≡ true → is_heavy_class p x.class ≡ true → OwnerGoes h None (caller ∷ rest) at x.owner z.owner → ⊥
            by x there' was' wide (stays same) =
                let own = field_of_owner x.owner self'.0 (ap (λ (a : Owner). is_held_by a self'.0) (sym same) ∙ held') in
                alias_holds_nothing p fr (caller ∷ rest) h contents self'.0 run_aliased (λ u at'. unmade self'.0 u new self'.1 at') (alone c x self'.0 own.0 run_makes self'.1 there' wide own.1)
                (c, x, there', was', wide, ap (λ (a : Owner). is_held_by a self'.0) (sym same) ∙ held')
            by x there' was' wide (passed from to low) = absurd (let never : None ≡ Some self'.0 = to self'.0 held' in cc)
            by x there' was' wide (left none' then' fields others) = true≢false (sym held' ∙ fields self'.0)

        is_aliased' : calls.is_alias plain ≡ true
        is_aliased' = ap is_some (plain_alias ∙ some)

        -- a constructor of its class makes an alias
        makes_alias : MayStore p y.class → ⊥
        makes_alias stores =
            let earlier' = was o y now in
            let its = made_class new o earlier'.0 (self'.1 ∙ ap values.Object itself') earlier'.1 in
            let never : Some k ≡ None = sym some ∙ stores.2 named named_there.0 named_there.1 (its.0 ∙ sym earlier'.2) its.1 in
            cc

        go : (a : Action) → t.action ≡ a → is_new a ≡ true → ⊥
        go actions.Skip is' one = true≢false (sym one)
        go (actions.New m' d n') is' one =
            let null' = null_here p at o fr.locals.this caller.locals m' d n' (method_at p fr.method) plain v h y is_aliased' (ap (λ (a : Action). alias_target (operand_of caller.locals a) plain) (sym is') ∙ none) (self'.1 ∙ ap values.Object itself')
            (subst (λ (x : Option ClassId). object_at (returned_heap p at fr.locals.this caller.locals (actions.New m' d n') (method_at p fr.method) plain v x h) o ≡ Some y) normal'
            (subst (λ (a : Action). object_at (returned_heap p at fr.locals.this caller.locals a (method_at p fr.method) plain v e h) o ≡ Some y) is' now)) in
            elim owes [
              | inl may ↦ true≢false (sym may ∙ ap not (and_from y.finished (is_library_owner y.owner) null'.0 (ap is_library_owner null'.1)))
              | inr other ↦ elim other [
                | inl holds ↦ holds_nothing (subst (IsHolder p K) (sym itself') holds)
                | inr stores ↦ makes_alias stores
              ]
            ]
        go a is' one = true≢false (sym one)

    new_to_operand : (o : ℕ) (y : Object) → root_of K V ≡ Some o → object_at K o ≡ Some y → OwesOrHolds p K o y → root_of h (operand_of caller.locals t.action k) ≡ Some o
    new_to_operand o y root' now owes = by target refl
      where
        by : (j : Option ℕ) → target ≡ j → root_of h (operand_of caller.locals t.action k) ≡ Some o
        by None none = absurd (null_owes o y none root' now owes)
        by (Some j) to = ap (root_of h) (number_value (operand_of caller.locals t.action k) j (sym target_is ∙ to)) ∙ sym (new_root_is j to) ∙ root'

  -- the method that runs returns its aliased argument
  module _ (k : ℕ) (some : named_there.0.sig.alias ≡ Some k) (edge : t.edge ≡ edges.Go) (earlier : is_new t.action ≡ false) (method' : constructs m ≡ false) (receives : has_receiver t.action ≡ true) where
    run_alias : run.0.sig.alias ≡ Some k
    run_alias = fit.alias ∙ some

    method_kind : is_constructor_kind run.0.kind ≡ false
    method_kind = fit.makes ∙ ap constructs (sym named_there.1) ∙ method'

    -- its result is what the caller takes
    answer_is : V ≡ v
    answer_is = ap (answered fr.locals.this t.action v) (normal edge) ∙ go t.action refl earlier
      where
        go : (a : Action) → t.action ≡ a → is_new a ≡ false → answered_normally fr.locals.this a v ≡ v
        go actions.Skip is' one = refl
        go (actions.New m' d n') is' one = absurd (true≢false one)
        go (actions.Super m' d n') is' one = absurd (true≢false (sym receives_not ∙ method'))
          where
            receives_not : constructs m ≡ true
            receives_not = ap (λ (z : MethodId). constructs (method_at p z)) (sym (named_is m' (ap called_method is'))) ∙ (subst (IsPlainAction p) is' form).1
        go a is' one = refl

    module _ (o : ℕ) (x : Object) (before : object_at h o ≡ Some x) (heavy : is_heavy_class p x.class ≡ true) (owes : OwesOrHolds p h o x) where
      value_is : root_of K V ≡ root_of h (result_value fr.locals (Some run.0) q)
      value_is = ap (root_of K) answer_is ∙ value_root_is (roots_called earlier) ∙ ap (λ (z : Option Method). root_of h (result_value fr.locals z q)) run.1

      to_result : root_of h (operand_of caller.locals t.action k) ≡ Some o → root_of K V ≡ Some o
      to_result root' = value_is ∙ argument_is_result p ac h fr caller old rest st args covered i s q here is (returns edge) run.0 run.1 k run_alias method_kind back.index t back.here o x before heavy owes root'

      to_operand : root_of K V ≡ Some o → root_of h (operand_of caller.locals t.action k) ≡ Some o
      to_operand root' = result_is_argument p ac h fr caller old rest st args covered i s q here is (returns edge) run.0 run.1 k run_alias method_kind back.index t back.here o x before heavy owes receives (sym value_is ∙ root')

  -- ---- all frames

  -- `old` and `older` are what was old for the frame that ends and for the caller when they began
  module _ (stand : AllStand p rest) (aged : IsOld p h (caller ∷ rest) fr old) (older : ℕ → Bool) (up : (o : ℕ) → older o ≡ true → old o ≡ true) (was_old : IsOld p h rest caller older)
      (waiting : IsCovered p h (is_given p h caller) (is_reread p h caller) older rest caller) (lower : AreWaiting p h older rest) (holds : HoldsLent p h older rest caller below) (news : AreNew p (caller ∷ rest))
      (unready : AreUnfinished p h (caller ∷ rest)) (owned : FieldsOwn p h) (renews' : RenewsInHand p h caller rest) (all_renew : AllRenewInHand p h rest)
      (single : IsSingleThis p h caller) (lending : LendsItsOwn p caller t) (makers : MakersOwn p h (caller ∷ rest)) where
    pub gifts : AllKeepGifts p h K rest
    gifts = small_gifts p ac h K rest stand all_roots.1

    pub others : StaysApart p h K rest caller
    others = stays_apart p None (caller ∷ rest) at h K ways goes_on rest caller (omega arith) gifts tt (λ w none. none.1) (λ w none this. absurd (let never : None ≡ Some w = none in cc))

    pub lasting : KeepsHeld p h K caller
    lasting = held_here p None (caller ∷ rest) at h K ways goes_on rest caller (omega arith) gifts (λ w none. none.0)

    -- where a fact of the caller is sure, and is not emptied, its object is counted on
    counted_here : (o : ℕ) (x : Object) (c : Covers p h (is_given p h caller o x.class) (is_renewed p h caller o) older rest caller o x) → object_at h o ≡ Some x → x.finished ≡ true → is_heavy_class p x.class ≡ true
        → OwesOrHolds p h o x → IsSureOf p ac h K links carries fields caller below back.index t back.here local inside all_roots.0 V older rest (is_given p h caller o x.class) (is_renewed p h caller o) o x c → is_emptied p t.action c.fact.places ≡ false
        → is_renewed p h caller o ≡ false → IsCountedOn p h old (caller ∷ rest) fr o x
    counted_here o x c before done heavy owes sure full spared =
        counted p ac forms h ends unlinked (fr ∷ caller ∷ rest) contents fr caller rest below back.index t back.here old older aged up was_old waiting renews' all_renew news unready o x before done heavy owes spared c sure full

    -- ---- what the call gives

    -- an alias of the object of a fact has that object for its root
    aliased : (o : ℕ) (x : Object) (c : Covers p h (is_given p h caller o x.class) (is_renewed p h caller o) older rest caller o x) → object_at h o ≡ Some x → is_heavy_class p x.class ≡ true → OwesOrHolds p h o x → is_idle p rest caller c.fact ≡ false
        → gives_alias p t.action t.edge c.fact.places ≡ true → root_of K V ≡ Some o
    aliased o x c before heavy owes said gives' =
        let operand = gives_operand p t.action t.edge c.fact.places gives' in
        let k = operand.1.0 in
        let position : named_there.0.sig.alias ≡ Some k = ap alias_in (sym same_callee) ∙ operand.1.1 in
        let root' = operand_holds p h caller.method caller.locals t.action o k c.fact.places local.small (operand_has_position p t.action c.fact.places k local.small operand.1.2) (said_apart p h rest caller o c.fact c.places said) operand.1.2 in
        elim (call_kind k position) [
          | inl new ↦ new_to_result k position (normal operand.0) new o root'
          | inr called' ↦ to_result k position operand.0 called'.0 called'.1 called'.2 o x before heavy owes root'
        ]

    abbrev pub IsGivenOrNot : Origin → Fact → Fact → Type 0
    IsGivenOrNot = IsGivenOr p ac h K links carries fields caller below back.index t back.here local inside all_roots.0 V back.row

    abbrev IsMadeHere : Place → ℕ → Object → Type 0
    IsMadeHere place o y = IsMadeSo p ac h K links carries fields caller below back.index t back.here local inside all_roots.0 V older rest (is_given p h caller) (is_renewed p h caller) IsGivenOrNot place o y

    -- an owner of two frames
    no_two : (n : ℕ) → owners.Frame n ≡ owners.Frame (n + 1) → ⊥
    no_two n is' = let one : n ≡ n + 1 = cc in omega (arith, one)

    -- no fact of the caller goes on owning what it is given
    stops : (o : ℕ) (y : Object) → object_at K o ≡ Some y → is_heavy_class p y.class ≡ true
        → ((is_new t.action ≡ true) × (fr.locals.this ≡ values.Object o)) ⊎ ((x : Object) → object_at h o ≡ Some x → x.owner ≡ owners.Frame (at + 1)) → StopsOwning p h caller older rest (is_given p h caller) (is_renewed p h caller) IsGivenOrNot o
    stops o y now heavy way x before z small root d key mine g more = elim way [
      | inl made' ↦ absurd ((unheld back.index t o x back.here made'.0 made'.1 before heavy').0 z small root)
      | inr owner ↦ by owner (is_given p h caller o x.class) refl
    ]
      where
        heavy' : is_heavy_class p x.class ≡ true
        heavy' =
            let earlier = was o y now in
            ap (λ (u : Object). is_heavy_class p u.class) (let both : Some x ≡ Some earlier.0 = sym before ∙ earlier.1 in (let one : x ≡ earlier.0 = cc in one)) ∙ ap (is_heavy_class p) (sym earlier.2) ∙ heavy

        by : ((u : Object) → object_at h o ≡ Some u → u.owner ≡ owners.Frame (at + 1)) → (b : Bool) → is_given p h caller o x.class ≡ b → is_own g.mode ≡ false
        by owner false spared = absurd (no_two at (sym (key.owner spared mine) ∙ owner x before))
        by owner true gives' = not_own (is_own g.mode) (is_held g.mode)
            (more.0 (away_moves p ac h caller below older rest back.index t back.here back.row (is_given p h caller o x.class) (is_renewed p h caller o) o x d key heavy' (given_at_step p h caller below back.index t o x.class back.here back.row gives')))

    -- what the call gives is covered by its birth, or comes from the operand of which it is an alias
    made : (place : Place) (o : ℕ) (y : Object) → IsSmall place → is_local place ≡ true → is_made (made_place t.action) place ≡ true → place_value p K caller.method after.locals place ≡ V → root_of K V ≡ Some o
        → object_at K o ≡ Some y → is_heavy_class p y.class ≡ true → OwesOrHolds p K o y → IsMadeHere place o y
    made place o y small local' there value root' now heavy owes = by named_there.0.sig.alias refl
      where
        by_end : (k : ℕ) → named_there.0.sig.alias ≡ Some k → (x : Option ClassId) → e ≡ x → IsMadeHere place o y
        by_end k some (Some c) thrown' =
            absurd (thrown_light p ac forms runs' h texts links apart fr caller rest st below keeps gives mine' old older covered i s q here is t named back named_there.0 named_there.1 call may makes exits (roots_thrown c thrown') unmade was holders place o y small there value root'
            now heavy owes c thrown' (ap (λ (x : Option ClassId). root_of K (answered fr.locals.this t.action v x)) (sym thrown') ∙ root'))
        by_end k some None none =
            let earlier = was o y now in
            let edge = back.normal none in
            inr (inr (from_operand p h caller below t local place o small local' there edge k (ap alias_in same_callee ∙ some) (elim (call_kind k some) [
              | inl new ↦ new_to_operand k some none new o y root' now owes
              | inr called' ↦ to_operand k some edge called'.0 called'.1 called'.2 o earlier.0 earlier.1 (ap (is_heavy_class p) (sym earlier.2) ∙ heavy) (bore_before p h K holders o earlier.0 y earlier.1 earlier.3 owes) root'
            ])))

        as_born : IsBornSo p K (is_renewed p h caller o) older rest after place o y ((y.owner ≡ owners.Frame at) × (((is_new t.action ≡ true) × (fr.locals.this ≡ values.Object o)) ⊎ ((x : Object) → object_at h o ≡ Some x → x.owner ≡ owners.Frame (at + 1)))) → IsMadeHere place o y
        as_born (inl (c, in'', unheld', its)) = inl (c, in'', its.0, stops o y now heavy its.1, unheld')
        as_born (inr u) = inr (inl u)

        by : (a : Option ℕ) → named_there.0.sig.alias ≡ a → IsMadeHere place o y
        by None none =
            as_born (given p ac forms runs' h texts links apart fr caller rest st below keeps gives mine' old older covered i s q here is t named back named_there.0 named_there.1 call may makes exits (roots_plain none) unmade was holders place o y small there value root' now heavy
            owes none)
        by (Some k) some = by_end k some e refl

    -- each place of the caller is in a fact that comes from one before, or was born. Where the call creates the object's obligation anew, the fact is still read so.
    pub caller_from : (place : Place) (o : ℕ) (y : Object) → IsSmall place → root_of K (place_value p K caller.method after.locals place) ≡ Some o → object_at K o ≡ Some y → is_heavy_class p y.class ≡ true → OwesOrHolds p K o y
        → IsKeyedFrom p ac h K links carries fields caller below back.index t back.here local inside all_roots.0 V older rest (is_given p h caller) (is_renewed p h caller) IsGivenOrNot place o y
    caller_from =
        call_from p ac h K links carries fields caller below back.index t back.here local inside all_roots.0 V back.row older rest (is_given p h caller) (is_renewed p h caller)
        (λ o c gives'. given_at_step p h caller below back.index t o c back.here back.row gives') waiting was_old (idle_over_call p ac forms caller below t local lending rest) ready.0 others lasting
        (λ o x y before now done heavy spared mine. caller_owns o x y before now done heavy mine)
        (λ o x y c n before now root' other interest sure full spared done goes heavy owes. noted o x y n before now root' other interest (counted_here o x c before done heavy owes sure full spared) done goes heavy owes)
        (λ o x y c before now g more trusted sure full spared done goes heavy owes names less knows.
        let is' = counted_here o x c before done heavy owes sure full spared in
        promises_kept p ac forms h fr caller rest st below targets args caller_in old older covered i s q here is back.index t back.here back.row named named_there.0 back.calls
        named_there.1 call may dispatched returns thrown o x y c before g more.0 trusted is'.0 is'.1 is'.2
        (sure_is_said p ac h K links carries fields caller below back.index t back.here local inside all_roots.0 V back.row older rest (is_given p h caller o x.class) (is_renewed p h caller o) o x c sure) full done goes heavy owes names less knows)
        aliased
        (λ place o y small out root' now heavy owes.
        left_out_bears p ac forms h K texts stored links carries fields caller below back.index t back.here local inside all_roots.0 V older rest (is_given p h caller) (is_renewed p h caller) waiting ready.0 others owned
        (fr ∷ caller ∷ rest) contents ends (this_stays p caller rest h K ways goes_on) caller_in targets single (λ u renewed resets. lends_target p ac caller below targets h u (any_at (λ (z : Step). is_reset_of_this p z.action) (frame_steps p caller) back.index t back.here resets) renewed) unready makers place o y small out root' now heavy owes)
        (λ place o y small local' none' there value root now heavy owes. made place o y small local' there value root now heavy owes)

    -- `this` of the caller, where it is finished and linked to none, was so
    this_was : ThisWas p h K caller
    this_was w y this now heavy' free = (then'.0, then'.1, ((done, ap (is_heavy_class p) (sym then'.2) ∙ heavy'.1), sym (then'.3 done).0.link ∙ free))
      where
        then' : IsCarried h w y
        then' = was w y now

        root' : root_of h caller.locals.this ≡ Some w
        root' = sym (all_roots.0 places.This tt) ∙ ap (root_of K) this ∙ ap Some (roots_of_links-itself K w y now free)

        done : then'.0.finished ≡ true
        done = ready.0 places.This w then'.0 y tt root' then'.1 now (ap (is_heavy_class p) (sym then'.2) ∙ heavy'.1) heavy'.0

    -- what was old for the caller is so
    pub still_old : IsOld p K rest after older
    still_old = old_as p K older rest caller after refl refl (old_kept p h K older rest caller others (ways_go_on p None (caller ∷ rest) at h K ways) was_old this_was)

    -- the frames below it go on waiting
    pub rest_waiting : AreWaiting p K older rest
    rest_waiting =
        all_wait_on p h K links carries (ways_go_on p None (caller ∷ rest) at h K ways) older rest all_roots.1 (all_keep_but_texts p h K fields rest) (all_there p h ranges rest (All-tail (λ (x : Frame). LocalsInRange h x.locals) caller rest in')) ready.1 gifts
        (owners_kept p None (caller ∷ rest) at h K ways goes_on rest (omega arith) gifts tt (λ w none. none.1)) lower

    pub ended_below : OwnersBelow h (length (caller ∷ rest) + 1) → OwnersBelow K at
    ended_below low =
        end_below p at fr.locals.this caller.locals t.action (method_at p fr.method) plain v e h no_reset unmade
        (subst (OwnersBelow h) (let number : length (caller ∷ rest) + 1 ≡ length rest + 1 + 1 = omega arith in number) low)

    -- ---- the reset

    -- the heap `j` is the one that the call leaves with its reset
    module _ (j : HeapContents) (same : (u : Value) → root_of j u ≡ root_of K u) (fields' : KeepsFields p K j) (alike : AreAlike K j) (later : HaveEnds K) (unready' : AreUnfinished p K (caller ∷ rest)) (turns : AllTurned p h K j caller.locals t.action) where
      -- what the caller read anew till then
      read_here : (o : ℕ) → is_renewed p h caller o ≡ true → (renews p h caller.locals t.action o ≡ true) × (o < next_number h)
      read_here o is' =
          let does = renewed_at_step p h caller below back.index t o back.here back.row is' in
          let place = target_temp p ac h caller older rest below back.index t back.here back.row o does in
          (does, (numbered h links (place_value p h caller.method caller.locals (places.Temp place.0)) o place.2 (inside (places.Temp place.0) place.1)).1)

      -- each place of the caller, and of the frames below it, is covered
      pub anew_covered : OwnersBelow h (length (caller ∷ rest) + 1) → AreCovered p j (after ∷ rest)
      anew_covered low =
          all_anew p ac forms h K j caller after rest below back.index t back.here back.row same fields' alike (is_given p h caller) (is_renewed p h caller) older
          (λ o c gives'. given_at_step p h caller below back.index t o c back.here back.row gives') read_here waiting holds ways goes_on others (small_gifts p ac h K (caller ∷ rest) (below, stand) all_roots).0 gifts carries ready.0
          (λ o x y before now done heavy kept owner. caller_owns o x y before now done heavy owner) later news unready unready' still_old
          (λ opens w y this at' heavy' bears none whole. renews'.lent w y this at' (whole, heavy') bears none opens) all_renew
          (content_declares p (fr ∷ caller ∷ rest) h contents) refl refl turns (λ place o y small open' root now heavy owes. caller_from place o y small root now heavy owes) rest_waiting
          (λ n y now. let z = alike.back n y now in ap (is_frame_from (at + 1)) z.2.owner ∙ ended_below low n z.0 z.1)

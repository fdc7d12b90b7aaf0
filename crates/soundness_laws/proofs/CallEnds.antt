-- A frame ends, and with it the call at which the frame below waits.
use Rattle.content_laws.proofs.Owners.{runs_on_none}
use Rattle.program_model.specs.declared.kinds.FieldId.{FieldId}
use Rattle.soundness_laws.proofs.HeldTargets.{frame_holds_none, gone_keeps_owner, held_by_number}
use Rattle.std.proofs.Common.{Bool, List, None, Option, Some, ap, arith, eq-eqb, eqb-true, false, inl, inr, length, nat_eq, not, option_map, refl, slice_get, subst, sym, true, true≢false, ℕ, ◌++◌, ◌+◌, ◌<◌, ◌∙◌, ◌∷◌, ◌≡◌, ◌≤◌, ◌⊎◌}
use Rattle.std.specs.FinSet as set
use Rattle.std.specs.List.{All}
use Rattle.std.specs.Prelude.{MatchBool}
use Rattle.rlc_base.specs.declared.name_id.NameId.{NameId}
use Rattle.rlc_base.specs.declared.place.Pos.{Pos}
use Rattle.std.specs.Option.{is_some}
use Rattle.std.proofs.lemmas.Bool.{and_parts}
use Rattle.rlc_base.proofs.SetLaws.{within_self, within_trans}
use Rattle.program_model.specs.declared.kinds.ClassId.{ClassId}
use Rattle.program_model.specs.declared.kinds.MethodId.{MethodId}
use Rattle.program_model.specs.declared.kinds.VType.{VType}
use Rattle.program_model.specs.declared.program.Method.{Method}
use Rattle.program_model.specs.declared.program.Program.{Program}
use Rattle.program_model.specs.Lookups.{method_at}
use Rattle.ledger_obligations.specs.Bodies.{alias_in, constructs, method_in}
use Rattle.ledger_obligations.specs.MustCallSets.{Names, is_heavy_class, must_of}
use Rattle.ledger_obligations.specs.WellFormed.{HasSmallInterests}
use Rattle.java_control.specs.Calls.{called_method}
use Rattle.java_control.specs.Control.{Step}
use Rattle.control_actions.specs.declared.action.Action.{Action}
use Rattle.control_actions.specs.declared.action.Action.TheVariants as actions
use Rattle.control_actions.specs.declared.action.Completion.{Completion}
use Rattle.control_actions.specs.declared.action.Edge.{Edge}
use Rattle.control_actions.specs.declared.action.Edge.TheVariants as edges
use Rattle.control_actions.specs.declared.fact.Fact.{Fact}
use Rattle.control_actions.specs.declared.fact.Origin.{Origin}
use Rattle.ownership_rules.specs.Callees.{callee_in}
use Rattle.ownership_rules.specs.Callees as callees
use Rattle.ownership_rules.specs.Facts.{PlaceSet}
use Rattle.ownership_rules.specs.SmallActions.{IsSmallAction}
use Rattle.content_laws.specs.Aliases.{gives_alias}
use Rattle.content_laws.specs.CalledRows.{holds_receiver, interest_in, promises_at}
use Rattle.content_laws.specs.Flow.{flow}
use Rattle.content_laws.specs.Accept.{Accept}
use Rattle.content_laws.specs.Paths.{Reach, move_of, relation_of}
use Rattle.ownership_rules.specs.MovesAtCalls.{moved_at_call}
use Rattle.ownership_rules.specs.MovesAtReturns.{moved_at_return}
use Rattle.ownership_rules.specs.declared.moved.Moved.TheVariants as moves
use Rattle.program_model.specs.declared.kinds.BodyId.{BodyId}
use Rattle.ledger_state.specs.Contents.{HeapContents}
use Rattle.ledger_state.specs.Heaps.{is_reached, next_number, object_at, root, root_of, unfinished}
use Rattle.ledger_state.specs.declared.entry.Entry.{Entry}
use Rattle.ledger_state.specs.declared.entry.Owner.{Owner}
use Rattle.ledger_state.specs.declared.entry.Owner.TheVariants as owners
use Rattle.ledger_state.specs.declared.object.Link.{Link}
use Rattle.ledger_state.specs.declared.object.Object.{Object}
use Rattle.ledger_state.specs.Values.{number_of}
use Rattle.ledger_state.specs.declared.value.Value.{Value}
use Rattle.ledger_state.specs.declared.value.Value.TheVariants as values
use Rattle.ledger_obligations.specs.declared.note.Note.{Note}
use Rattle.ledger_obligations.specs.Obligations.{all_notes, emptied, has_note, is_frame, is_held_by, is_library_owner, is_unmet, may_move, note, noted_object}
use Rattle.ledger_obligations.specs.Obligations as obligations
use Rattle.ledger_steps.specs.LedgerCallsCalls.{alias_position, alias_target, is_alias, object_by, operand_of, receiver_note, reset_position}
use Rattle.content_laws.specs.Configuration.{Frame, held_by}
use Rattle.content_laws.specs.Choosing.{body_id, frame_steps}
use Rattle.content_laws.specs.LedgerFramesFrames.{frame_after}
use Rattle.ledger_steps.specs.Entries.{owner_entries}
use Rattle.ledger_steps.specs.Effects.{left}
use Rattle.ledger_steps.specs.Ends.{answered, call_end_entries, call_ended, exception_class, frame_gone, result_moved, result_value, returned, returned_called, returned_heap, returned_roots, thrown_in}
use Rattle.content_laws.specs.Heaps.{GoesOn, HasEarlierLinks, KeepsLinks}
use Rattle.content_laws.specs.Leading.{LinksOne}
use Rattle.content_laws.proofs.LibraryCallLaws.{changed_object_at-object, evolving_heaps-links, notes_add_names-object, roots_go_on-number, roots_go_on-root, roots_go_on-value, roots_of_links-itself, roots_over_a_link-linked, roots_over_a_link-value}
use Rattle.content_laws.proofs.RootLaws.{has_object}
use Rattle.content_laws.proofs.ObjectLaws.{goes_on_further}
use Rattle.content_laws.specs.ProgramCalls.{IsLinkedTo, IsOlderAtResult, IsReturned, is_new}
use Rattle.content_laws.proofs.EndLinks.{end_keeps, end_links, end_links_one, gone_evolves, gone_links}
use Rattle.content_laws.proofs.Returned.{IsFrom, end_back, end_count, end_lines, finished_by, gone_back, gone_count, gone_unowned, result_back, result_takes}
use Rattle.content_laws.proofs.HeapFrameEnds.{contents_end_met, nothing_unmet_goes}
use Rattle.soundness_laws.specs.Supports.{Supports}
use Rattle.content_laws.specs.Chains.{HaveEnds, IsLast}
use Rattle.content_laws.specs.Agreement.{Agrees, Awaits, HasMadeClasses, IsAwaited, IsMadeAfter, IsMadeByNew, IsTracked, Stands, Tracks, TracksAs, is_answering}
use Rattle.content_laws.specs.Anew.{is_target}
use Rattle.content_laws.specs.HeapAnew.{is_anew_at_end}
use Rattle.content_laws.specs.Sight.{ActsInSight, AllActInSight}
use Rattle.content_laws.specs.Nexts.{IsBackStep}
use Rattle.content_laws.specs.Ranges.{LocalsInRange}
use Rattle.content_laws.specs.Holders.{HoldersAreUnlinked}
use Rattle.content_laws.specs.Renewing.{HasInHand, IsLentFrom, is_renewed, is_reread}
use Rattle.content_laws.specs.PlainForms.{HasPlainForms, IsPlainAction}
use Rattle.content_laws.specs.FieldContents as fields
use Rattle.content_laws.specs.FieldContents.{AreUnfinished, FieldsOwn, IsBeingMade, LinksLead, OwningFieldsOwn, TopRunsAlone}
use Rattle.content_laws.specs.Covering.{IsCountedOn}
use Rattle.content_laws.specs.Frames.{HaveTargets}
use Rattle.content_laws.specs.PlaceFacts.{AreWaiting, IsCovered, IsHeavyObject, RunsOn, gives_none, is_given, may_owe, renews_none}
use Rattle.content_laws.specs.Outcomes.{IsFault}
use Rattle.content_laws.proofs.FactEnds.{end_row}
use Rattle.content_laws.proofs.OwedFacts.{owed}
use Rattle.content_laws.proofs.CallNames.{IsReceiver, noted_receiver, object_with_root}
use Rattle.content_laws.proofs.Births.{heavy_by_unmet}
use Rattle.content_laws.proofs.Goes.{not_the_librarys_owes}
use Rattle.content_laws.proofs.KnownNames.{AreKept, known_after_call}
use Rattle.soundness_laws.proofs.KeptPromises.{GivesRoot, ReturnsAlias, ShowsOperands}
use Rattle.content_laws.specs.Steps.{RootsStay}
use Rattle.content_laws.proofs.Carried.{still_awaited, still_bounded}
use Rattle.content_laws.proofs.Emptied.{plain_note}
use Rattle.content_laws.proofs.EndLaws.{is_held}
use Rattle.content_laws.proofs.EndOwners.{end_keeps_library, same_new}
use Rattle.content_laws.proofs.EndResets.{plain_alias_position}
use Rattle.content_laws.proofs.EndTargets.{IsTurnedUp, as_turned, reset_of, target_heavy}
use Rattle.content_laws.proofs.LentHolders.{holds_lent}
use Rattle.content_laws.proofs.RenewedOperands.{HoldsLent}
use Rattle.content_laws.proofs.Renewed.{says_nothing, without_reset}
use Rattle.content_laws.proofs.ResetHeaps.{IsResetOf, reset_back, reset_root, reset_stays, reset_was}
use Rattle.content_laws.proofs.ResultOwners.{returned_owner}
use Rattle.content_laws.proofs.WaitingTargets.{OwnsTarget, covered_tracks, its_owner, owned_or_lent, read_alike}
use Rattle.content_laws.proofs.FrameFollowing.{breaks_nothing}
use Rattle.content_laws.proofs.Chains.{IsLastOwned, IsSame, ends_on, object_there}
use Rattle.content_laws.proofs.Landing.{landed}
use Rattle.soundness_laws.proofs.MadeClasses.{classes_on}
use Rattle.content_laws.proofs.Ready.{plain_step, ready, step_there}
use Rattle.content_laws.proofs.Results.{IsGivenBack, moved_is_result}
use Rattle.content_laws.proofs.Stacks.{KeepsClasses, below_top, called_on, tracked_bounded}
use Rattle.content_laws.proofs.TargetTracks.{target_or_not, tracks_target}
use Rattle.content_laws.proofs.Tracking.{same_body, tracks_call}
use Rattle.content_laws.proofs.Unmet.{owner_of, may_go, unmet_before, way_of_call}
use Rattle.soundness_laws.proofs.AnsweredTargets.{target_answered, target_owes, target_there}
use Rattle.soundness_laws.proofs.LibrarySteps.{same_alias}
use Rattle.soundness_laws.proofs.Supporting.{not_true, object_of_number}
use Rattle.soundness_laws.proofs.Answered.{IsAnswered, finished_tracks, returned_tracks}
use Rattle.soundness_laws.proofs.EndedNames.{name_called}
use Rattle.soundness_laws.proofs.EndedObjects.{IsKept, answers_library, finished_as, gone_owner, kept_object, last_as, none_present, not_next, owned_by_frame, owning_same, result_same, target_renews}

module _ (p : Program) (ac : Accept p) (forms : HasPlainForms p) (names : HasSmallInterests p) (fr caller : Frame) (frs : List Frame) (h : HeapContents) (es : List Entry)
    (agrees : Agrees p (fr ∷ caller ∷ frs) h es) (i : ℕ) (s : Step) (here : slice_get (frame_steps p fr) i ≡ Some s) (q : Completion) (is : s.action ≡ actions.End q)
    (j : ℕ) (t : Step) (there : slice_get (frame_steps p caller) j ≡ Some t) (named : MethodId) (answer : IsAnswered p h fr caller q t named) (sup : Supports p h fr) (making : IsBeingMade p h fr caller)
    (shows : ShowsOperands p h fr caller (length frs + 1)) (led : LinksLead p h) (was_old : ℕ → Bool) (covered : IsCovered p h gives_none renews_none was_old (caller ∷ frs) fr) (dispatched : fields.IsDispatched p h fr caller)
    (waiting : AreWaiting p h was_old (caller ∷ frs)) (owning : OwningFieldsOwn p h) (sight : ActsInSight p h caller) (sights : AllActInSight p h frs) (mine' : LocalsInRange h fr.locals) (ranges : LocalsInRange h caller.locals)
    (back : IsBackStep p (frame_steps p caller) (exception_class p h (thrown_in fr.locals q)) named t) (alone : TopRunsAlone p h (fr ∷ caller ∷ frs)) (unready : AreUnfinished p h (caller ∷ frs))
    (lower : All (λ (f : Frame). LocalsInRange h f.locals) frs) (held : FieldsOwn p h) (holders : HoldersAreUnlinked (is_heavy_class p) h) (targets : HaveTargets p (caller ∷ frs))
    (apart' : (o : ℕ) (x : Object) → object_at h o ≡ Some x → IsHeavyObject p x → x.owner ≡ owners.Frame (length frs + 1) → is_renewed p h caller o ≡ false → IsCountedOn p h was_old (caller ∷ frs) fr o x) where
  st : Stands p fr
  st = agrees.standing.0

  below : Stands p caller
  below = agrees.standing.1.0

  abbrev e : Option ClassId
  e = exception_class p h (thrown_in fr.locals q)

  abbrev runs : Option Method
  runs = method_at p fr.method

  abbrev v : Value
  v = result_value fr.locals runs q

  abbrev at : ℕ
  at = length frs + 1

  abbrev after : Frame
  after = frame_after p h caller t (answered fr.locals.this t.action v e)

  -- the heap when the result has moved, when the frame has gone, and when the call has ended
  abbrev moved : HeapContents
  moved = result_moved p at runs v e h

  abbrev gone : HeapContents
  gone = frame_gone p at fr.locals.this runs v e h

  abbrev heap : HeapContents
  heap = returned_heap p at fr.locals.this caller.locals t.action runs (method_at p named) v e h

  -- the call without its reset
  abbrev plain : Option Method
  plain = without_reset (method_at p named)

  says_none : reset_position plain ≡ None
  says_none = says_nothing (method_at p named)

  -- the heap that the call would leave without it
  abbrev kept_heap : HeapContents
  kept_heap = returned_heap p at fr.locals.this caller.locals t.action runs plain v e h

  abbrev called : HeapContents
  called = returned_called p caller.locals t.action (method_at p named) gone

  abbrev roots : List ℕ
  roots = returned_roots p caller.locals t.action (method_at p named) gone

  reset_is : IsResetOf p called roots kept_heap heap
  reset_is = reset_of p ac forms h agrees.links fr caller frs below sight dispatched making e v t named back agrees.ends answer.later ranges owning

  was_kept : (n : ℕ) (y : Object) → object_at heap n ≡ Some y → (z : Object) × (object_at kept_heap n ≡ Some z) × (y.class ≡ z.class) × (y.link ≡ z.link) × (y.finished ≡ z.finished) × (y.owner ≡ z.owner)
  was_kept = reset_was p called roots kept_heap heap reset_is

  same_roots : (u : Value) → root_of heap u ≡ root_of kept_heap u
  same_roots = reset_root p called roots kept_heap heap reset_is

  form : IsPlainAction p t.action
  form = plain_step p ac forms caller below j t there

  -- ---- the frame owes nothing when its result has moved

  same_method : method_in p (Some st.body) ≡ runs
  same_method = ap (method_at p) st.method

  gives_back : (n : ℕ) (x : Object) (origin : Tracks p h fr n x) → moved_at_return p st.number origin.origin (actions.End q) origin.fact ≡ moves.Moves → IsGivenBack p h fr.locals runs q n x
  gives_back n x tr moves' = subst (λ (m : Option Method). IsGivenBack p h fr.locals m q n x) (ap (method_in p) st.at ∙ same_method)
      (moved_is_result p h fr.method fr.locals st.number tr.origin q tr.fact n x
      (subst (IsSmallAction p) is ((ac.fits st.number).steps i (move_of s) st.control (step_there p fr st i s here))) tr.follows moves')

  none_owed : (n : ℕ) (x y : Object) → object_at h n ≡ Some x → is_unmet x ≡ true → x.owner ≡ owners.Frame (at + 1) → object_at moved n ≡ Some y → y.owner ≡ owners.Frame (at + 1) → ⊥
  none_owed n x y before unmet owner now later =
      let tr : Tracks p h fr n x = top_tracks (agrees.tracked n x (at + 1) before unmet owner) in
      let reached = subst (λ (b : BodyId). Reach p b (relation_of p b) tr.origin fr.control tr.fact) (same_body tr.body st.number (body_id p fr.method) tr.id st.id) tr.reached in
      breaks_nothing p ac st.number tr.origin i (move_of s) tr.fact reached (step_there p fr st i s here)
      (subst (λ (a : Action). IsFault (flow p st.number tr.origin a s.edge tr.fact)) (sym is)
      (end_row p st.number tr.origin q s.edge tr.fact tr.follows.own (owed x tr.origin tr.fact unmet tr.follows.need tr.follows.called) (λ moves'. taken (gives_back n x tr moves'))))
    where
      top_tracks : IsTracked p h (fr ∷ caller ∷ frs) n x (at + 1) → Tracks p h fr n x
      top_tracks w = rw (eq-eqb (length (caller ∷ frs) + 1) (at + 1) (omega arith)) at w

      taken : IsGivenBack p h fr.locals runs q n x → ⊥
      taken back =
          let may : may_move p back.result.type x ≡ true = may_go p back.result.type x (at + 1) unmet owner back.result.lies in
          let given = result_takes p at runs v h back.result.type n x y (owning_same runs back.result.owning) (sym (same_alias runs) ∙ none_present (alias_in runs) back.result.own) (result_same runs back.result.type back.result.result) back.root before may
          (subst (λ (c : Option ClassId). object_at (result_moved p at runs v c h) n ≡ Some y) back.normal now) in
          not_next at (sym given ∙ later)

  none : (n : ℕ) (y : Object) → object_at moved n ≡ Some y → is_unmet y ≡ true → is_frame y.owner (at + 1) ≡ true → ⊥
  none n y now unmet frame = go (result_back p at runs v h e n y now)
    where
      later : y.owner ≡ owners.Frame (at + 1)
      later = owned_by_frame y.owner (at + 1) frame

      go : IsOlderAtResult p at runs v e h n y → ⊥
      go old = elim old.owner [
        | inl same ↦ none_owed n old.before y old.at (unmet_before old.before y old.goes_on unmet) (sym same ∙ later) now later
        | inr given ↦ not_next at (sym given.owner ∙ later)
      ]

  -- and a constructor that ends by an exception owns nothing in its fields
  free : (n w : ℕ) (c : ClassId) (y : Object) → e ≡ Some c → constructs runs ≡ true → number_of fr.locals.this ≡ Some w → object_at moved n ≡ Some y → is_unmet y ≡ true → is_held_by y.owner w ≡ true → ⊥
  free n w c y thrown new number now unmet held =
      sup.throws i s q c n w y here is thrown new number (subst (λ (z : Option ClassId). object_at (result_moved p at runs v z h) n ≡ Some y) thrown now) unmet held

  -- ---- where an object comes from

  from : (n : ℕ) (y : Object) → object_at kept_heap n ≡ Some y → IsFrom p at fr.locals.this caller.locals t.action plain gone says_none e n y
  from n y now = end_back p at fr.locals.this caller.locals t.action plain gone says_none e n y now

  -- an object of the heap when the frame has gone was there before
  was_there : (n : ℕ) (x : Object) → object_at gone n ≡ Some x → (z : Object) × (object_at h n ≡ Some z) × GoesOn z x
  was_there n x now =
      let y = gone_back p at fr.locals.this runs v e h n x now in
      let old = result_back p at runs v h e n y.0 y.1 in
      (old.before, old.at, goes_on_further old.before y.0 x old.goes_on y.2)

  -- ---- links

  gone_linked : HasEarlierLinks gone
  gone_linked = gone_links p at fr.locals.this runs v e h agrees.links

  -- the object of a `new` that ends is not finished yet, so it is linked to none
  being_made : (n : ℕ) (x : Object) → is_new t.action ≡ true → number_of fr.locals.this ≡ Some n → object_at h n ≡ Some x → x.finished ≡ false
  being_made n x new number before = making j t n x there (same_new t.action new) (object_of_number fr.locals.this n number) before

  made_free : (n : ℕ) (x : Object) → is_new t.action ≡ true → number_of fr.locals.this ≡ Some n → object_at h n ≡ Some x → x.link ≡ None
  made_free n x new number before = go x.link refl
    where
      go : (l : Option Link) → x.link ≡ l → x.link ≡ None
      go None none = none
      go (Some l) some = absurd (true≢false (sym (agrees.links n x l before some).finished ∙ being_made n x new number before))

  -- nobody owns it
  made_unowned : (n : ℕ) (x : Object) → is_new t.action ≡ true → number_of fr.locals.this ≡ Some n → object_at gone n ≡ Some x → (x.finished ≡ false) × (x.owner ≡ owners.Unowned)
  made_unowned n x new number now =
      let z = was_there n x now in
      let unmade = being_made n z.0 new number z.1 in
      gone_unowned p at fr.locals.this runs v e h n z.0 x z.1 unmade (agrees.ends.unfinished n z.0 z.1 unmade) now

  -- the argument of which the object of a `new` is to be an alias
  abbrev aliased : Option ℕ
  aliased = alias_target (operand_of caller.locals t.action) plain

  aliased_is : aliased ≡ alias_target (operand_of caller.locals t.action) (method_at p named)
  aliased_is = ap (object_by (operand_of caller.locals t.action)) (plain_alias_position (method_at p named))

  same_named : (m : MethodId) → called_method t.action ≡ Some m → m ≡ named
  same_named m called = let same : Some m ≡ Some named = sym called ∙ answer.calls in cc

  -- it was there before
  made_after : (n w : ℕ) → is_new t.action ≡ true → number_of fr.locals.this ≡ Some n → aliased ≡ Some w → (0 < w) × (w < n)
  made_after n w new number to = go t.action refl new answer.later (sym aliased_is ∙ to)
    where
      go : (a : Action) → t.action ≡ a → is_new a ≡ true → IsMadeAfter p caller.locals a fr.locals.this → alias_target (operand_of caller.locals a) (method_at p named) ≡ Some w → (0 < w) × (w < n)
      go actions.Skip it new' later to' = absurd (true≢false (sym new'))
      go (actions.New m d c) it new' later to' =
          later n w number (ap (λ (k : MethodId). alias_target (operand_of caller.locals (actions.New m d c)) (method_at p k)) (same_named m (ap called_method it)) ∙ to')
      go a it new' later to' = absurd (true≢false (sym new'))

  kept_links : HasEarlierLinks kept_heap
  kept_links = end_links p at fr.locals.this caller.locals t.action plain gone says_none gone_linked made_unowned made_after e

  links : HasEarlierLinks heap
  links n y l now some =
      let z = was_kept n y now in
      let it = kept_links n z.0 l z.1 (sym z.3 ∙ some) in
      record { there = it.there; before = it.before; owner = z.5 ∙ it.owner; finished = z.4 ∙ it.finished }

  -- ---- no object is linked, or that of the `new`

  abbrev LinksNone : Type 0
  LinksNone = e ≡ None → is_new t.action ≡ true → aliased ≡ None

  abbrev link_to : ℕ → Link
  link_to k = record { to = k; by_library = false }

  abbrev IsLinking : Type 0
  IsLinking = (w : ℕ) × (k : ℕ) × (is_new t.action ≡ true) × (number_of fr.locals.this ≡ Some w) × (aliased ≡ Some k) × LinksOne w (link_to k) gone kept_heap

  self_is : is_new t.action ≡ true → (w : ℕ) × (number_of fr.locals.this ≡ Some w) × (0 < w) × (w < next_number h)
  self_is new = go t.action refl new answer.makes
    where
      go : (a : Action) → t.action ≡ a → is_new a ≡ true → IsMadeByNew p h a fr.locals.this → (w : ℕ) × (number_of fr.locals.this ≡ Some w) × (0 < w) × (w < next_number h)
      go actions.Skip it new' made = absurd (true≢false (sym new'))
      go (actions.New m d c) it new' made = (made.0, ap number_of made.1, made.4, made.2)
      go a it new' made = absurd (true≢false (sym new'))

  is_aliased : (k : ℕ) → aliased ≡ Some k → is_alias plain ≡ true
  is_aliased k to = go (alias_position plain) refl
    where
      go : (a : Option ℕ) → alias_position plain ≡ a → is_some a ≡ true
      go None none' = absurd (let never : None ≡ Some k = sym (ap (object_by (operand_of caller.locals t.action)) none') ∙ to in cc)
      go (Some a) some = refl

  linked : e ≡ None → is_new t.action ≡ true → (k : ℕ) → aliased ≡ Some k → IsLinking
  linked normal new k to =
      let w = self_is new in
      let class : ClassId = record { 0 = 0 } in
      let x = object_there h w.0 (unfinished class) w.2 w.3 in
      let y = gone_evolves p at fr.locals.this runs v e h w.0 x.0 x.1 in
      let free' = made_unowned w.0 y.0 new w.1 y.1 in
      let before = made_after w.0 k new w.1 to in (
        w.0,
        k,
        new,
        w.1,
        to,
        subst (λ (c : Option ClassId). LinksOne w.0 (link_to k) gone (call_ended p at fr.locals.this caller.locals t.action plain c gone)) (sym normal)
            (end_links_one p at fr.locals.this caller.locals t.action plain gone says_none gone_linked new w.0 w.1 k y.0 (is_aliased k to) to y.1 free'.0 before.0 before.1),
      )

  linking : LinksNone ⊎ IsLinking
  linking = by e refl (is_new t.action) refl aliased refl
    where
      by : (x : Option ClassId) → e ≡ x → (b : Bool) → is_new t.action ≡ b → (k : Option ℕ) → aliased ≡ k → LinksNone ⊎ IsLinking
      by (Some c) thrown b new k to = inl (λ normal. absurd (let never : None ≡ Some c = sym normal ∙ thrown in cc))
      by None normal false old k to = inl (λ none' new. absurd (true≢false (sym new ∙ old)))
      by None normal true new None none' = inl (λ it new'. none')
      by None normal true new (Some k) to = inr (linked normal new k to)

  gone_keeps : KeepsLinks h gone
  gone_keeps = evolving_heaps-links h gone (gone_evolves p at fr.locals.this runs v e h)

  keeps_links : LinksNone → KeepsLinks h kept_heap
  keeps_links none' n x before =
      let y = gone_keeps n x before in
      let z = end_keeps p at fr.locals.this caller.locals t.action plain gone says_none e none' n y.0 y.1 in
      (z.0, z.1, z.2 ∙ y.2)

  -- what has a finished object for its root has it still
  stays : (n : ℕ) (x : Object) → object_at h n ≡ Some x → x.finished ≡ true → RootsStay h heap n
  stays n x before done u root' = same_roots u ∙ elim linking [
    | inl none' ↦ roots_go_on-value h kept_heap u n x agrees.links (keeps_links none') root' before
    | inr one ↦ (let y = gone_keeps n x before in
        (roots_over_a_link-value gone kept_heap one.0 (link_to one.1) gone_linked one.5 kept_links u n y.0 (roots_go_on-value h gone u n x agrees.links gone_keeps root' before) y.1).1
        (λ same. true≢false (sym done ∙ being_made n x one.2 (one.3 ∙ ap Some (sym same)) before)))
  ]

  finished_by_unmet : (x : Object) → is_unmet x ≡ true → x.finished ≡ true
  finished_by_unmet x unmet = (and_parts x.finished (not (set.is_subset x.must x.called)) unmet).0

  class_before : (n : ℕ) (y : Object) → IsFrom p at fr.locals.this caller.locals t.action plain gone says_none e n y → (x : Object) × (object_at h n ≡ Some x) × (y.class ≡ x.class)
  class_before n y (inl made) = let z = was_there n made.0 made.1 in (z.0, z.1, made.2.class ∙ z.2.class)
  class_before n y (inr (inl alias)) = let z = was_there n alias.0 alias.1 in (z.0, z.1, alias.2.class ∙ z.2.class)
  class_before n y (inr (inr noted)) = let z = was_there n noted.0 noted.1 in (z.0, z.1, sym (ap (λ (u : Object). u.class) noted.2) ∙ z.2.class)

  class_was : (n : ℕ) (y : Object) → object_at heap n ≡ Some y → (x : Object) × (object_at h n ≡ Some x) × (y.class ≡ x.class)
  class_was n y now =
      let z = was_kept n y now in
      let x = class_before n z.0 (from n z.0 z.1) in
      (x.0, x.1, z.2 ∙ x.2)

  keeps : KeepsClasses h heap
  keeps = record {
    count = (let same = end_count p at fr.locals.this caller.locals t.action plain gone says_none e in
        let more = gone_count p at fr.locals.this runs v e h in let one = reset_is.count in omega (arith, same, more, one));
    class = λ n y now small. class_was n y now;
  }

  classes : HasMadeClasses p heap
  classes = classes_on p h heap agrees.classes (λ n y now. inl (class_was n y now))

  abbrev all : ℕ → Object → Object
  all = noted_object (all_notes p gone (receiver_note caller.locals t.action plain))

  abbrev IsOld : ℕ → Object → Type 0
  IsOld n y = IsKept p at runs v e h moved gone all n y

  kept : (n : ℕ) (y : Object) → is_unmet y ≡ true → (x : Object) → object_at gone n ≡ Some x → all n x ≡ y → IsOld n y
  kept n y unmet x now noted =
      let goes : GoesOn x y = subst (GoesOn x) noted (notes_add_names-object (all_notes p gone (receiver_note caller.locals t.action plain)) n x) in
      let unmet' = unmet_before x y goes unmet in
      let there' = nothing_unmet_goes p at fr.locals.this runs v e h none free n x now unmet' in
      kept_object p at runs v e h moved gone all n x y there' now goes unmet' noted (ap (λ (u : Object). u.owner) noted) (result_back p at runs v h e n x there')

  -- ---- the alias that the call gives

  abbrev given : Value
  given = answered fr.locals.this t.action v e

  gives_normally : (held : PlaceSet) → gives_alias p t.action t.edge held ≡ true → e ≡ None
  gives_normally held gives = go e refl
    where
      by_edge : (k : ClassId) → t.edge ≡ edges.Throws k → ⊥
      by_edge k edge = true≢false (sym gives ∙ ap (λ (d : Edge). gives_alias p t.action d held) edge)

      go : (x : Option ClassId) → e ≡ x → e ≡ None
      go None normal = normal
      go (Some c) thrown = let k = answer.thrown c thrown in absurd (by_edge k.0 k.1)

  given_root : (n : ℕ) (x : Object) → object_at h n ≡ Some x → x.finished ≡ true → e ≡ None → GivesRoot p h caller.locals t.action given n → root_of heap given ≡ Some n
  given_root n x before done normal gives = go t.action refl gives
    where
      go : (a : Action) → t.action ≡ a → GivesRoot p h caller.locals a given n → root_of heap given ≡ Some n
      go actions.Skip it root' = stays n x before done given root'
      go (actions.New m d c) it gives' =
          let operand = object_with_root h (operand_of caller.locals (actions.New m d c) gives'.0) n gives'.2 in
          let to : aliased ≡ Some operand.0 = (
          aliased_is ∙ ap (λ (a : Action). alias_target (operand_of caller.locals a) (method_at p named)) it
          ∙ ap (λ (k : MethodId). alias_target (operand_of caller.locals (actions.New m d c)) (method_at p k)) (sym (same_named m (ap called_method it)))
          ∙ ap (object_by (operand_of caller.locals (actions.New m d c))) gives'.1 ∙ ap number_of operand.1) in
          let is_it : given ≡ fr.locals.this = ap (λ (a : Action). answered fr.locals.this a v e) it ∙ ap (answered fr.locals.this (actions.New m d c) v) normal in
          let there' = has_object h operand.0 n x operand.2 before in
          elim linking [
            | inl none' ↦ absurd (let never : None ≡ Some operand.0 = sym (none' normal (ap is_new it)) ∙ to in cc)
            | inr one ↦ (
                let same : one.1 ≡ operand.0 = (let both : Some one.1 ≡ Some operand.0 = sym one.4 ∙ to in (let it' : one.1 ≡ operand.0 = cc in it')) in
                same_roots given ∙ ap (root_of kept_heap) (is_it ∙ object_of_number fr.locals.this one.0 one.3)
                ∙ ap Some (roots_over_a_link-linked gone kept_heap one.0 (link_to one.1) gone_linked one.5 kept_links
                ∙ ap (root gone) same ∙ roots_go_on-number h gone operand.0 there'.0 agrees.links gone_keeps there'.1 ∙ operand.2))
          ]
      go a it root' = stays n x before done given root'

  -- ---- the object whose obligation the call creates anew

  holds : HoldsLent p h waiting.0 frs caller below
  holds = holds_lent p ac forms h agrees.links held caller ranges below waiting.0 frs targets.0 agrees.ends unready (is_given p h caller) (is_reread p h caller) waiting.3 holders

  -- the frame that goes on owns it
  renewed_here : (n : ℕ) (x y : Object) → object_at h n ≡ Some x → x.finished ≡ true → is_heavy_class p x.class ≡ true → may_owe x ≡ true → x.owner ≡ owners.Frame at → is_renewed p h caller n ≡ true → y.class ≡ x.class
      → set.is_subset y.must (must_of p y.class) ≡ true → is_unmet y ≡ true → Tracks p heap after n y
  renewed_here n x y before done heavy owes mine renewed class bounded unmet =
      tracks_target p ac forms h heap caller below j t there (way_of_call t answer.row) given n x y (stays n x before done) class bounded unmet (is_renewed p h caller n) tr.0 answer.row
      (ap (λ (f : Fact). is_target p t.action f.places) tr.1 ∙ it.target j t there)
      (λ gives. given_root n x before done (gives_normally tr.0.fact.places gives) (shown gives))
    where
      it : OwnsTarget p h waiting.0 frs caller n x
      it = its_owner p ac h caller waiting.0 frs below j t there answer.row waiting.3 holds agrees.ends targets.0 sight.makes n x before heavy (inl owes) (inl done) renewed mine

      tr : (w : TracksAs p h (is_renewed p h caller n) caller n x) × (w.fact ≡ it.covers.fact) × (w.origin ≡ it.covers.origin)
      tr = covered_tracks p ac h caller waiting.0 frs below (is_given p h caller n x.class) (is_reread p h caller n x.owner) n x it.covers it.key it.own it.kept it.temp it.there (is_renewed p h caller n) (read_alike p h caller n x.owner renewed)

      still : moved_at_call p tr.0.origin t.action t.edge tr.0.fact ≡ moves.Moves → ⊥
      still moved = it.stays j t there (ap (λ (f : Fact). moved_at_call p it.covers.origin t.action t.edge f) (sym tr.1) ∙ ap (λ (g : Origin). moved_at_call p g t.action t.edge tr.0.fact) (sym tr.2) ∙ moved)

      shown : ReturnsAlias p h fr caller t.action t.edge tr.0.fact.places q n
      shown = (shows below i j s t q n x (is_renewed p h caller n) tr.0 here is there answer.row answer.normal answer.thrown before done heavy mine still).1

  -- ---- the frame that goes on

  module _ (n k : ℕ) (y : Object) (old : IsOld n y) (unmet : is_unmet y ≡ true) where
    were_unmet : is_unmet old.before ≡ true
    were_unmet = unmet_before old.before y old.goes_on unmet

    done : old.before.finished ≡ true
    done = finished_by_unmet old.before were_unmet

    heavy_before : set.is_subset old.before.must (must_of p old.before.class) ≡ true → is_heavy_class p old.before.class ≡ true
    heavy_before bound = heavy_by_unmet p old.before.class old.before were_unmet bound

    -- where the call does not create its obligation anew
    goes_plainly : old.before.owner ≡ owners.Frame at → is_renewed p h caller n ≡ false → (tr : Tracks p h caller n old.before) → (moved_at_call p tr.origin t.action t.edge tr.fact ≡ moves.Moves → ⊥) → Tracks p heap after n y
    goes_plainly mine out tr still =
        tracks_call p ac forms h heap caller below j t there (way_of_call t answer.row) given n old.before y (stays n old.before old.there done) old.goes_on unmet tr answer.row apart
        (known_after_call p below.number t.action t.edge tr.fact y.called answer.row
        (within_trans tr.fact.called old.before.called y.called tr.follows.called old.goes_on.called) noted
        (shown.0 y old.goes_on out refl))
        (λ gives. given_root n old.before old.there done (gives_normally tr.fact.places gives) (shown.1 gives))
        still
      where
        small_call : IsSmallAction p t.action
        small_call = (ready p ac forms caller below j t there (way_of_call t answer.row)).small

        apart : is_target p t.action tr.fact.places ≡ false
        apart = elim (target_or_not p t.action tr.fact.places) [
          | inl target ↦ absurd (true≢false (sym (target_renews p h caller j t n tr.fact.places there small_call tr.follows.places target) ∙ out))
          | inr other ↦ other
        ]

        heavy : is_heavy_class p old.before.class ≡ true
        heavy = heavy_before tr.follows.bounded

        shown : ((z : Object) → GoesOn old.before z → is_renewed p h caller n ≡ false → false ≡ false → AreKept p below.number t.action tr.fact.places z.called (promises_at p t.action t.edge)) × ReturnsAlias p h fr caller t.action t.edge tr.fact.places q n
        shown = shows below i j s t q n old.before false tr here is there answer.row answer.normal answer.thrown old.there done heavy mine still

        noted : (name : NameId) → holds_receiver t.action tr.fact.places ≡ true → interest_in (callees.callee p t.action) ≡ Some name → set.contains y.called name.0 ≡ true
        noted name receives interest =
            name_called p ac forms names fr caller frs st h agrees.links agrees.classes i s here q is j t there named answer led was_old covered dispatched apart' n y old unmet mine heavy name
            (plain_receiver (subst (λ (m : Option Method). IsReceiver h caller.locals t.action m n name) (ap (callee_in p) answer.calls)
            (noted_receiver p ac h caller.method caller.locals t.action n tr.fact.places name form small_call tr.follows.places receives interest))) interest out
          where
            plain_receiver : IsReceiver h caller.locals t.action (method_at p named) n name → IsReceiver h caller.locals t.action plain n name
            plain_receiver r = record { object = r.object; value = r.value; root = r.root; noted = ap (λ (ns : List Note). has_note ns (note false r.object name)) (plain_note caller.locals t.action (method_at p named)) ∙ r.noted }

    goes_on : old.before.owner ≡ owners.Frame at → Awaits p h caller n old.before → Tracks p heap after n y
    goes_on mine w = by (is_renewed p h caller n) refl w.tracks (w.stays j t there)
      where
        by : (b : Bool) → is_renewed p h caller n ≡ b → (tr : TracksAs p h b caller n old.before) → (moved_at_call p tr.origin t.action t.edge tr.fact ≡ moves.Moves → ⊥) → Tracks p heap after n y
        by false out tr still = goes_plainly mine out tr still
        by true renewed tr still =
            renewed_here n old.before y old.there done (heavy_before tr.follows.bounded) (not_the_librarys_owes old.before (ap is_library_owner mine)) mine renewed old.goes_on.class (still_bounded p old.before y old.goes_on tr.follows.bounded) unmet

    waited : old.before.owner ≡ owners.Frame k → IsAwaited p h (caller ∷ frs) n old.before k → IsTracked p heap (after ∷ frs) n y k
    waited mine w = go (nat_eq (length frs + 1) k) refl w
      where
        go : (b : Bool) → nat_eq (length frs + 1) k ≡ b → MatchBool b (Awaits p h caller n old.before) (IsAwaited p h frs n old.before k) → MatchBool b (Tracks p heap after n y) (IsAwaited p heap frs n y k)
        go true here' w' = goes_on (mine ∙ ap owners.Frame (sym (eqb-true (length frs + 1) k here'))) w'
        go false other w' = still_awaited p h heap frs n old.before y k (stays n old.before old.there done) old.goes_on w'

    at_top : at ≡ k → Tracks p heap after n y → IsTracked p heap (after ∷ frs) n y k
    at_top same w = rw (eq-eqb (length frs + 1) k same) w

    old_tracked : y.owner ≡ owners.Frame k → IsTracked p heap (after ∷ frs) n y k
    old_tracked owner = elim old.owner [
      | inl same ↦ waited (sym same ∙ owner) (below_top p h fr (caller ∷ frs) n old.before k
          (λ (top : length (caller ∷ frs) + 1 ≡ k). none n old.between old.present old.unmet (frame_is old.between.owner (old.owned ∙ owner) top))
          (agrees.tracked n old.before k old.there (unmet_before old.before y old.goes_on unmet) (sym same ∙ owner)))
      | inr given ↦ at_top (let same : owners.Frame at ≡ owners.Frame k = sym given.owner ∙ owner in cc)
          (returned_tracks p ac forms h heap fr caller below j t there q named answer at n old.before y old.there old.goes_on unmet
          (bound old.before old.there (roots_go_on-root h v n old.before agrees.links given.root old.there) (unmet_before old.before y old.goes_on unmet) given.type given.may) given (stays n old.before old.there done))
    ]
      where
        bound : (x : Object) → object_at h n ≡ Some x → x.link ≡ None → is_unmet x ≡ true → (u : VType) → may_move p u x ≡ true → set.is_subset x.must (must_of p x.class) ≡ true
        bound x before free' was u may =
            elim (owner_of p u x may (agrees.answered n x before free' was)) [
              | inl frame ↦ tracked_bounded p h (fr ∷ caller ∷ frs) n x frame.0 (agrees.tracked n x frame.0 before was frame.1)
              | inr field ↦ sup.bounded n x field.0 field.1 before was field.2
            ]

        frame_is : (w : Owner) → w ≡ owners.Frame k → length (caller ∷ frs) + 1 ≡ k → is_frame w (at + 1) ≡ true
        frame_is w same top = rw same (eq-eqb k (at + 1) (omega (arith, top)))

  -- a frame owns no alias that a `new` makes
  alias_owner : (n : ℕ) (x y : Object) (to : Option ℕ) → is_new t.action ≡ true → number_of fr.locals.this ≡ Some n → object_at gone n ≡ Some x → IsLinkedTo p to x y
      → ((y.owner ≡ owners.Library) × (to ≡ None)) ⊎ ((y.owner ≡ owners.Unowned) × ((l : Link) × (y.link ≡ Some l)))
  alias_owner n x y None new self' there' linked' = inl (linked'.1, refl)
  alias_owner n x y (Some w) new self' there' linked' = inr (linked'.1 ∙ (made_unowned n x new self' there').1, (link_to w, linked'.2))

  -- ---- the object is as the call would leave it without its reset, or its obligation is created anew

  free_before : (n : ℕ) (z : Object) → object_at kept_heap n ≡ Some z → z.link ≡ None → (w : Object) × (object_at gone n ≡ Some w) × (w.link ≡ None)
  free_before n z at' free' = by (from n z at')
    where
      unlinked : (to : Option ℕ) (w : Object) → IsLinkedTo p to w z → w.link ≡ None
      unlinked None w it = sym it.2 ∙ free'
      unlinked (Some k) w it = absurd (let never : None ≡ Some (link_to k) = sym free' ∙ it.2 in cc)

      by : IsFrom p at fr.locals.this caller.locals t.action plain gone says_none e n z → (w : Object) × (object_at gone n ≡ Some w) × (w.link ≡ None)
      by (inl made) = (made.0, made.1, sym made.2.link ∙ free')
      by (inr (inl alias)) = (alias.0, alias.1, unlinked aliased alias.0 alias.2.linked)
      by (inr (inr noted)) = (noted.0, noted.1, ap (λ (u : Object). u.link) noted.2 ∙ free')

  -- the object is the target, or the target is within it
  abbrev IsTurned : ℕ → Type 0
  IsTurned n = IsTurnedUp p ac forms h agrees.links fr caller frs below sight dispatched making e v t named back agrees.ends answer.later ranges owning holders n

  abbrev IsSettled : ℕ → Object → Type 0
  IsSettled n y = (object_at kept_heap n ≡ Some y) ⊎ (IsTurned n × (y.must ≡ must_of p y.class))

  settled : (n : ℕ) (y : Object) → object_at heap n ≡ Some y → y.link ≡ None → IsSettled n y
  unfolding is_anew_at_end
  settled n y now free' = go (is_anew_at_end p caller.locals t.action (method_at p named) gone n) refl
    where
      z : (z : Object) × (object_at kept_heap n ≡ Some z) × (y.class ≡ z.class) × (y.link ≡ z.link) × (y.finished ≡ z.finished) × (y.owner ≡ z.owner)
      z = was_kept n y now

      itself : root called n ≡ n
      itself =
          let w = free_before n z.0 z.1 (sym z.3 ∙ free') in
          let notes : ℕ → Object → Object = noted_object (all_notes p gone (receiver_note caller.locals t.action (method_at p named))) in
          roots_of_links-itself called n (notes n w.0) (changed_object_at-object notes gone n ∙ ap (option_map (notes n)) w.1)
          ((notes_add_names-object (all_notes p gone (receiver_note caller.locals t.action (method_at p named))) n w.0).link ∙ w.2)

      all_must : is_reached called roots n ≡ true → y.must ≡ must_of p y.class
      all_must is' =
          let b = reset_back p called roots kept_heap heap reset_is n y now in
          let turn : obligations.reset_in p called roots n b.0 ≡ emptied p true b.0 = rw is' (ap (λ (c : Bool). emptied p c b.0) (ap (λ (k : ℕ). nat_eq k n) itself ∙ eq-eqb n n refl)) in
          let same : y ≡ emptied p true b.0 = sym b.2 ∙ turn in
          ap (λ (u : Object). u.must) same ∙ ap (must_of p) (sym (ap (λ (u : Object). u.class) same))

      go : (b : Bool) → is_anew_at_end p caller.locals t.action (method_at p named) gone n ≡ b → IsSettled n y
      go false out = inl (reset_stays p called roots kept_heap heap reset_is n y out now)
      go true anew = elim (as_turned p ac forms h agrees.links fr caller frs below sight dispatched making e v t named back agrees.ends answer.later ranges owning holders n y (values.Object n)
          (ap Some (roots_of_links-itself heap n y now free')) now true anew z.0 z.1) [
            | inl same ↦ inl (z.1 ∙ ap Some (sym same))
            | inr turned ↦ inr (turned.1, all_must anew)
          ]

  -- the frame owned its result
  result_owner : (n : ℕ) (x u : Object) → object_at h n ≡ Some x → is_heavy_class p x.class ≡ true → may_owe x ≡ true → IsReturned p at runs v e h n x u → x.owner ≡ owners.Frame (at + 1)
  result_owner n x u before heavy owes r =
      returned_owner p ac h fr was_old (caller ∷ frs) st mine' covered i s q here is at n x u before heavy owes r ∙ ap owners.Frame (let number : length (caller ∷ frs) + 1 ≡ at + 1 = omega arith in number)

  unmade : (w : ℕ) (x : Object) → fields.is_new t.action ≡ true → fr.locals.this ≡ values.Object w → object_at h w ≡ Some x → x.finished ≡ false
  unmade w x new this before = making j t w x there new this before

  -- an object whose obligation is created anew is that of a frame, which tracks it, or that of a field
  module _ (n : ℕ) (y : Object) (now : object_at heap n ≡ Some y) (unmet : is_unmet y ≡ true) (stays' : is_library_owner y.owner ≡ false)
      (turned : IsTurned n) (must : y.must ≡ must_of p y.class) where
    x : (x : Object) × (object_at h n ≡ Some x) × (y.class ≡ x.class)
    x = class_was n y now

    z : (z : Object) × (object_at kept_heap n ≡ Some z) × (y.class ≡ z.class) × (y.link ≡ z.link) × (y.finished ≡ z.finished) × (y.owner ≡ z.owner)
    z = was_kept n y now

    bounded : set.is_subset y.must (must_of p y.class) ≡ true
    bounded = ap (λ (u : Names). set.is_subset u (must_of p y.class)) must ∙ within_self (must_of p y.class)

    heavy : is_heavy_class p x.0.class ≡ true
    heavy = ap (is_heavy_class p) (sym x.2) ∙ heavy_by_unmet p y.class y unmet bounded

    finished : x.0.finished ≡ true
    finished = turned.3 x.0 x.1

    still_owes : may_owe x.0 ≡ true
    still_owes = not_the_librarys_owes x.0 (by (is_library_owner x.0.owner) refl)
      where
        by : (b : Bool) → is_library_owner x.0.owner ≡ b → is_library_owner x.0.owner ≡ false
        by false none' = none'
        by true library = absurd (true≢false (sym (ap is_library_owner z.5 ∙ end_keeps_library p at fr.locals.this caller.locals t.action runs plain v e h says_none unmade n x.0 z.0 x.1 z.1 finished library) ∙ stays'))

    abbrev IsSomeones : Type 0
    IsSomeones = ((k : ℕ) × (y.owner ≡ owners.Frame k) × IsTracked p heap (after ∷ frs) n y k) ⊎ ((w : ℕ) × (f : FieldId) × (y.owner ≡ owners.Field w f))

    -- it stays with a frame below, or the one that goes on, or with a field of an object on which one of them runs
    still_owned : is_frame x.0.owner (at + 1) ≡ false → (constructs runs ≡ true → (u : Object) → u.owner ≡ x.0.owner → is_held (number_of fr.locals.this) u ≡ true → ⊥) → y.owner ≡ x.0.owner
    still_owned apart other = z.5 ∙ by (from n z.0 z.1)
      where
        not_made : is_new t.action ≡ true → number_of fr.locals.this ≡ Some n → ⊥
        not_made new self = true≢false (sym finished ∙ being_made n x.0 new self x.1)

        no_result : (u : Object) → IsReturned p at runs v e h n x.0 u → ⊥
        no_result u r = true≢false (sym (ap (λ (o : Owner). is_frame o (at + 1)) (result_owner n x.0 u x.1 heavy still_owes r) ∙ eq-eqb (at + 1) (at + 1) refl) ∙ apart)

        by : IsFrom p at fr.locals.this caller.locals t.action plain gone says_none e n z.0 → z.0.owner ≡ x.0.owner
        by (inl made') = absurd (not_made made'.2.new made'.2.self)
        by (inr (inl alias)) = absurd (not_made alias.2.new alias.2.self)
        by (inr (inr noted)) = sym (ap (λ (u : Object). u.owner) noted.2) ∙ gone_keeps_owner p at fr.locals.this runs v e h n x.0 x.1 no_result apart other noted.0 noted.1

    still_frame : (k : ℕ) → k ≤ at → x.0.owner ≡ owners.Frame k → y.owner ≡ owners.Frame k
    still_frame k low mine = still_owned (not_true (is_frame x.0.owner (at + 1)) (λ frame. (let same = eqb-true k (at + 1) (sym (ap (λ (o : Owner). is_frame o (at + 1)) mine) ∙ frame) in omega (arith, same, low))))
        (λ new u owner held'. frame_holds_none (number_of fr.locals.this) k u (owner ∙ mine) held') ∙ mine

    still_field : (w : ℕ) (f : FieldId) → x.0.owner ≡ owners.Field w f → RunsOn w (caller ∷ frs) → y.owner ≡ owners.Field w f
    still_field w f mine on = still_owned (ap (λ (o : Owner). is_frame o (at + 1)) mine)
        (λ new u owner held'. runs_on_none w (caller ∷ frs) (alone n x.0 w f new (object_of_number fr.locals.this w (held_by_number (number_of fr.locals.this) w f u (owner ∙ mine) held')) x.1 heavy mine) on) ∙ mine

    target : (u : Object) × (object_at h turned.0 ≡ Some u)
    target = target_there h turned.0 n x.0 x.1 turned.2

    ready_target : (target.0.finished ≡ true) × (is_heavy_class p target.0.class ≡ true)
    ready_target = (
      turned.1.1 target.0 target.1,
      target_heavy p ac forms h agrees.links fr caller frs below sight dispatched making e v t named back agrees.ends answer.later ranges owning holders n turned.0 x.0 target.0 turned.1 turned.2 x.1 heavy target.1,
    )

    hand : HasInHand p h (IsLentFrom p h frs) at caller turned.0 target.0.owner
    hand = elim (owned_or_lent p ac h caller waiting.0 frs below j t there answer.row waiting.3 holds agrees.ends targets.0 sight.makes turned.0 target.0 target.1 ready_target.1
        (target_owes p h turned.0 n target.0 x.0 target.1 x.1 turned.2 still_owes) (inl ready_target.0) turned.1.0) [ inl it ↦ inl (it.key.owner it.kept it.own) | inr other ↦ inr other ]

    someones : IsSomeones
    someones = by (target_answered p ac forms h heap agrees.ends agrees.links held holders n x.0 y x.1 heavy finished (stays n x.0 x.1 finished) x.2 bounded caller frs agrees.standing.1.1 targets.1 lower agrees.stacked.1 waiting.0 waiting.4 unready sights
        turned.0 target.0 target.1 turned.2 hand)
      where
        below_caller : (k : ℕ) → k ≤ length frs → IsAwaited p heap frs n y k → IsTracked p heap (after ∷ frs) n y k
        below_caller k low w = go (nat_eq (length frs + 1) k) refl
          where
            go : (b : Bool) → nat_eq (length frs + 1) k ≡ b → MatchBool b (Tracks p heap after n y) (IsAwaited p heap frs n y k)
            go true here' = absurd (let same = eqb-true (length frs + 1) k here' in omega (arith, same, low))
            go false other = w

        by : ((turned.0 ≡ n) × (x.0.owner ≡ owners.Frame at)) ⊎ (((k : ℕ) × (x.0.owner ≡ owners.Frame k) × (k ≤ length frs) × IsAwaited p heap frs n y k) ⊎ ((w : ℕ) × (f : FieldId) × (x.0.owner ≡ owners.Field w f) × RunsOn w (caller ∷ frs)))
            → IsSomeones
        by (inl (same, mine)) =
            let renewed = subst (λ (m : ℕ). is_renewed p h caller m ≡ true) same turned.1.0 in
            inl (at, still_frame at (omega arith) mine, rw (eq-eqb (length frs + 1) at refl) (renewed_here n x.0 y x.1 finished heavy still_owes mine renewed x.2 bounded unmet))
        by (inr (inl (k, mine, low, awaits))) = inl (k, still_frame k (omega (arith, low)) mine, below_caller k low awaits)
        by (inr (inr (w, f, mine, on))) = inr (w, f, still_field w f mine on)

  -- a frame owns nothing that is linked
  owned_free : (n k : ℕ) (y : Object) → object_at heap n ≡ Some y → y.owner ≡ owners.Frame k → y.link ≡ None
  owned_free n k y now owner = go y.link refl
    where
      go : (l : Option Link) → y.link ≡ l → y.link ≡ None
      go None none' = none'
      go (Some l) some = absurd (let never : owners.Frame k ≡ owners.Unowned = sym owner ∙ (links n y l now some).owner in cc)

  tracked : (n : ℕ) (y : Object) (k : ℕ) → object_at heap n ≡ Some y → is_unmet y ≡ true → y.owner ≡ owners.Frame k → IsTracked p heap (after ∷ frs) n y k
  tracked n y k now unmet owner = elim (settled n y now (owned_free n k y now owner)) [
    | inl there' ↦ by there' (from n y there')
    | inr anew ↦ elim (someones n y now unmet (ap is_library_owner owner) anew.0 anew.1) [
      | inl it ↦ subst (λ (c : ℕ). IsTracked p heap (after ∷ frs) n y c) (let both : owners.Frame it.0 ≡ owners.Frame k = sym it.1 ∙ owner in (let one : it.0 ≡ k = cc in one)) it.2
      | inr field ↦ absurd (let never : owners.Field field.0 field.1 ≡ owners.Frame k = sym field.2 ∙ owner in cc)
    ]
  ]
    where
      top : at ≡ k → Tracks p heap after n y → IsTracked p heap (after ∷ frs) n y k
      top same w = rw (eq-eqb (length frs + 1) k same) w

      by : object_at kept_heap n ≡ Some y → IsFrom p at fr.locals.this caller.locals t.action plain gone says_none e n y → IsTracked p heap (after ∷ frs) n y k
      by there' (inl made) =
          let z = was_there n made.0 made.1 in
          top (let same : owners.Frame at ≡ owners.Frame k = sym made.2.owner ∙ owner in cc)
          (finished_tracks p ac forms h heap fr caller below j t there q named answer at n z.0 made.0 y z.1 z.2 unmet (finished_as p at fr.locals.this t.action e n made.0 y (method_at p named) made.2)
          (same_roots (values.Object n) ∙ ap Some (roots_of_links-itself kept_heap n y there' (made.2.link ∙ z.2.link ∙ made_free n z.0 made.2.new made.2.self z.1))))
      by there' (inr (inl alias)) = elim (alias_owner n alias.0 y aliased alias.2.new alias.2.self alias.1 alias.2.linked) [
        | inl library ↦ absurd (let never : owners.Library ≡ owners.Frame k = sym library.0 ∙ owner in cc)
        | inr none' ↦ absurd (let never : owners.Unowned ≡ owners.Frame k = sym none'.0 ∙ owner in cc)
      ]
      by there' (inr (inr noted)) = old_tracked n k y (kept n y unmet noted.0 noted.1 noted.2) unmet owner

  answers : (n : ℕ) (y : Object) → object_at heap n ≡ Some y → y.link ≡ None → is_unmet y ≡ true → is_answering y.owner ≡ true
  answers n y now free' unmet = elim (settled n y now free') [ inl there' ↦ by_from (from n y there') | inr anew ↦ by_owner (is_library_owner y.owner) refl anew ]
    where
      by_owner : (b : Bool) → is_library_owner y.owner ≡ b → IsTurned n × (y.must ≡ must_of p y.class) → is_answering y.owner ≡ true
      by_owner true library anew = answers_library y.owner library
      by_owner false other anew = elim (someones n y now unmet other anew.0 anew.1) [ inl frame ↦ ap is_answering frame.1 | inr field ↦ ap is_answering field.2 ]

      by : IsOld n y → is_answering y.owner ≡ true
      by old = elim old.owner [
        | inl same ↦ ap is_answering same ∙ agrees.answered n old.before old.there (sym old.goes_on.link ∙ free') (unmet_before old.before y old.goes_on unmet)
        | inr given' ↦ ap is_answering given'.owner
      ]

      by_from : IsFrom p at fr.locals.this caller.locals t.action plain gone says_none e n y → is_answering y.owner ≡ true
      by_from (inl made) = ap is_answering made.2.owner
      by_from (inr (inl alias)) = elim (alias_owner n alias.0 y aliased alias.2.new alias.2.self alias.1 alias.2.linked) [
        | inl library ↦ ap is_answering library.0
        | inr none' ↦ absurd (let never : None ≡ Some none'.1.0 = sym free' ∙ none'.1.1 in cc)
      ]
      by_from (inr (inr noted)) = by (kept n y unmet noted.0 noted.1 noted.2)

  -- ---- owners

  owned : (n : ℕ) (y : Object) → IsFrom p at fr.locals.this caller.locals t.action plain gone says_none e n y → IsLastOwned y ⊎ ((x : Object) × (object_at h n ≡ Some x) × IsSame x y)
  owned n y (inl made) = inl (subst IsLast (sym made.2.owner) tt, inl made.2.finished)
  owned n y (inr (inl alias)) = inl (
    elim (alias_owner n alias.0 y aliased alias.2.new alias.2.self alias.1 alias.2.linked) [
      | inl library ↦ subst IsLast (sym library.0) tt
      | inr none' ↦ subst IsLast (sym none'.0) tt
    ],
    inl alias.2.finished,
  )
  owned n y (inr (inr noted)) =
      let x = gone_owner p at fr.locals.this runs v e h agrees.ends n noted.0 noted.1 in
      let old = result_back p at runs v h e n x.0 x.1 in
      let owner : y.owner ≡ noted.0.owner = sym (ap (λ (u : Object). u.owner) noted.2) in
      let finished : y.finished ≡ noted.0.finished = sym (ap (λ (u : Object). u.finished) noted.2) in
      elim x.2 [
        | inl last ↦ inl (last_as noted.0 y owner finished last)
        | inr same ↦ elim old.owner [
          | inl kept' ↦ inr (old.before, old.at, (owner ∙ same.0 ∙ kept', finished ∙ same.1 ∙ old.goes_on.finished))
          | inr given' ↦ inl (subst IsLast (sym (owner ∙ same.0 ∙ given'.owner)) tt, inl (finished ∙ same.1 ∙ old.goes_on.finished ∙ finished_by p given'.type old.before given'.may))
        ]
      ]

  ends : HaveEnds heap
  ends = ends_on h heap agrees.ends keeps.count (λ n y now.
      let z = was_kept n y now in
      elim (owned n z.0 (from n z.0 z.1)) [
        | inl last ↦ inl (last_as z.0 y z.5 z.4 last)
        | inr same ↦ inr (inl (same.0, same.1, (z.5 ∙ same.2.0, z.4 ∙ same.2.1)))
      ])

  pub returned_agrees : Stands p after → (pos : Pos)
      → Agrees p (after ∷ frs) (returned p h at fr.locals.this caller.locals t.action runs (method_at p named) v e pos t.pos (held_by (after ∷ frs))).heap
      (es ++ (returned p h at fr.locals.this caller.locals t.action runs (method_at p named) v e pos t.pos (held_by (after ∷ frs))).lines)
  returned_agrees stands pos =
      let lines = call_end_entries p t.pos at fr.locals.this caller.locals t.action (method_at p named) e gone ++ owner_entries p t.pos h moved in
      subst (λ (leaks : List Entry). Agrees p (after ∷ frs) (left p t.pos (held_by (after ∷ frs)) lines leaks heap).heap (es ++ (left p t.pos (held_by (after ∷ frs)) lines leaks heap).lines))
      (sym (contents_end_met p at fr.locals.this runs v e h none free pos))
      (landed p (after ∷ frs) heap es t.pos lines (stands, agrees.standing.1.1) (called_on p h heap keeps caller after frs refl refl agrees.stacked.1) links ends classes tracked answers agrees.no_leak
      (end_lines p t.pos at fr.locals.this caller.locals t.action (method_at p named) e gone h moved))

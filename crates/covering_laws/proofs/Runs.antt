-- Each step of a run keeps what the places of frames hold covered, and the objects that are being made unfinished.
use Rattle.std.proofs.Common.{◌≡◌, ◌⊎◌, inl, inr, ℕ, ◌+◌, true, true≢false, Option, Some, List, [], ◌∷◌, length, slice_get, refl, sym, ap, ◌∙◌, subst, arith}
use Rattle.std.proofs.lemmas.List.Elements.{All-head, All-tail}
use Rattle.rlc_base.specs.declared.place.Pos.{Pos}
use Rattle.program_model.specs.declared.kinds.BodyId.{BodyId}
use Rattle.program_model.specs.declared.kinds.ClassId.{ClassId}
use Rattle.program_model.specs.declared.kinds.MethodId.{MethodId}
use Rattle.program_model.specs.declared.program.Program.{Program}
use Rattle.program_model.specs.Lookups.{method_at}
use Rattle.ledger_obligations.specs.WellFormed.{HasSmallInterests}
use Rattle.java_control.specs.Calls.{called_method, is_reset_of_this}
use Rattle.java_control.specs.Control.{Step, next_of}
use Rattle.control_actions.specs.declared.action.Action.{Action}
use Rattle.control_actions.specs.declared.action.Action.TheVariants as actions
use Rattle.control_actions.specs.declared.action.Completion.{Completion}
use Rattle.value_laws.specs.Accept.{Accept}
use Rattle.stub_conduct.specs.declared.choice.Conduct.{Conduct}
use Rattle.ledger_state.specs.Contents.{HeapContents}
use Rattle.ledger_obligations.specs.Obligations.{end_frame}
use Rattle.ledger_state.specs.Heaps.{next_number, object_at, unfinished}
use Rattle.ledger_state.specs.declared.locals.Locals.{Locals}
use Rattle.ledger_state.specs.declared.value.Value.{Value}
use Rattle.ledger_state.specs.declared.value.Value.TheVariants as values
use Rattle.ledger_obligations.specs.Obligations.{lose}
use Rattle.value_laws.specs.Operations.{made_value, next_choice}
use Rattle.ledger_steps.specs.LedgerCallsCalls.{argument_values, begun}
use Rattle.ledger_steps.specs.Conducts.{arguments_shared, conduct_value, positions}
use Rattle.value_laws.specs.Configuration.{Config, Frame, held_by}
use Rattle.value_laws.specs.Choosing.{frame_steps, steps_by}
use Rattle.value_laws.specs.Frames.{frame_after}
use Rattle.value_laws.specs.Moves.{Move, Inner, Start, Library, End, Stray, Rest, next_move, standing}
use Rattle.value_laws.specs.Moves.{Return, Back, StrayBack, NoWay, return_move}
use Rattle.ledger_steps.specs.CallSteps.{began_heap, library_heap, self_begun}
use Rattle.ledger_steps.specs.Ends.{answered, exception_class, result_value, returned_heap, thrown_in}
use Rattle.ledger_steps.specs.InnerSteps.{thrown_value, with_exception}
use Rattle.value_laws.specs.LedgerRunsOutcomes.{went, ended, stray}
use Rattle.value_laws.specs.LedgerRunsSteps.{began, end, library_went, main_ended, moved, moved_by, returned, returned_by, step, top_move, within}
use Rattle.value_laws.specs.Heaps.{HasEarlierLinks}
use Rattle.value_laws.proofs.CallWays.{one_action}
use Rattle.value_laws.specs.Agreement.{Agree, Agrees, HasMadeClasses, IsMadeAfter, IsMadeByNew, Stands, WaitsFor, RunsItself, RunsOnSame}
use Rattle.value_laws.specs.PlainForms.{HasPlainForms, MayRun}
use Rattle.value_laws.specs.Nexts.{IsBack, IsBackStep, IsInnerStep, IsLibraryMove, IsNext, IsNullCall, IsOwningStore, IsPlainStep, IsStartMove}
use Rattle.value_laws.proofs.Cases.{next_is}
use Rattle.value_laws.proofs.Returns.{back_is}
use Rattle.value_laws.specs.Frames.{HaveTargets}
use Rattle.value_laws.proofs.Ready.{plain_step, step_here}
use Rattle.value_laws.proofs.Unmet.{call_may, row_of}
use Rattle.value_laws.specs.Outcomes.{IsCallRow}
use Rattle.value_laws.specs.Types.{AreCalled, HaveTypes, KeepAll, is_text}
use Rattle.value_laws.proofs.Moved as typed_moves
use Rattle.value_laws.proofs.Moved.{IsConstantRead}
use Rattle.value_laws.specs.FieldContents.{FieldsHold, FieldsOwn, IsBeingMade, MakersOwn, RunOnOthers, is_new, TopRunsAlone}
use Rattle.value_laws.specs.Chains.{HaveEnds}
use Rattle.value_laws.specs.Holders.{HoldersAreUnlinked, UnfinishedAreUnowned}
use Rattle.ledger_obligations.specs.MustCallSets.{is_heavy_class}
use Rattle.value_laws.specs.PlaceFacts.{AreCovered, gives_none, is_given, renews_none}
use Rattle.value_laws.specs.Renewing.{is_reread}
use Rattle.value_laws.specs.Ranges.{AreInRange, FieldsInRange, LocalsInRange}
use Rattle.covering_laws.specs.Making.{AreBeingMade, HoldNone, IsUnheld}
use Rattle.covering_laws.specs.Running.{HasPlainRuns}
use Rattle.covering_laws.specs.Linking.{LinkedAreAliases}
use Rattle.covering_laws.specs.Sight.{ActsInSight, AllActInSight}
use Rattle.covering_laws.specs.Throws.{EndsAsDeclared, RaisesExceptions, TopEndsAsDeclared, TopRaisesExceptions}
use Rattle.covering_laws.proofs.BeingMade.{StayOfClass, all_apart, apart_from, making_on}
use Rattle.covering_laws.proofs.ReturnResets.{IsReturned, call_returned}
use Rattle.covering_laws.proofs.InnerJoins.{plain_covered, plain_held_before, plain_linked, plain_makers, plain_nobody, plain_owns, plain_unfinished, plain_stay}
use Rattle.covering_laws.proofs.ResetJoins.{left_covered, left_held_before, left_linked, left_makers, left_owns, left_unfinished, left_classes}
use Rattle.covering_laws.proofs.LocalSteps.{LocalsIn, all_there}
use Rattle.covering_laws.proofs.Lost.{all_lost, are_held, frame_linked, frame_owns, lost_held_before, lost_linked, lost_makers, lost_owns, lost_unfinished, was_there}
use Rattle.covering_laws.proofs.NullCalls.{null_covered, null_held_before, null_makers, null_owns, thrown_linked, thrown_unfinished, thrown_carries}
use Rattle.covering_laws.proofs.StartHeaps.{new_unfinished, start_carries}
use Rattle.covering_laws.proofs.StartJoins.{IsStarted, started}
use Rattle.covering_laws.proofs.StoreJoins.{joined, store_heap, store_linked}
use Rattle.covering_laws.proofs.StoreMoves.{IsJoined}
use Rattle.covering_laws.proofs.ContentHolders.{contents_have_holders}
use Rattle.covering_laws.proofs.StepWays.{library_unowned, returned_unowned, start_unowned, thrown_unowned}
use Rattle.covering_laws.proofs.Waiting.{AllHeldBefore, KeepsUnfinished, held_before_further, next_not_held, no_other, none_held_on, Carries}
use Rattle.covering_laws.proofs.LinkedExceptions.{still_aliases}
use Rattle.value_laws.specs.Arguments.{HasArguments, HaveArguments}
use Rattle.covering_laws.specs.Texts.{TextsAreLight}
use Rattle.value_laws.specs.LibraryClasses.{HasLightTexts}
use Rattle.covering_laws.proofs.LentHolders.{holds_lent}
use Rattle.covering_laws.proofs.RenewedOperands.{HoldsLent}
use Rattle.covering_laws.proofs.Texts.{texts_are_light}
use Rattle.covering_laws.proofs.RunningThis.{lends_its_own, single_this}
use Rattle.covering_laws.proofs.RenewingFrames.{all_renew_in_hand}
use Rattle.covering_laws.proofs.WholeThis.{IsSingleThis}
use Rattle.covering_laws.proofs.IdleCalls.{LendsItsOwn}
use Rattle.value_laws.proofs.SettledFrames.{AllRenewInHand}
use Rattle.value_laws.specs.ClassValues.{IsOnInstance}
use Rattle.value_laws.proofs.ClassArguments.{target_is_instance}
use Rattle.ownership_rules.specs.Callees.{callee_in}
use Rattle.value_laws.proofs.HeapLaws.{numbers_are_in_range}
use Rattle.value_laws.proofs.RootLaws.{one_object}
use Rattle.value_laws.proofs.Chains.{object_there}
use Rattle.value_laws.proofs.RangeValues.{operand_in_range}
use Rattle.ledger_state.specs.Values.{number_of}
use Rattle.ledger_state.specs.declared.object.Object.{Object}
use Rattle.ledger_state.specs.Classes.{class_in}

-- a `new` begins on the next object
new_self : (l : Locals) (a : Action) (h : HeapContents) → is_new a ≡ true → self_begun l a h ≡ values.Object (next_number h)
new_self l actions.Skip h new = absurd (true≢false (sym new))
new_self l (actions.New m d n) h new = refl
new_self l a h new = absurd (true≢false (sym new))

-- a read of a constant is no call on `this`
read_resets : (p : Program) (named : MethodId) (a : Action) → IsConstantRead a named → is_reset_of_this p a ≡ true → ⊥
read_resets p named (actions.Call m d n form) read resets = read
read_resets p named a read resets = true≢false (sym resets)

by_carried : (h k : HeapContents) → Carries h k → StayOfClass h k
by_carried h k carries w x y before now =
    let z = carries w y now (numbers_are_in_range h w x before).1 in
    z.2 ∙ ap (λ (u : Object). u.class) (one_object z.0 x (object_at h w) z.1 before)

-- so it is when what no place holds is lost
over_loss : (p : Program) (h k : HeapContents) (held : List (List Value)) → StayOfClass h k → StayOfClass h (lose held k)
over_loss p h k held stay w x y before now = let z = was_there p k held w y now in z.2.class ∙ stay w x z.0 before z.1

still_there : (p : Program) (k : HeapContents) (held : List (List Value)) (w : ℕ) (y : Object) → object_at (lose held k) w ≡ Some y → (x : Object) × (object_at k w ≡ Some x) × (y.class ≡ x.class) × (y.finished ≡ x.finished)
still_there p k held w y now = let z = was_there p k held w y now in (z.0, z.1, z.2.class, z.2.finished)

abbrev pub AreKept : Program → Config → Type 0
AreKept p c = AreCovered p c.heap c.frames × AreBeingMade p c.heap c.frames × LinkedAreAliases p c.heap × FieldsOwn p c.heap × MakersOwn p c.heap c.frames

module _ (p : Program) (ac : Accept p) (forms : HasPlainForms p) (runs : HasPlainRuns p) (names : HasSmallInterests p) (texts : HasLightTexts p) (c d : Config) (types : HaveTypes p c) (fr : Frame) (frs : List Frame)
    (agrees : Agrees p (fr ∷ frs) c.heap c.entries) (targets : HaveTargets p (fr ∷ frs)) (keeps : KeepAll (is_text p c.heap) p (fr ∷ frs)) (called : AreCalled p (fr ∷ frs)) (in' : LocalsIn c.heap (fr ∷ frs)) (ranges : FieldsInRange c.heap)
    (hold : FieldsHold p (fr ∷ frs) c.heap) (making : AreBeingMade p c.heap (fr ∷ frs)) (linked : LinkedAreAliases p c.heap) (owned : FieldsOwn p c.heap) (makers : MakersOwn p c.heap (fr ∷ frs)) (covered : AreCovered p c.heap (fr ∷ frs)) (raises : RaisesExceptions p c.heap fr) (sights : AllActInSight p c.heap (fr ∷ frs)) where
  abbrev h : HeapContents
  h = c.heap

  sight : ActsInSight p c.heap fr
  sight = sights.0

  light_here : TextsAreLight p c.heap
  light_here = texts_are_light p ac texts c.heap linked

  abbrev st : Stands p fr
  st = agrees.standing.0

  have : HaveEnds h
  have = agrees.ends

  unlinked : HoldersAreUnlinked (is_heavy_class p) h
  unlinked = contents_have_holders p ac (fr ∷ frs) h hold.contents

  links : HasEarlierLinks h
  links = agrees.links

  others_in : LocalsIn h frs
  others_in = All-tail (λ (x : Frame). LocalsInRange h x.locals) fr frs in'

  top : LocalsInRange h fr.locals
  top = All-head (λ (x : Frame). LocalsInRange h x.locals) fr frs in'

  -- what a field of `this` holds, where the frame's method creates the obligation of `this` anew
  holds : HoldsLent p h covered.0 frs fr st
  holds = holds_lent p ac forms h links owned fr top st covered.0 frs targets.0 have hold.unfinished gives_none renews_none covered.2 unlinked

  -- what the frames that wait have in hand
  all_renew : AllRenewInHand p h frs
  all_renew = all_renew_in_hand p ac forms h have links owned unlinked fr frs agrees.standing.1 targets.1 agrees.stacked others_in covered.0 covered.3 hold.unfinished.1 sights.1

  single : IsSingleThis p h fr
  single = single_this p ac forms h linked fr st targets.0 top sight

  carried : (x : Config) → went x ≡ went d → AreKept p x → AreKept p d
  carried x is kept = subst (AreKept p) (let same : x ≡ d = cc in same) kept

  -- the top frame goes on as another on the same object, and the heap loses what no place holds
  goes : (k : HeapContents) (after : Frame) → after.locals.this ≡ fr.locals.this → KeepsUnfinished h k no_other → AllHeldBefore p h k frs → StayOfClass h k → LinkedAreAliases p k → FieldsOwn p k → MakersOwn p k (after ∷ frs) → UnfinishedAreUnowned k → AreCovered p k (after ∷ frs)
      → AreCovered p (lose (held_by (after ∷ frs)) k) (after ∷ frs) × AreBeingMade p (lose (held_by (after ∷ frs)) k) (after ∷ frs) × LinkedAreAliases p (lose (held_by (after ∷ frs)) k) × FieldsOwn p (lose (held_by (after ∷ frs)) k)
      × MakersOwn p (lose (held_by (after ∷ frs)) k) (after ∷ frs)
  goes k after same unready before classes apart mine made nobody all = (
    all_lost p k (held_by (after ∷ frs)) nobody (after ∷ frs) (are_held p k (after ∷ frs)) all,
    making_on p h (lose (held_by (after ∷ frs)) k) no_other (lost_unfinished p k (held_by (after ∷ frs)) h no_other unready) (over_loss p h k (held_by (after ∷ frs)) classes) fr after frs same in' (all_apart (fr ∷ frs))
        (held_before_further p h k (lose (held_by (after ∷ frs)) k) (still_there p k (held_by (after ∷ frs))) frs before (lost_held_before p k (held_by (after ∷ frs)) frs)) making,
    still_aliases p k (lose (held_by (after ∷ frs)) k) (lost_linked p k (held_by (after ∷ frs))) apart,
    lost_owns p k (held_by (after ∷ frs)) mine,
    lost_makers p k (held_by (after ∷ frs)) (after ∷ frs) made,
  )

  -- ---- steps within the frame

  plain_kept : (e : Option ClassId) (s : Step) (i : ℕ) (here : slice_get (frame_steps p fr) i ≡ Some s) → IsPlainStep p h c.arrays fr.method fr.locals e s → AreKept p (within p c fr frs e s)
  plain_kept e s i here next =
      goes _
      (frame_after p h fr s (thrown_value h e (made_value p h c.arrays c.statics (next_choice c.choices c.used) fr.locals s.action))) refl
      (plain_unfinished p ac forms c texts types links ranges linked fr st keeps.0 raises i s here e next sight.updates) (plain_held_before p ac forms c texts types links ranges linked fr st keeps.0 raises i s here e next sight.updates frs others_in)
      (plain_stay p ac forms c texts types links ranges linked fr st keeps.0 raises i s here e next sight.updates)
      (plain_linked p ac forms c texts types links ranges linked fr st keeps.0 raises i s here e next sight.updates linked)
      (plain_owns p ac forms c texts types links ranges linked fr st keeps.0 raises i s here e next sight.updates have unlinked owned)
      (plain_makers p ac forms c texts types links ranges linked fr st keeps.0 raises i s here e next sight.updates have unlinked frs makers) (plain_nobody p ac forms c texts types links ranges linked fr st keeps.0 raises i s here e next sight.updates have.unfinished)
      (plain_covered p ac forms c texts types links ranges linked fr st keeps.0 raises i s here e next sight.updates have unlinked frs in' covered)

  null_kept : (e : Option ClassId) (s : Step) (i : ℕ) (here : slice_get (frame_steps p fr) i ≡ Some s) → IsNullCall p fr.locals e s → AreKept p (within p c fr frs e s)
  null_kept e s i here next = subst (λ (x : Option ClassId). AreKept p (within p c fr frs x s)) (sym next.thrown)
      (goes (with_exception p p.core.null_pointer_exception h) (frame_after p h fr s (values.Object (next_number h))) refl
      (thrown_unfinished p h links p.core.null_pointer_exception) (null_held_before p ac forms h links ranges fr st i s here e next frs others_in)
      (by_carried h (with_exception p p.core.null_pointer_exception h) (thrown_carries p h links p.core.null_pointer_exception))
      (still_aliases p h (with_exception p p.core.null_pointer_exception h) (thrown_linked p h links p.core.null_pointer_exception) linked) (null_owns p ac forms h links ranges fr st i s here e next have unlinked owned)
      (null_makers p ac forms h links ranges fr st i s here e next have unlinked frs makers)
      (thrown_unowned p (Some p.core.null_pointer_exception) h have.unfinished) (null_covered p ac forms h links ranges fr st i s here e next have unlinked frs in' covered))

  store_kept : (e : Option ClassId) (s : Step) (i : ℕ) (here : slice_get (frame_steps p fr) i ≡ Some s) → IsOwningStore e s → AreKept p (within p c fr frs e s)
  store_kept e s i here next = subst (λ (x : Option ClassId). AreKept p (within p c fr frs x s)) (sym next.normal)
      (goes _
      (frame_after p h fr s made) refl
      its.unready its.held its.classes
      (store_linked p ac forms h links ranges fr frs st agrees.standing.1 agrees.stacked targets hold have unlinked in' owned makers linked sight sights.1 light_here keeps.0 covered i s here next.field next.temp next.action made) its.owns its.makers its.nobody its.covered')
    where
      made : Value
      made = made_value p h c.arrays c.statics (next_choice c.choices c.used) fr.locals s.action

      its : IsJoined p h (store_heap p ac forms h links ranges fr frs st agrees.standing.1 agrees.stacked targets hold have unlinked in' owned makers linked sight sights.1 light_here keeps.0 covered i s here next.field next.temp next.action made)
          (frame_after p h fr s made) frs
      its = joined p ac forms h links ranges fr frs st agrees.standing.1 agrees.stacked targets hold have unlinked in' owned makers linked sight sights.1 light_here keeps.0 covered i s here next.field next.temp next.action made

  inner_kept : (e : Option ClassId) (s : Step) (i : ℕ) → slice_get (frame_steps p fr) i ≡ Some s → IsInnerStep p h c.arrays fr.method fr.locals e s → AreKept p (within p c fr frs e s)
  inner_kept e s i here next = elim next [
    | inl plain ↦ plain_kept e s i here plain
    | inr more ↦ elim more [ inl null ↦ null_kept e s i here null | inr store ↦ store_kept e s i here store ]
  ]

  -- ---- calls that begin

  module _ (named r : MethodId) (a : Action) (pos : Pos) (next : IsStartMove p h c.arrays fr.locals (frame_steps p fr) named r a) where
    abbrev s : Step
    s = next.step

    abbrev callee : Frame
    callee = begun p r (self_begun fr.locals s.action h) (argument_values fr.locals s.action (method_at p named))

    abbrev frames : List Frame
    frames = callee ∷ fr ∷ frs

    abbrev held : List (List Value)
    held = held_by frames

    position : length frames ≡ length (fr ∷ frs) + 1
    position = omega arith

    abbrev k : HeapContents
    k = began_heap p fr.locals s.action (method_at p named) (length frames) h

    -- what the call leaves
    its : IsStarted p h k callee fr frs (self_begun fr.locals s.action h)
    its = started p ac forms runs h light_here links have owned linked ranges types.fields fr frs agrees.standing keeps.0 targets.0 top others_in covered.0 covered.1 covered.2 covered.4 hold.contents hold.new hold.unfinished sight.makes makers holds
        c.arrays named r a next (length frames) position in' covered.3

    later : KeepsUnfinished h (lose held k) no_other
    later = lost_unfinished p k held h no_other its.unfinished

    -- the frame of a `new` runs on the next object
    on_next : (j : ℕ) (u : Step) (w : ℕ) → slice_get (frame_steps p fr) j ≡ Some u → is_new u.action ≡ true → callee.locals.this ≡ values.Object w → next_number h ≡ w
    on_next j u w at new this =
        let one : u.action ≡ s.action = one_action p st.number fr.control next.index j s u (step_here p fr st next.index s next.here) (step_here p fr st j u at) (call_may s.action (subst IsCallRow (sym next.same) next.row)) in
        let self : values.Object w ≡ values.Object (next_number h) = sym this ∙ its.this ∙ new_self fr.locals s.action h (ap is_new (sym one) ∙ new) in
        cc

    -- the object of a `new` that begins
    begins : IsBeingMade p (lose held k) callee fr
    begins j u w y at new this now =
        let z = was_there p k held w y now in
        z.2.finished ∙ new_unfinished p fr.locals s.action (method_at p named) (length frames) h links z.0 (ap (object_at k) (on_next j u w at new this) ∙ z.1)

    held_before : AllHeldBefore p h (lose held k) (fr ∷ frs)
    held_before = held_before_further p h k (lose held k) (still_there p k held) (fr ∷ frs) its.before (lost_held_before p k held (fr ∷ frs))

    -- which no frame holds yet
    unheld : IsUnheld p (lose held k) callee fr frs
    unheld j u w y at new this now heavy =
        subst (λ (n : ℕ). HoldNone p (lose held k) n (fr ∷ frs)) (on_next j u w at new this)
        (none_held_on p h (lose held k) (next_number h) y (ap (object_at (lose held k)) (on_next j u w at new this) ∙ now) heavy (begins j u w y at new this now) (fr ∷ frs) held_before (next_not_held p h links (fr ∷ frs) (all_there p h ranges (fr ∷ frs) in')))

    began_kept : AreKept p (began p c fr frs named r a pos)
    began_kept = subst (λ (b : Action). AreKept p (began p c fr frs named r b pos)) next.same (
      all_lost p k held (start_unowned p fr.locals s.action (method_at p named) (length frames) h links have.unfinished) frames (are_held p k frames) its.covered,
      (begins, unheld, making_on p h (lose held k) no_other later (over_loss p h k held (by_carried h k (start_carries p fr.locals s.action (method_at p named) (length frames) h links))) fr fr frs refl in' (all_apart (fr ∷ frs)) held_before.1 making),
      still_aliases p k (lose held k) (lost_linked p k held) (still_aliases p h k its.linked linked),
      lost_owns p k held its.owns,
      lost_makers p k held frames its.makers,
    )

  -- ---- calls of the library

  library_kept : (named m : MethodId) (x : Conduct) (s : Step) → IsLibraryMove p h c.arrays fr.locals (frame_steps p fr) named m x s → (called_method s.action ≡ Some named) ⊎ IsConstantRead s.action named
      → AreKept p (library_went p c fr frs named m x s)
  library_kept named m x s next row =
      goes (library_heap p fr.locals s.action (method_at p named) (method_at p m) x (length frs + 1) h)
      (frame_after p h fr s (conduct_value count (method_at p m) (positions fr.locals s.action (next_number h) x) (next_number h) x)) refl
      (left_unfinished p ac forms names h links ranges fr covered.0 frs st top c.arrays named m x s next count hold.leads hold.contents have light_here types.fields owned targets.0 single its_own hold.unfinished makers)
      (left_held_before p ac forms names h links ranges fr covered.0 frs st top c.arrays named m x s next count hold.leads hold.contents have light_here types.fields owned targets.0 single its_own hold.unfinished makers frs others_in)
      (left_classes p ac forms names h links ranges fr covered.0 frs st top c.arrays named m x s next count hold.leads hold.contents have light_here types.fields owned targets.0 single its_own hold.unfinished makers)
      (left_linked p ac forms names h links ranges fr covered.0 frs st top c.arrays named m x s next count hold.leads hold.contents have light_here types.fields owned targets.0 single its_own hold.unfinished makers linked)
      (left_owns p ac forms names h links ranges fr covered.0 frs st top c.arrays named m x s next count hold.leads hold.contents have light_here types.fields owned targets.0 single its_own hold.unfinished makers row covered.2 owned)
      (left_makers p ac forms names h links ranges fr covered.0 frs st top c.arrays named m x s next count hold.leads hold.contents have light_here types.fields owned targets.0 single its_own hold.unfinished makers row covered.2)
      (library_unowned p fr.locals s.action (method_at p named) (method_at p m) x (length frs + 1) h have.unfinished)
      (left_covered p ac forms names h links ranges fr covered.0 frs st top c.arrays named m x s next count hold.leads hold.contents have light_here types.fields owned targets.0 single its_own hold.unfinished makers all_renew hold.new hold.owning sight row in' covered.1 covered.2 covered.3 covered.4)
    where
      count : ℕ
      count = length (arguments_shared c.arrays fr.locals s.action (method_at p named))

      -- a call of `this` that creates its obligation anew stands where it may
      its_own : LendsItsOwn p fr s
      its_own = elim row [
        | inl called' ↦ lends_its_own p ac forms h linked fr st targets.0 top sight next.index s next.here gives_none renews_none covered.0 frs covered.2
            (subst (IsOnInstance p h fr.locals s.action) (sym (ap (callee_in p) called')) (target_is_instance p h c.arrays fr.locals s.action (method_at p named) (next.ran called').1))
        | inr read ↦ λ resets. absurd (read_resets p named s.action read resets)
      ]

-- ---- ends

module _ (p : Program) (ac : Accept p) (forms : HasPlainForms p) (runs : HasPlainRuns p) (names : HasSmallInterests p) (texts : HasLightTexts p) (c d : Config) (types : HaveTypes p c) (fr caller : Frame) (rest : List Frame)
    (agrees : Agrees p (fr ∷ caller ∷ rest) c.heap c.entries) (targets : HaveTargets p (fr ∷ caller ∷ rest)) (keeps : KeepAll (is_text p c.heap) p (fr ∷ caller ∷ rest)) (called : AreCalled p (fr ∷ caller ∷ rest)) (in' : LocalsIn c.heap (fr ∷ caller ∷ rest))
    (ranges : FieldsInRange c.heap) (hold : FieldsHold p (fr ∷ caller ∷ rest) c.heap) (making : AreBeingMade p c.heap (fr ∷ caller ∷ rest)) (linked : LinkedAreAliases p c.heap) (owned : FieldsOwn p c.heap) (makers : MakersOwn p c.heap (fr ∷ caller ∷ rest)) (covered : AreCovered p c.heap (fr ∷ caller ∷ rest))
    (i : ℕ) (s : Step) (q : Completion) (here : slice_get (frame_steps p fr) i ≡ Some s) (is : s.action ≡ actions.End q) (args : HasArguments p caller fr) (exits : EndsAsDeclared p c.heap fr) (sights : AllActInSight p c.heap (caller ∷ rest)) (alone : TopRunsAlone p c.heap (fr ∷ caller ∷ rest)) where
  sight_at_end : ActsInSight p c.heap caller
  sight_at_end = sights.0

  light_at_end : TextsAreLight p c.heap
  light_at_end = texts_are_light p ac texts c.heap linked

  abbrev e : Option ClassId
  e = exception_class p c.heap (thrown_in fr.locals q)

  abbrev waits : WaitsFor p c.heap caller fr
  waits = agrees.stacked.0

  abbrev below : Stands p caller
  below = agrees.standing.1.0

  below_in : LocalsIn c.heap (caller ∷ rest)
  below_in = All-tail (λ (x : Frame). LocalsInRange c.heap x.locals) fr (caller ∷ rest) in'

  unlinked_at_end : HoldersAreUnlinked (is_heavy_class p) c.heap
  unlinked_at_end = contents_have_holders p ac (fr ∷ caller ∷ rest) c.heap hold.contents

  -- what a field of the caller's `this` holds, where the caller's method creates the obligation of `this` anew
  holds_at_end : HoldsLent p c.heap covered.3.0 rest caller agrees.standing.1.0
  holds_at_end = holds_lent p ac forms c.heap agrees.links owned caller (All-head (λ (x : Frame). LocalsInRange c.heap x.locals) caller rest below_in) agrees.standing.1.0 covered.3.0 rest targets.1.0 agrees.ends hold.unfinished.1 (is_given p c.heap caller) (is_reread p c.heap caller)
      covered.3.3 unlinked_at_end

  caller_in : LocalsInRange c.heap caller.locals
  caller_in = All-head (λ (x : Frame). LocalsInRange c.heap x.locals) caller rest below_in

  all_renew_at_end : AllRenewInHand p c.heap (caller ∷ rest)
  all_renew_at_end = all_renew_in_hand p ac forms c.heap agrees.ends agrees.links owned unlinked_at_end fr (caller ∷ rest) agrees.standing.1 targets.1 agrees.stacked below_in covered.0 covered.3 hold.unfinished.1 sights

  module _ (pos : Pos) (t : Step) (named : MethodId) (same : named ≡ waits.named) (back : IsBackStep p (frame_steps p caller) e named t) where
    may : MayRun p named fr.method
    may = subst (λ (z : MethodId). MayRun p z fr.method) (sym same) waits.runs

    same_action : t.action ≡ waits.step.action
    same_action = one_action p below.number caller.control waits.index back.index waits.step t (step_here p caller below waits.index waits.step waits.here) (step_here p caller below back.index t back.here)
        (call_may waits.step.action (row_of waits.step.action waits.named waits.calls))

    makes : IsMadeByNew p c.heap t.action fr.locals.this
    makes = subst (λ (a : Action). IsMadeByNew p c.heap a fr.locals.this) (sym same_action) waits.makes

    itself : RunsItself t.action named fr.method
    itself = subst (λ (a : Action). RunsItself a named fr.method) (sym same_action) (subst (λ (z : MethodId). RunsItself waits.step.action z fr.method) (sym same) waits.itself)

    on_same : RunsOnSame t.action caller.locals.this fr.locals.this
    on_same = subst (λ (a : Action). RunsOnSame a caller.locals.this fr.locals.this) (sym same_action) waits.on_same

    fresh : (w : ℕ) → is_new t.action ≡ true → fr.locals.this ≡ values.Object w → RunOnOthers w (caller ∷ rest)
    fresh w new this = hold.fresh.0 back.index t w back.here new this

    made_after : IsMadeAfter p caller.locals t.action fr.locals.this
    made_after = subst (λ (a : Action). IsMadeAfter p caller.locals a fr.locals.this) (sym same_action) waits.after

    abbrev ended_heap : HeapContents
    ended_heap = returned_heap p (length rest + 1) fr.locals.this caller.locals t.action (method_at p fr.method) (method_at p named) (result_value fr.locals (method_at p fr.method) q) e c.heap

    abbrev after : Frame
    after = frame_after p c.heap caller t (answered fr.locals.this t.action (result_value fr.locals (method_at p fr.method) q) e)

    abbrev held_after : List (List Value)
    held_after = held_by (after ∷ rest)

    abbrev apart : ℕ → Type 0
    apart o = (fr.locals.this ≡ values.Object o) × (is_new t.action ≡ true)

    mine : LocalsInRange c.heap fr.locals
    mine = All-head (λ (x : Frame). LocalsInRange c.heap x.locals) fr (caller ∷ rest) in'

    -- the target of the call is of the class of the named method
    instance : IsOnInstance p c.heap caller.locals t.action (method_at p named)
    instance w z chosen first named_at =
        let number = operand_in_range c.heap caller.locals caller_in t.action 0 w (ap number_of first) in
        let class : ClassId = record { 0 = 0 } in
        let there = object_there c.heap w (unfinished class) number.0 number.1 in
        (there.0.class, ap class_in there.1, (hold.dispatched.0 back.index t named z w there.0 back.here back.calls named_at chosen first there.1).1)

    its_own : LendsItsOwn p caller t
    its_own = lends_its_own p ac forms c.heap linked caller below targets.1.0 caller_in sight_at_end back.index t back.here (is_given p c.heap caller) (is_reread p c.heap caller) covered.3.0 rest covered.3.3
        (subst (IsOnInstance p c.heap caller.locals t.action) (sym (ap (callee_in p) back.calls)) instance)

    -- what the end leaves
    its_end : IsReturned p c.heap ended_heap after rest apart
    its_end = call_returned p ac forms runs names c.heap light_at_end agrees.links linked ranges fr caller rest agrees.standing.0 below targets.1.0 keeps.0 called.0 hold.dispatched.0 making.0 mine covered.0 covered.2 i s q here is t named back may makes itself args exits
        hold.leads agrees.ends made_after agrees.classes making.1 below_in alone hold.contents unlinked_at_end fresh on_same types.fields agrees.standing.1.1 covered.1 covered.3.0 covered.3.1 covered.3.2 covered.3.3 covered.3.4 holds_at_end hold.new.1 hold.unfinished.1
        owned all_renew_at_end.0 all_renew_at_end.1 (single_this p ac forms c.heap linked caller below targets.1.0 caller_in sight_at_end) its_own makers.1 hold.owning sight_at_end covered.4

    returned_kept : AreKept p (returned p c fr caller rest pos q e named t)
    returned_kept = (
      all_lost p ended_heap held_after
          (returned_unowned p (length rest + 1) fr.locals.this caller.locals t.action (method_at p fr.method) (method_at p named) (result_value fr.locals (method_at p fr.method) q) e c.heap agrees.ends agrees.links
          (λ w x new this there. making.0 back.index t w x back.here new this there)) (after ∷ rest) (are_held p ended_heap (after ∷ rest)) its_end.covered,
      making_on p c.heap (lose held_after ended_heap) apart (lost_unfinished p ended_heap held_after c.heap apart its_end.unfinished) (over_loss p c.heap ended_heap held_after its_end.class) caller after rest refl below_in
          (apart_from apart (caller ∷ rest) (λ w other. hold.fresh.0 back.index t w back.here other.1 other.0))
          (held_before_further p c.heap ended_heap (lose held_after ended_heap) (still_there p ended_heap held_after) rest its_end.before (lost_held_before p ended_heap held_after rest)) making.2,
      still_aliases p ended_heap (lose held_after ended_heap) (lost_linked p ended_heap held_after) its_end.linked,
      lost_owns p ended_heap held_after its_end.owns,
      lost_makers p ended_heap held_after (after ∷ rest) its_end.makers,
    )

  back_kept : c.frames ≡ fr ∷ caller ∷ rest → (pos : Pos) (r : Return) → IsBack p (frame_steps p caller) e waits.named r → returned_by p c fr caller rest pos q r ≡ went d → AreKept p d
  back_kept frames pos (Back x named t) back same =
      subst (AreKept p) (let one : returned p c fr caller rest pos q x named t ≡ d = cc in one)
      (subst (λ (z : Option ClassId). AreKept p (returned p c fr caller rest pos q z named t)) (sym back.0) (returned_kept pos t named back.1 (subst (λ (z : MethodId). IsBackStep p (frame_steps p caller) e z t) (sym back.1) back.2)))
  back_kept frames pos (StrayBack x at) back same = absurd (let never : stray x at ≡ went d = same in cc)
  back_kept frames pos NoWay back same = subst (AreKept p) (let one : c ≡ d = cc in one) (subst (λ (gs : List Frame). AreCovered p c.heap gs × AreBeingMade p c.heap gs × LinkedAreAliases p c.heap × FieldsOwn p c.heap × MakersOwn p c.heap gs) (sym frames) (covered, making, linked, owned, makers))

-- ---- all steps

module _ (p : Program) (ac : Accept p) (forms : HasPlainForms p) (runs : HasPlainRuns p) (names : HasSmallInterests p) (texts : HasLightTexts p) (c d : Config) (types : HaveTypes p c)
    (given : (fr caller : Frame) (rest : List Frame) → c.frames ≡ fr ∷ caller ∷ rest → HasArguments p caller fr × EndsAsDeclared p c.heap fr)
    (raised : (fr : Frame) (frs : List Frame) → c.frames ≡ fr ∷ frs → RaisesExceptions p c.heap fr) (sight : AllActInSight p c.heap c.frames) (alone : TopRunsAlone p c.heap c.frames) where
  ended_kept : (fr : Frame) (frs : List Frame) → c.frames ≡ fr ∷ frs → Agrees p (fr ∷ frs) c.heap c.entries → HaveTargets p (fr ∷ frs) → KeepAll (is_text p c.heap) p (fr ∷ frs) → AreCalled p (fr ∷ frs) → LocalsIn c.heap (fr ∷ frs) → FieldsInRange c.heap
      → FieldsHold p (fr ∷ frs) c.heap → AreBeingMade p c.heap (fr ∷ frs) → LinkedAreAliases p c.heap → FieldsOwn p c.heap → MakersOwn p c.heap (fr ∷ frs) → AreCovered p c.heap (fr ∷ frs) → (pos : Pos) (q : Completion) (i : ℕ) (s : Step) → slice_get (frame_steps p fr) i ≡ Some s → s.action ≡ actions.End q
      → end p c fr frs pos q ≡ went d → AreKept p d
  ended_kept fr [] frames agrees targets keeps called in' ranges hold making linked owned makers covered pos q i s here is same = subst (AreKept p) (let one : main_ended p c fr pos q ≡ d = cc in one) (tt, tt, still_aliases p c.heap (end_frame 1 c.heap) (frame_linked 1 c.heap) linked, frame_owns p 1 c.heap owned, tt)
  ended_kept fr (caller ∷ rest) frames agrees targets keeps called in' ranges hold making linked owned makers covered pos q i s here is same =
      back_kept p ac forms runs names texts c d types fr caller rest agrees targets keeps called in' ranges hold making linked owned makers covered i s q here is (given fr caller rest frames).0 (given fr caller rest frames).1 (subst (λ (gs : List Frame). AllActInSight p c.heap gs) frames sight).1 (subst (λ (gs : List Frame). TopRunsAlone p c.heap gs) frames alone) frames pos
      (return_move p (frame_steps p caller) (exception_class p c.heap (thrown_in fr.locals q)))
      (back_is p caller agrees.standing.1.0 agrees.stacked.0.named agrees.stacked.0.index agrees.stacked.0.step agrees.stacked.0.here agrees.stacked.0.calls (exception_class p c.heap (thrown_in fr.locals q)))
      same

  moved_kept : (fr : Frame) (frs : List Frame) → c.frames ≡ fr ∷ frs → Agrees p (fr ∷ frs) c.heap c.entries → HaveTargets p (fr ∷ frs) → KeepAll (is_text p c.heap) p (fr ∷ frs) → AreCalled p (fr ∷ frs) → LocalsIn c.heap (fr ∷ frs) → FieldsInRange c.heap
      → FieldsHold p (fr ∷ frs) c.heap → AreBeingMade p c.heap (fr ∷ frs) → LinkedAreAliases p c.heap → FieldsOwn p c.heap → MakersOwn p c.heap (fr ∷ frs) → AreCovered p c.heap (fr ∷ frs) → (mv : Move) → IsNext p c.heap c.arrays fr.method fr.locals (frame_steps p fr) mv
      → typed_moves.IsNext p c.heap c.arrays fr.method fr.locals (frame_steps p fr) mv → moved p c fr frs mv ≡ went d → AreKept p d
  moved_kept fr frs frames agrees targets keeps called in' ranges hold making linked owned makers covered (Inner e s) next typed same =
      subst (AreKept p) (let one : within p c fr frs e s ≡ d = cc in one)
      (inner_kept p ac forms runs names texts c d types fr frs agrees targets keeps called in' ranges hold making linked owned makers covered (raised fr frs frames) (subst (λ (gs : List Frame). AllActInSight p c.heap gs) frames sight) e s next.0 next.1 next.2)
  moved_kept fr frs frames agrees targets keeps called in' ranges hold making linked owned makers covered (Start named r a pos) next typed same =
      subst (AreKept p) (let one : began p c fr frs named r a pos ≡ d = cc in one)
      (began_kept p ac forms runs names texts c d types fr frs agrees targets keeps called in' ranges hold making linked owned makers covered (raised fr frs frames) (subst (λ (gs : List Frame). AllActInSight p c.heap gs) frames sight) named r a pos next)
  moved_kept fr frs frames agrees targets keeps called in' ranges hold making linked owned makers covered (Library named m x s) next typed same =
      subst (AreKept p) (let one : library_went p c fr frs named m x s ≡ d = cc in one)
      (library_kept p ac forms runs names texts c d types fr frs agrees targets keeps called in' ranges hold making linked owned makers covered (raised fr frs frames) (subst (λ (gs : List Frame). AllActInSight p c.heap gs) frames sight) named m x s next typed.row)
  moved_kept fr frs frames agrees targets keeps called in' ranges hold making linked owned makers covered (End pos q) next typed same =
      ended_kept fr frs frames agrees targets keeps called in' ranges hold making linked owned makers covered pos q next.0 next.1 next.2 next.3 same
  moved_kept fr frs frames agrees targets keeps called in' ranges hold making linked owned makers covered (Stray e pos) next typed same = absurd (let never : stray e pos ≡ went d = same in cc)
  moved_kept fr frs frames agrees targets keeps called in' ranges hold making linked owned makers covered Rest next typed same =
      subst (AreKept p) (let one : c ≡ d = cc in one) (subst (λ (gs : List Frame). AreCovered p c.heap gs × AreBeingMade p c.heap gs × LinkedAreAliases p c.heap × FieldsOwn p c.heap × MakersOwn p c.heap gs) (sym frames) (covered, making, linked, owned, makers))

  -- what comes next, as the laws on types see it
  typed_next : (fr : Frame) (st : Stands p fr) → HasMadeClasses p c.heap → typed_moves.IsNext p c.heap c.arrays fr.method fr.locals (frame_steps p fr)
      (next_move p c.heap c.arrays (next_choice c.choices c.used) fr.method fr.locals (frame_steps p fr) (standing (slice_get fr.control 0)))
  typed_next fr st made =
      subst (λ (steps : List Step). typed_moves.IsNext p c.heap c.arrays fr.method fr.locals steps (next_move p c.heap c.arrays (next_choice c.choices c.used) fr.method fr.locals steps (standing (slice_get fr.control 0))))
      (sym same)
      (typed_moves.next_is p st.number fr.control (λ i s here. plain_step p ac forms fr st i s (ap (λ (steps : List Step). slice_get steps i) same ∙ here)) c.heap c.arrays (next_choice c.choices c.used) fr.method fr.locals made)
    where
      same : frame_steps p fr ≡ next_of p st.number fr.control
      same = ap (λ (b : Option BodyId). steps_by p b fr.control) st.id

  by_frames : (frs : List Frame) → c.frames ≡ frs → Agrees p frs c.heap c.entries → HaveTargets p frs → KeepAll (is_text p c.heap) p frs → AreCalled p frs → LocalsIn c.heap frs → FieldsInRange c.heap → FieldsHold p frs c.heap → AreBeingMade p c.heap frs
      → LinkedAreAliases p c.heap → FieldsOwn p c.heap → MakersOwn p c.heap frs → AreCovered p c.heap frs → moved_by p c frs (top_move p c frs) ≡ went d → AreKept p d
  by_frames [] frames agrees targets keeps called in' ranges hold making linked owned makers covered same = absurd (let never : ended c.ended ≡ went d = same in cc)
  by_frames (fr ∷ frs) frames agrees targets keeps called in' ranges hold making linked owned makers covered same =
      moved_kept fr frs frames agrees targets keeps called in' ranges hold making linked owned makers covered (top_move p c (fr ∷ frs)) (next_is p ac forms c.heap c.arrays (next_choice c.choices c.used) fr agrees.standing.0 targets.0 agrees.classes)
      (typed_next fr agrees.standing.0 agrees.classes) same

pub kept_step : (p : Program) → Accept p → HasPlainForms p → HasPlainRuns p → HasSmallInterests p → HasLightTexts p → (c d : Config) → Agree p c → HaveTargets p c.frames → HaveTypes p c → AreInRange c
    → FieldsHold p c.frames c.heap → AreBeingMade p c.heap c.frames → LinkedAreAliases p c.heap → FieldsOwn p c.heap → MakersOwn p c.heap c.frames → AreCovered p c.heap c.frames → HaveArguments p c.frames → TopEndsAsDeclared p c.heap c.frames → TopRaisesExceptions p c.heap c.frames → AllActInSight p c.heap c.frames → TopRunsAlone p c.heap c.frames → step p c ≡ went d → AreKept p d
unfolding step
kept_step p ac forms runs names texts c d agrees targets types ranges fields making linked owned makers covered args exits raises sight alone same =
    by_frames p ac forms runs names texts c d types
    (λ fr caller rest frames. ((subst (λ (gs : List Frame). HaveArguments p gs) frames args).0, subst (λ (gs : List Frame). TopEndsAsDeclared p c.heap gs) frames exits))
    (λ fr frs frames. subst (λ (gs : List Frame). TopRaisesExceptions p c.heap gs) frames raises) sight alone c.frames refl agrees targets types.frames types.called ranges.frames ranges.fields fields making linked owned makers covered same

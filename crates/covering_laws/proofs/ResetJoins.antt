-- A call of the library, or a read of a constant: all that the places of the frames hold is in facts that are true of it, also where the call creates obligations anew.
use Rattle.std.proofs.Common.{Bool, List, None, Option, Some, ap, false, inl, inr, length, option_map, refl, subst, sym, true, true≢false, ℕ, ◌+◌, ◌∙◌, ◌∷◌, ◌≡◌, ◌⊎◌}
use Rattle.std.proofs.lemmas.List.Elements.{All-tail}
use Rattle.program_model.specs.declared.kinds.MethodId.{MethodId}
use Rattle.program_model.specs.declared.program.Method.{Method}
use Rattle.program_model.specs.declared.program.Program.{Program}
use Rattle.program_model.specs.Lookups.{method_at}
use Rattle.ledger_obligations.specs.Bodies.{reset_in}
use Rattle.ledger_obligations.specs.MustCallSets.{is_heavy_class}
use Rattle.ledger_obligations.specs.Obligations as obligations
use Rattle.ledger_obligations.specs.WellFormed.{HasSmallInterests}
use Rattle.java_control.specs.Calls.{called_method}
use Rattle.java_control.specs.Control.{Step}
use Rattle.control_actions.specs.declared.action.Action.{Action}
use Rattle.control_actions.specs.declared.action.Action.TheVariants as actions
use Rattle.control_actions.specs.declared.action.PlainValue.TheVariants as plain_values
use Rattle.ownership_rules.specs.Callees.{callee, callee_in}
use Rattle.stub_conduct.specs.declared.choice.Conduct.{Conduct}
use Rattle.ledger_state.specs.Contents.{HeapContents}
use Rattle.ledger_state.specs.Heaps.{next_number, object_at, root, root_of}
use Rattle.ledger_state.specs.declared.array.ArrayObject.{ArrayObject}
use Rattle.ledger_state.specs.declared.object.Object.{Object}
use Rattle.ledger_state.specs.declared.value.Value.{Value}
use Rattle.ledger_state.specs.declared.value.Value.TheVariants as values
use Rattle.ledger_steps.specs.CallSteps.{library_called, library_heap, library_roots}
use Rattle.ledger_steps.specs.Conducts.{conduct_value, positions}
use Rattle.ledger_steps.specs.LedgerCallsCalls.{reset_position}
use Rattle.value_laws.specs.Accept.{Accept}
use Rattle.value_laws.specs.Agreement.{Stands}
use Rattle.value_laws.specs.Chains.{HaveEnds}
use Rattle.value_laws.specs.Choosing.{frame_steps}
use Rattle.value_laws.specs.ClassValues.{IsOnInstance}
use Rattle.value_laws.specs.Configuration.{Frame}
use Rattle.value_laws.specs.FieldContents.{AreNew, AreUnfinished, FieldsOwn, HaveContents, LinksLead, MakersOwn, OwningFieldsOwn}
use Rattle.value_laws.specs.Frames.{frame_after, KeepsTargets}
use Rattle.value_laws.specs.HeapAnew.{IsEmptied, is_anew}
use Rattle.value_laws.specs.Heaps.{HasEarlierLinks}
use Rattle.value_laws.specs.Holders.{HoldersAreUnlinked}
use Rattle.value_laws.specs.Nexts.{IsLibraryMove}
use Rattle.value_laws.specs.Outcomes.{IsCallRow}
use Rattle.value_laws.specs.PlaceFacts.{AreCovered, AreWaiting, IsCovered, IsOld, OwnersBelow, gives_none, is_frame_from, renews_none}
use Rattle.value_laws.specs.PlainForms.{HasPlainForms, IsPlainAction}
use Rattle.value_laws.specs.Ranges.{FieldsInRange, LocalsInRange}
use Rattle.value_laws.specs.Types.{StoredHoldNone, is_text}
use Rattle.value_laws.proofs.ClassArguments.{target_is_instance}
use Rattle.value_laws.proofs.Emptied.{as_it_was, back, fresh_stays}
use Rattle.value_laws.proofs.Growth.{library_grows}
use Rattle.value_laws.proofs.HeapLaws.{roots_go_on-root, numbers_are_in_range}
use Rattle.value_laws.proofs.LibraryCallLaws.{any_library_links_stay, emptied_objects}
use Rattle.value_laws.proofs.Moved.{IsConstantRead}
use Rattle.value_laws.proofs.RangeValues.{operand_in_range}
use Rattle.value_laws.proofs.Ready.{plain_step}
use Rattle.value_laws.proofs.Renewed.{renewed, reset_keeps, same_root, says_nothing, without_reset}
use Rattle.covering_laws.specs.Linking.{IsGivenAsAlias, LinkedAreAliases}
use Rattle.covering_laws.specs.Sight.{ActsInSight}
use Rattle.covering_laws.specs.Texts.{TextsAreLight}
use Rattle.covering_laws.proofs.AlikeHeaps.{AreAlike, IsAlike}
use Rattle.covering_laws.proofs.AnewAtEnds.{AllTurned, IsTurnedAnew, all_anew, content_declares}
use Rattle.covering_laws.proofs.ContentHolders.{contents_have_holders}
use Rattle.covering_laws.proofs.Gifts.{all_keep_gifts}
use Rattle.covering_laws.proofs.LentHolders.{holds_lent, opened_this}
use Rattle.covering_laws.proofs.LibraryJoins.{call_apart, call_goes, call_owner, call_top_from, carries, goes_by, library_after_unfinished, library_covered, library_ends, library_kept, library_keeps_roots, library_linked, library_ways}
use Rattle.covering_laws.proofs.LibraryTargets.{risen, was_finished}
use Rattle.covering_laws.proofs.LocalSteps.{LocalsIn, all_there}
use Rattle.covering_laws.proofs.MadeObjects.{grown_fields, older_or_new}
use Rattle.covering_laws.proofs.FieldOwners.{carried_as_before, fields_own_by, fields_own_kept}
use Rattle.covering_laws.proofs.MakersOwning.{all_made_kept, makers_own_on}
use Rattle.covering_laws.proofs.ResetCovers.{makers_alike}
use Rattle.covering_laws.proofs.Owners.{AllKeepGifts, OwnersGo, holders_were}
use Rattle.covering_laws.proofs.RenewedOperands.{HoldsLent}
use Rattle.covering_laws.proofs.TargetRoots.{same_position}
use Rattle.covering_laws.proofs.UnfinishedHolders.{unfinished_kept}
use Rattle.covering_laws.proofs.Waiting.{AllHeldBefore, KeepsFields, KeepsReady, KeepsRoots, KeepsUnfinished, all_held_before, all_keep, all_ready, but_texts, no_other}
use Rattle.covering_laws.proofs.WholeThis.{IsSingleThis}
use Rattle.covering_laws.proofs.IdleCalls.{LendsItsOwn}
use Rattle.value_laws.proofs.SettledFrames.{AllRenewInHand}
use Rattle.value_laws.proofs.RootLaws.{one_object}

-- a method that creates no obligation anew is the one without its reset
pub plain_method : (m : Option Method) → reset_position m ≡ None → without_reset m ≡ m
plain_method None none = refl
plain_method (Some m) none = ap (λ (r : Option ℕ). Some (record m { sig = record m.sig { reset = r } })) (sym none)

-- a constant that is read creates no obligation anew
read_reset : (p : Program) (a : Action) (named : MethodId) → IsPlainAction p a → IsConstantRead a named → reset_position (method_at p named) ≡ None
read_reset p actions.Skip named plain read = absurd read
read_reset p (actions.Plain x (plain_values.LibraryConstant k)) named plain read = ap (λ (n : MethodId). reset_position (method_at p n)) (sym read) ∙ sym (same_position (method_at p k)) ∙ plain.1
read_reset p a named plain read = absurd read

-- what names a method is a call
row_by : (a : Action) (named : MethodId) → called_method a ≡ Some named → IsCallRow a
row_by actions.Skip named is = absurd (let never : None ≡ Some named = is in cc)
row_by (actions.Call m d n f) named is = tt
row_by (actions.New m d n) named is = tt
row_by (actions.Super m d n) named is = tt
row_by a named is = absurd (let never : None ≡ Some named = is in cc)

module _ (p : Program) (ac : Accept p) (forms : HasPlainForms p) (names : HasSmallInterests p) (h : HeapContents) (links : HasEarlierLinks h) (ranges : FieldsInRange h) (fr : Frame) (old : ℕ → Bool) (frs : List Frame) (st : Stands p fr)
    (mine : LocalsInRange h fr.locals) (arrays : List ArrayObject) (named runs : MethodId) (d : Conduct) (s : Step) (next : IsLibraryMove p h arrays fr.locals (frame_steps p fr) named runs d s) (count : ℕ)
    (leads : LinksLead p h) (contents : HaveContents p (fr ∷ frs) h) (have : HaveEnds h) (texts : TextsAreLight p h) (stored : StoredHoldNone (is_text p h) p h) (fields_own : FieldsOwn p h) (targets : KeepsTargets p fr)
    (single : IsSingleThis p h fr) (lending : LendsItsOwn p fr s) (unready : AreUnfinished p h (fr ∷ frs)) (makers : MakersOwn p h (fr ∷ frs)) where
  abbrev at : ℕ
  at = length frs + 1

  abbrev m : Option Method
  m = method_at p named

  abbrev r : Option Method
  r = method_at p runs

  -- the heap that the call leaves
  abbrev pub left : HeapContents
  left = library_heap p fr.locals s.action m r d at h

  -- the heap that it would leave without its reset
  abbrev pub would : HeapContents
  would = library_heap p fr.locals s.action (without_reset m) r d at h

  abbrev after : Frame
  after = frame_after p h fr s (conduct_value count r (positions fr.locals s.action (next_number h) d) (next_number h) d)

  unlinked : HoldersAreUnlinked (is_heavy_class p) h
  unlinked = contents_have_holders p ac (fr ∷ frs) h contents

  -- each object is as it would be, but for the names that were called on it and must be
  as_would : (o : ℕ) (z : Object) → IsAlike z (obligations.reset_in p (library_called p fr.locals s.action m r d h) (library_roots p fr.locals s.action m r d h) o z)
  as_would o z = let it = reset_keeps p (library_called p fr.locals s.action m r d h) (library_roots p fr.locals s.action m r d h) o z in record { class = it.0; link = it.1; finished = it.2; owner = it.3 }

  pub was_would : (o : ℕ) (y : Object) → object_at left o ≡ Some y → (z : Object) × (object_at would o ≡ Some z) × IsAlike z y
  was_would o y now =
      let z = back p fr.locals s.action m r d at h o y now in
      (z.0, z.1, subst (IsAlike z.0) z.2 (as_would o z.0))

  alike : AreAlike would left
  alike = record {
    forth = λ o z there. (
      obligations.reset_in p (library_called p fr.locals s.action m r d h) (library_roots p fr.locals s.action m r d h) o z,
      renewed p fr.locals s.action m r d at h o ∙ ap (option_map (obligations.reset_in p (library_called p fr.locals s.action m r d h) (library_roots p fr.locals s.action m r d h) o)) there,
      as_would o z,
    );
    back = was_would;
  }

  same : (u : Value) → root_of left u ≡ root_of would u
  same u = same_root p fr.locals s.action m r d at h u

  fields : KeepsFields p would left
  fields w f own = grown_fields p h left (library_grows p fr.locals s.action m r d at h) w f own ∙ sym (grown_fields p h would (library_grows p fr.locals s.action (without_reset m) r d at h) w f own)

  -- ---- what goes on

  would_roots : KeepsRoots h would
  would_roots n number = library_keeps_roots p ac forms names h links ranges fr old frs st mine arrays named runs d s next count leads contents have texts stored fields_own targets single lending unready makers n number

  would_unfinished : KeepsUnfinished h would no_other
  would_unfinished o x y apart before now open' = library_after_unfinished p ac forms names h links ranges fr old frs st mine arrays named runs d s next count leads contents have texts stored fields_own targets single lending unready makers o x y apart before now open'

  pub left_unfinished : KeepsUnfinished h left no_other
  left_unfinished o x y apart before now open' = let z = was_would o y now in z.2.finished ∙ would_unfinished o x z.0 apart before z.1 open'

  pub left_linked : LinkedAreAliases p h → LinkedAreAliases p left
  left_linked apart n y k there some =
      let z = was_would n y there in
      subst (IsGivenAsAlias p) (sym z.2.class) (library_linked p ac forms names h links ranges fr old frs st mine arrays named runs d s next count leads contents have texts stored fields_own targets single lending unready makers apart n z.0 k z.1 (sym z.2.link ∙ some))

  pub left_classes : (w : ℕ) (x y : Object) → object_at h w ≡ Some x → object_at left w ≡ Some y → y.class ≡ x.class
  left_classes w x y before now =
      let z = was_would w y now in
      let u = carries p ac forms names h links ranges fr old frs st mine arrays named runs d s next count leads contents have texts stored fields_own targets single lending unready makers w z.0 z.1 (numbers_are_in_range h w x before).1 in
      z.2.class ∙ u.2 ∙ ap (λ (v : Object). v.class) (one_object u.0 x (object_at h w) u.1 before)

  left_roots : KeepsRoots h left
  left_roots n number =
      let one = same (values.Object n) in
      (let both : Some (root left n) ≡ Some (root would n) = one in (let it : root left n ≡ root would n = cc in it)) ∙ would_roots n number

  pub left_held_before : (rest : List Frame) → LocalsIn h rest → AllHeldBefore p h left rest
  left_held_before rest in' = all_held_before p h left left_roots rest (all_keep p h left (grown_fields p h left (library_grows p fr.locals s.action m r d at h)) rest) (all_there p h ranges rest in')

  later_links : HasEarlierLinks left
  later_links = any_library_links_stay p fr.locals s.action m r d at h links (λ k w alias number. operand_in_range h fr.locals mine s.action k w number)

  -- ---- a call that creates an obligation anew

  module _ (called : called_method s.action ≡ Some named) (own : OwningFieldsOwn p h) (sight : ActsInSight p h fr) (renews : AllRenewInHand p h frs) (news : AreNew p (fr ∷ frs)) (in' : LocalsIn h (fr ∷ frs)) (is : IsOld p h frs fr old) (covered : IsCovered p h gives_none renews_none old frs fr)
      (waits : AreWaiting p h old frs) (below : OwnersBelow h (length frs + 1)) where
    instance : IsOnInstance p h fr.locals s.action m
    instance = target_is_instance p h arrays fr.locals s.action m (next.ran called).1

    row : IsCallRow s.action
    row = row_by s.action named called

    others : LocalsIn h frs
    others = All-tail (λ (u : Frame). LocalsInRange h u.locals) fr frs in'

    -- the frames before the reset
    would_covered : IsOld p would frs after old × IsCovered p would gives_none renews_none old frs after × AreWaiting p would old frs × OwnersBelow would (length frs + 1)
    would_covered = library_kept p ac forms names h links ranges fr old frs st mine arrays named runs d s next count leads contents have texts stored fields_own targets single lending unready makers (inl called) in' is covered waits below

    gifts : AllKeepGifts p h would (fr ∷ frs)
    gifts = all_keep_gifts p h would would_roots (fr ∷ frs) in'

    goes : OwnersGo p None (fr ∷ frs) at h would
    goes = call_goes p ac forms names h links ranges fr old frs st mine arrays named runs d s next count leads contents have texts stored fields_own targets single lending unready makers called row covered

    later : HaveEnds would
    later = library_ends p ac forms names h links ranges fr old frs st mine arrays named runs d s next count leads contents have texts stored fields_own targets single lending unready makers

    unready' : AreUnfinished p would (fr ∷ frs)
    unready' = unfinished_kept p h would (λ o x y before now open'. would_unfinished o x y (λ never. never) before now open') (fr ∷ frs) in' unready

    holds : HoldsLent p h old frs fr st
    holds = holds_lent p ac forms h links fields_own fr mine st old frs targets have unready gives_none renews_none covered unlinked

    ready : KeepsReady p h would fr
    ready = all_ready p h would would_unfinished fr

    turns : AllTurned p h would left fr.locals s.action
    turns o y u root' now = (z.0, z.1, like, go (is_anew p fr.locals s.action m r d h o) refl)
      where
        z : (w : Object) × (object_at would o ≡ Some w) × (obligations.reset_in p (library_called p fr.locals s.action m r d h) (library_roots p fr.locals s.action m r d h) o w ≡ y)
        z = back p fr.locals s.action m r d at h o y now

        like : IsAlike z.0 y
        like = subst (IsAlike z.0) z.2 (as_would o z.0)

        go : (b : Bool) → is_anew p fr.locals s.action m r d h o ≡ b → (y ≡ z.0) ⊎ IsTurnedAnew p h fr.locals s.action o z.0 y
        go false out = inl (sym z.2 ∙ as_it_was p fr.locals s.action m r d at h o z.0 out)
        go true anew = elim (older_or_new p fr.locals s.action (without_reset m) r at h (says_nothing m) links d o z.0 z.1) [
          | inr new ↦ absurd (true≢false (sym anew ∙ ap (is_anew p fr.locals s.action m r d h) new ∙ fresh_stays p fr.locals s.action m r d at h))
          | inl was ↦ inr (
              let em : IsEmptied p was.before y = emptied_objects p fr.locals s.action m r d at h o was.before y anew was.at now in
              let none : was.before.link ≡ None = sym (like.link ∙ was.goes_on.link) ∙ roots_go_on-root left u o y later_links root' now in
              record {
                emptied = record { called = em.called; must = elim em.must [ inl all ↦ inl all | inr kept ↦ inr (kept ∙ sym was.goes_on.must) ] };
                was = was.before;
                before = was.at;
                done = was_finished p h links fr named runs d next.index s next.here called instance own sight unlinked o was.before was.at none anew;
                risen = λ heavy. risen p h links fr named runs d next.index s next.here called instance own sight unlinked o was.before was.at none anew (ap (is_heavy_class p) (sym was.goes_on.class) ∙ heavy);
              })
        ]

    pub reset_covered : AreCovered p left (after ∷ frs)
    reset_covered =
        all_anew p ac forms h would left fr after frs st next.index s next.here row same fields alike gives_none (λ o. false) old (λ o c never. absurd (true≢false (sym never))) (λ o never. absurd (true≢false (sym never))) covered holds
        (library_ways p ac forms names h links ranges fr old frs st mine arrays named runs d s next count leads contents have texts stored fields_own targets single lending unready makers) goes
        (call_apart p ac forms names h links ranges fr old frs st mine arrays named runs d s next count leads contents have texts stored fields_own targets single lending unready makers called row covered others) gifts.0 gifts.1
        (carries p ac forms names h links ranges fr old frs st mine arrays named runs d s next count leads contents have texts stored fields_own targets single lending unready makers) ready
        (call_owner p ac forms names h links ranges fr old frs st mine arrays named runs d s next count leads contents have texts stored fields_own targets single lending unready makers called row) later news unready unready' would_covered.0
        (opened_this p ac forms h links fields_own fr mine st old frs targets have unready gives_none renews_none covered) renews (content_declares p (fr ∷ frs) h contents) refl refl turns
        (λ q o y small open' root now heavy owes. call_top_from p ac forms names h links ranges fr old frs st mine arrays named runs d s next count leads contents have texts stored fields_own targets single lending unready makers called row covered is others q o y small root now heavy owes)
        would_covered.2 (λ o y now. (let z = was_would o y now in ap (is_frame_from (length frs + 1 + 1)) z.2.owner ∙ would_covered.3 o z.0 z.1))

  -- ---- any call of the library, and any read of a constant

  pub left_covered : AllRenewInHand p h frs → AreNew p (fr ∷ frs) → OwningFieldsOwn p h → ActsInSight p h fr → (called_method s.action ≡ Some named) ⊎ IsConstantRead s.action named → LocalsIn h (fr ∷ frs)
      → IsOld p h frs fr old → IsCovered p h gives_none renews_none old frs fr → AreWaiting p h old frs → OwnersBelow h (length frs + 1) → AreCovered p left (after ∷ frs)
  left_covered renews news own sight row in' is covered waits below = by row
    where
      plain : reset_position m ≡ None → AreCovered p left (after ∷ frs)
      plain none =
          subst (λ (n : Option Method). AreCovered p (library_heap p fr.locals s.action n r d at h) (after ∷ frs)) (plain_method m none)
          (library_covered p ac forms names h links ranges fr old frs st mine arrays named runs d s next count leads contents have texts stored fields_own targets single lending unready makers row in' is covered waits below)

      by : (called_method s.action ≡ Some named) ⊎ IsConstantRead s.action named → AreCovered p left (after ∷ frs)
      by (inr read) = plain (read_reset p s.action named (plain_step p ac forms fr st next.index s next.here) read)
      by (inl called) = go (reset_in (callee p s.action)) refl
        where
          go : (k : Option ℕ) → reset_in (callee p s.action) ≡ k → AreCovered p left (after ∷ frs)
          go None none = plain (sym (same_position m) ∙ ap reset_in (sym (ap (callee_in p) called)) ∙ none)
          go (Some k) some = reset_covered called own sight renews news in' is covered waits below

  -- what fields hold they own
  pub left_owns : (called_method s.action ≡ Some named) ⊎ IsConstantRead s.action named → IsCovered p h gives_none renews_none old frs fr → FieldsOwn p h → FieldsOwn p left
  left_owns row covered held = fields_own_kept p would left fields same (λ o y now. let z = was_would o y now in (z.0, z.1, z.2.class, z.2.link, z.2.finished, z.2.owner))
      (fields_own_by p None (fr ∷ frs) at h would links ranges have.unfinished (but_texts p h would (grown_fields p h would (library_grows p fr.locals s.action (without_reset m) r d at h)))
      (carries p ac forms names h links ranges fr old frs st mine arrays named runs d s next count leads contents have texts stored fields_own targets single lending unready makers)
      (holders_were p None (fr ∷ frs) at h would (library_ways p ac forms names h links ranges fr old frs st mine arrays named runs d s next count leads contents have texts stored fields_own targets single lending unready makers) goes) would_roots goes would_unfinished held)
    where
      goes : OwnersGo p None (fr ∷ frs) at h would
      goes = goes_by p ac forms names h links ranges fr old frs st mine arrays named runs d s next count leads contents have texts stored fields_own targets single lending unready makers row covered

  -- what the fields of what this frame makes, and those below, hold they own
  pub left_makers : (called_method s.action ≡ Some named) ⊎ IsConstantRead s.action named → IsCovered p h gives_none renews_none old frs fr → MakersOwn p left (after ∷ frs)
  left_makers row covered = (λ w f o x made owning heavy held at' wide owes. kept.0 w f o x (record { alone = made.alone; field = made.field; declared = made.declared; runs = made.runs }) owning heavy held at' wide owes, kept.1)
    where
      goes : OwnersGo p None (fr ∷ frs) at h would
      goes = goes_by p ac forms names h links ranges fr old frs st mine arrays named runs d s next count leads contents have texts stored fields_own targets single lending unready makers row covered

      kept : MakersOwn p left (fr ∷ frs)
      kept =
          makers_alike p would left same fields alike (fr ∷ frs)
          (makers_own_on p h would links ranges have.unfinished (but_texts p h would (grown_fields p h would (library_grows p fr.locals s.action (without_reset m) r d at h)))
          (carried_as_before p h would (carries p ac forms names h links ranges fr old frs st mine arrays named runs d s next count leads contents have texts stored fields_own targets single lending unready makers)
          (holders_were p None (fr ∷ frs) at h would
          (library_ways p ac forms names h links ranges fr old frs st mine arrays named runs d s next count leads contents have texts stored fields_own targets single lending unready makers) goes))
          (inl would_roots) (fr ∷ frs) (all_made_kept p None (fr ∷ frs) at h would have.unfinished goes (fr ∷ frs) (λ w none. none)) makers)

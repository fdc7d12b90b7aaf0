-- A call whose target is null throws before it starts: the library's exception is all that the step makes.
use Rattle.std.proofs.Common.{Bool, not, ◌&&◌, List, None, Option, Some, [], ap, arith, false, inl, inr, length, refl, slice_get, subst, sym, true, true≢false, ℕ, ◌+◌, ◌∙◌, ◌∷◌, ◌≡◌}
use Rattle.std.proofs.lemmas.List.Elements.{All-head, All-tail}
use Rattle.program_model.specs.declared.kinds.ClassId.{ClassId}
use Rattle.program_model.specs.declared.program.Program.{Program}
use Rattle.program_model.specs.declared.program.Promise.{Promise}
use Rattle.ledger_obligations.specs.MustCallSets.{Names, is_heavy_class}
use Rattle.java_control.specs.Control.{Step}
use Rattle.control_actions.specs.declared.action.Action.{Action}
use Rattle.control_actions.specs.declared.action.Edge.{Edge}
use Rattle.control_actions.specs.declared.action.Edge.TheVariants as edges
use Rattle.control_actions.specs.declared.place.Place.{Place}
use Rattle.ownership_rules.specs.Callees.{is_other_form, may_be_null_target, may_have_null_target}
use Rattle.java_control.specs.Calls.{is_reset_of_this, is_this_form, resets_receiver}
use Rattle.control_actions.specs.declared.action.Action.TheVariants as actions
use Rattle.control_actions.specs.declared.action.TargetForm.{TargetForm}
use Rattle.control_actions.specs.declared.action.TargetForm.TheVariants as target_forms
use Rattle.program_model.specs.Lookups.{method_at}
use Rattle.program_model.specs.SuperTests.{is_ignored, is_under}
use Rattle.std.proofs.lemmas.Bool.{and_parts}
use Rattle.ownership_rules.specs.Facts.{PlaceSet}
use Rattle.value_laws.specs.Aliases.{gives_alias}
use Rattle.value_laws.specs.CalledRows.{promises_at}
use Rattle.value_laws.specs.Accept.{Accept}
use Rattle.ledger_state.specs.Contents.{HeapContents}
use Rattle.ledger_state.specs.Heaps.{next_number, object_at, root, root_of}
use Rattle.ledger_state.specs.declared.object.Object.{Object}
use Rattle.ledger_state.specs.declared.value.Value.{Value}
use Rattle.ledger_state.specs.declared.value.Value.TheVariants as values
use Rattle.value_laws.specs.Places.{place_value}
use Rattle.ledger_steps.specs.LedgerCallsCalls.{operand_of}
use Rattle.value_laws.specs.Configuration.{Frame}
use Rattle.value_laws.specs.Choosing.{frame_steps}
use Rattle.value_laws.specs.Frames.{frame_after}
use Rattle.ledger_steps.specs.InnerSteps.{with_exception}
use Rattle.value_laws.specs.Heaps.{HasEarlierLinks}
use Rattle.value_laws.proofs.HeapLaws.{evolving_heaps-links, numbers_are_in_range}
use Rattle.value_laws.proofs.LibraryCallLaws.{exceptions_are_the_librarys, exceptions_keep_links-evolves}
use Rattle.value_laws.specs.Agreement.{Stands}
use Rattle.value_laws.specs.PlainForms.{HasPlainForms}
use Rattle.value_laws.specs.Nexts.{IsNullCall}
use Rattle.value_laws.proofs.Ready.{call_sets}
use Rattle.value_laws.proofs.Unmet.{way_of_call}
use Rattle.value_laws.specs.PlaceFacts.{AreCovered, IsUnowned, gives_none}
use Rattle.value_laws.specs.Ranges.{FieldsInRange, LocalsInRange}
use Rattle.covering_laws.proofs.CallSteps.{call_covered}
use Rattle.value_laws.specs.FieldContents.{FieldsOwn, MakersOwn}
use Rattle.covering_laws.proofs.FieldOwners.{carried_as_before, fields_own_by}
use Rattle.covering_laws.proofs.MakersOwning.{all_made_kept, makers_own_on}
use Rattle.covering_laws.proofs.Gifts.{all_keep_gifts}
use Rattle.covering_laws.proofs.InnerJoins.{exception_class_is}
use Rattle.covering_laws.proofs.InnerSteps.{no_object, same_goes_on}
use Rattle.covering_laws.proofs.KnownNames.{AreKept}
use Rattle.covering_laws.proofs.LightExceptions.{null_pointer_is_light}
use Rattle.covering_laws.proofs.LocalSteps.{LocalsIn, all_there, holds_there, local_step}
use Rattle.covering_laws.proofs.IdleFacts.{idle_stays}
use Rattle.covering_laws.proofs.Owners.{AllKeepGifts, KeepsFinished, KeepsHeld, OwnersGo, StaysApart, WaysGo, held_here, holders_were, keeps_finished, old_kept, owners_kept, stays_apart}
use Rattle.covering_laws.proofs.StepWays.{thrown_births, thrown_unowned, ways_by}
use Rattle.value_laws.proofs.Counts.{thrown_count}
use Rattle.value_laws.specs.Chains.{HaveEnds}
use Rattle.value_laws.specs.Holders.{HoldersAreUnlinked}
use Rattle.covering_laws.proofs.StoreOwners.{thrown_below, thrown_owners_go, thrown_same}
use Rattle.covering_laws.proofs.TopSteps.{IsLocalStep}
use Rattle.covering_laws.proofs.Waiting.{AllHeldBefore, Carries, HoldsThere, KeepsFields, KeepsRoots, KeepsUnfinished, all_held_before, all_keep, all_ready, all_wait, but_texts, frames_ready, keeps_roots, linked_roots, new_root, no_other, old_as, ways_go_on, this_was}
use Rattle.covering_laws.proofs.LinkedExceptions.{LinkedWere}

-- ---- the heap with an exception

module _ (p : Program) (h : HeapContents) (links : HasEarlierLinks h) (e : ClassId) where
  pub thrown_roots : KeepsRoots h (with_exception p e h)
  thrown_roots = linked_roots h (with_exception p e h) links (evolving_heaps-links h (with_exception p e h) (exceptions_keep_links-evolves p (Some e) h))

  -- the exception has itself for its root
  pub exception_root : root (with_exception p e h) (next_number h) ≡ next_number h
  exception_root = new_root h (with_exception p e h) (λ y at. elim (exceptions_are_the_librarys p (Some e) h (next_number h) y at) [
    | inl old ↦ absurd (let range = numbers_are_in_range h (next_number h) y old in let below = range.1 in omega (arith, below))
    | inr new ↦ new.2
  ])

  pub thrown_linked : LinkedWere h (with_exception p e h)
  thrown_linked n y l at some = elim (exceptions_are_the_librarys p (Some e) h n y at) [ inl old ↦ (y, old, some, refl) | inr new ↦ absurd (let never : None ≡ Some l = sym new.2 ∙ some in cc) ]

  pub thrown_unfinished : KeepsUnfinished h (with_exception p e h) no_other
  thrown_unfinished o x y apart before now none = elim (exceptions_are_the_librarys p (Some e) h o y now) [
    | inl old ↦ ap (λ (z : Object). z.finished) (let both : Some y ≡ Some x = sym old ∙ before in (let one : y ≡ x = cc in one)) ∙ none
    | inr new ↦ absurd (let number = new.0 in let range = numbers_are_in_range h o x before in let below = range.1 in omega (arith, number, below))
  ]

  pub thrown_carries : Carries h (with_exception p e h)
  thrown_carries o y at below = elim (exceptions_are_the_librarys p (Some e) h o y at) [
    | inl old ↦ (y, old, refl, (λ is. (same_goes_on y, λ library. library)))
    | inr new ↦ absurd (let number = new.0 in omega (arith, number, below))
  ]

  pub thrown_fields : KeepsFields p h (with_exception p e h)
  thrown_fields w f own = refl

-- nothing is promised where the target is null
null_promises : (p : Program) (a : Action) (e : Edge) → may_be_null_target p a e ≡ true → promises_at p a e ≡ []
null_promises p a edges.Go null = absurd (true≢false (sym null))
null_promises p a edges.Null null = refl
null_promises p a edges.NonNull null = refl
null_promises p a edges.True null = refl
null_promises p a edges.False null = refl
null_promises p a (edges.Throws t) null = rw null refl

-- the target is not `this`, whose obligation it creates not anew
not_on_this : (f : TargetForm) → is_other_form (Some f) ≡ true → is_this_form f ≡ false
not_on_this target_forms.Other null = refl
not_on_this target_forms.Static null = refl
not_on_this target_forms.This null = absurd (true≢false (sym null))
not_on_this target_forms.Super null = absurd (true≢false (sym null))

null_resets_none : (p : Program) (a : Action) (e : Edge) → may_be_null_target p a e ≡ true → is_reset_of_this p a ≡ false
null_resets_none p a edges.Go null = absurd (true≢false (sym null))
null_resets_none p a edges.Null null = absurd (true≢false (sym null))
null_resets_none p a edges.NonNull null = absurd (true≢false (sym null))
null_resets_none p a edges.True null = absurd (true≢false (sym null))
null_resets_none p a edges.False null = absurd (true≢false (sym null))
null_resets_none p a (edges.Throws t) null = by a (and_parts (may_have_null_target a) (not (is_ignored p p.core.null_pointer_exception)) (and_parts (may_have_null_target a && not (is_ignored p p.core.null_pointer_exception)) (is_under p p.core.null_pointer_exception t) null).0).0
  where
    by : (b : Action) → may_have_null_target b ≡ true → is_reset_of_this p b ≡ false
    by actions.Skip may = refl
    by (actions.Call m d n form) may = ap (λ (z : Bool). z && resets_receiver (method_at p m)) (not_on_this form may)
    by b may = refl

-- so it gives no alias
null_gives_none : (p : Program) (a : Action) (e : Edge) (held : PlaceSet) → may_be_null_target p a e ≡ true → gives_alias p a e held ≡ false
null_gives_none p a edges.Go held null = absurd (true≢false (sym null))
null_gives_none p a edges.Null held null = refl
null_gives_none p a edges.NonNull held null = refl
null_gives_none p a edges.True held null = refl
null_gives_none p a edges.False held null = refl
null_gives_none p a (edges.Throws t) held null = refl

module _ (p : Program) (ac : Accept p) (forms : HasPlainForms p) (h : HeapContents) (links : HasEarlierLinks h) (ranges : FieldsInRange h) (fr : Frame) (st : Stands p fr) (i : ℕ) (s : Step)
    (here : slice_get (frame_steps p fr) i ≡ Some s) (e : Option ClassId) (call : IsNullCall p fr.locals e s) where
  abbrev npe : ClassId
  npe = p.core.null_pointer_exception

  abbrev k : HeapContents
  k = with_exception p npe h

  abbrev v : Value
  v = values.Object (next_number h)

  abbrev after : Frame
  after = frame_after p h fr s v

  local : IsLocalStep p fr st s
  local = local_step p ac forms fr st i s here (call_sets s.action call.row) (way_of_call s call.row)

  -- what the step makes is the exception
  made : (old : ℕ → Bool) (frs : List Frame) (q : Place) (o : ℕ) (y : Object) → place_value p k fr.method after.locals q ≡ v → root_of k v ≡ Some o → object_at k o ≡ Some y → is_heavy_class p y.class ≡ true → IsUnowned p k false false old frs after q o y
  made old frs q o y is root' at heavy =
      let number : next_number h ≡ o = (let both : Some (next_number h) ≡ Some o = sym (ap Some (exception_root p h links npe)) ∙ root' in (let one : next_number h ≡ o = cc in one)) in
      absurd (true≢false (sym heavy ∙ ap (is_heavy_class p) (exception_class_is p npe h y (ap (object_at k) number ∙ at)) ∙ null_pointer_is_light p ac))

  none_kept : (held : PlaceSet) (names : Names) → AreKept p st.number s.action held names (promises_at p s.action s.edge)
  none_kept held names = subst (λ (ps : List Promise). AreKept p st.number s.action held names ps) (sym (null_promises p s.action s.edge call.target)) tt

  finishes : KeepsFinished h k
  finishes = keeps_finished h k (λ n x at done. let y = exceptions_keep_links-evolves p (Some npe) h n x at in (y.0, y.1, y.2.finished ∙ done))

  -- owners stay
  same_owner : (o : ℕ) (x y : Object) → object_at h o ≡ Some x → object_at k o ≡ Some y → y.owner ≡ x.owner
  same_owner o x y before at = ap (λ (z : Object). z.owner) (thrown_same p (Some npe) h o x y before at)

  -- what fields hold they own
  pub null_owns : HaveEnds h → HoldersAreUnlinked (is_heavy_class p) h → FieldsOwn p h → FieldsOwn p k
  null_owns have unlinked = fields_own_by p None [] 1 h k links ranges have.unfinished (but_texts p h k (thrown_fields p h links npe)) (thrown_carries p h links npe) (holders_were p None [] 1 h k ways goes) (thrown_roots p h links npe) goes
      (thrown_unfinished p h links npe)
    where
      goes : OwnersGo p None [] 1 h k
      goes = thrown_owners_go p (Some npe) h None [] 1

      ways : WaysGo p None [] 1 h k
      ways = ways_by p None [] 1 h k have unlinked (thrown_unowned p (Some npe) h have.unfinished) (thrown_count p (Some npe) h) (thrown_carries p h links npe) (thrown_births p (Some npe) 1 h) no_other (thrown_unfinished p h links npe)
          (λ o never. absurd never) (λ w never. absurd (let no : None ≡ Some w = never in cc))

  -- so do the fields of what these frames make
  pub null_makers : HaveEnds h → HoldersAreUnlinked (is_heavy_class p) h → (frs : List Frame) → MakersOwn p h (fr ∷ frs) → MakersOwn p k (after ∷ frs)
  null_makers have unlinked frs makers = (λ w f o x made' owning heavy held at wide owes. kept.0 w f o x (record { alone = made'.alone; field = made'.field; declared = made'.declared; runs = made'.runs }) owning heavy held at wide owes, kept.1)
    where
      goes : OwnersGo p None (fr ∷ frs) 1 h k
      goes = thrown_owners_go p (Some npe) h None (fr ∷ frs) 1

      ways : WaysGo p None (fr ∷ frs) 1 h k
      ways = ways_by p None (fr ∷ frs) 1 h k have unlinked (thrown_unowned p (Some npe) h have.unfinished) (thrown_count p (Some npe) h) (thrown_carries p h links npe) (thrown_births p (Some npe) 1 h) no_other (thrown_unfinished p h links npe)
          (λ o never. absurd never) (λ w never. absurd (let no : None ≡ Some w = never in cc))

      kept : MakersOwn p k (fr ∷ frs)
      kept =
          makers_own_on p h k links ranges have.unfinished (but_texts p h k (thrown_fields p h links npe)) (carried_as_before p h k (thrown_carries p h links npe) (holders_were p None (fr ∷ frs) 1 h k ways goes)) (inl (thrown_roots p h links npe)) (fr ∷ frs)
          (all_made_kept p None (fr ∷ frs) 1 h k have.unfinished goes (fr ∷ frs) (λ w none. none)) makers

  pub null_covered : HaveEnds h → HoldersAreUnlinked (is_heavy_class p) h → (frs : List Frame) → LocalsIn h (fr ∷ frs) → AreCovered p h (fr ∷ frs) → AreCovered p k (after ∷ frs)
  null_covered have unlinked frs in' (old, is, covered, waits, below) = (
    old,
    old_as p k old frs fr after refl refl (old_kept p h k old frs fr others (ways_go_on p None (fr ∷ frs) (length frs + 1) h k ways) is
        (this_was p h k fr (keeps_roots p h k (thrown_roots p h links npe) fr there) there (all_ready p h k (thrown_unfinished p h links npe) fr) (thrown_carries p h links npe))),
    call_covered p ac h k links (thrown_carries p h links npe) (but_texts p h k (thrown_fields p h links npe)) fr st i s here local
        there (keeps_roots p h k (thrown_roots p h links npe) fr there) v call.row
        old frs gives_none (λ o. false) (λ o c gives. absurd (true≢false (sym gives))) covered is (idle_stays p ac forms fr st s local (null_resets_none p s.action s.edge call.target) frs) (all_ready p h k (thrown_unfinished p h links npe) fr)
        others lasting
        (λ o x y before at done heavy kept mine. same_owner o x y before at ∙ mine)
        (λ o x y c n before at root' other interest sure full stays done goes heavy owes. absurd (no_object h (operand_of fr.locals s.action 0) o call.null root'))
        (λ o x y c before at g more trusted sure full stays done goes some owes names less was. none_kept c.fact.places names)
        (λ o x c before some owes said gives. absurd (true≢false (sym gives ∙ null_gives_none p s.action s.edge c.fact.places call.target)))
        (λ q o y small out root' now heavy owes. absurd (true≢false (sym out.0 ∙ null_resets_none p s.action s.edge call.target)))
        (λ q o y small local' none there is root' at heavy owes. inr (inl (made old frs q o y is root' at heavy))),
    all_wait p h k links (thrown_roots p h links npe) (thrown_carries p h links npe) (ways_go_on p None (fr ∷ frs) (length frs + 1) h k ways) old frs (all_keep p h k (thrown_fields p h links npe) frs)
        (all_there p h ranges frs (All-tail (λ (x : Frame). LocalsInRange h x.locals) fr frs in')) (frames_ready p h k (thrown_unfinished p h links npe) frs) gifts
        (owners_kept p None (fr ∷ frs) (length frs + 1) h k ways goes frs (omega arith) gifts tt (λ w none. none.1)) waits,
    thrown_below p (Some npe) h (length frs + 1) below,
  )
    where
      there : HoldsThere p h fr
      there = holds_there p h ranges fr (All-head (λ (x : Frame). LocalsInRange h x.locals) fr frs in')

      gifts : AllKeepGifts p h k frs
      gifts = all_keep_gifts p h k (thrown_roots p h links npe) frs (All-tail (λ (x : Frame). LocalsInRange h x.locals) fr frs in')

      goes : OwnersGo p None (fr ∷ frs) (length frs + 1) h k
      goes = thrown_owners_go p (Some npe) h None (fr ∷ frs) (length frs + 1)

      ways : WaysGo p None (fr ∷ frs) (length frs + 1) h k
      ways = ways_by p None (fr ∷ frs) (length frs + 1) h k have unlinked (thrown_unowned p (Some npe) h have.unfinished) (thrown_count p (Some npe) h) (thrown_carries p h links npe) (thrown_births p (Some npe) (length frs + 1) h) no_other (thrown_unfinished p h links npe) (λ o never. absurd never)
          (λ w never. absurd (let no : None ≡ Some w = never in cc))

      others : StaysApart p h k frs fr
      others = stays_apart p None (fr ∷ frs) (length frs + 1) h k ways goes frs fr (omega arith) gifts tt (λ w none. none.1) (λ w never this. absurd (let no : None ≡ Some w = never in cc))

      lasting : KeepsHeld p h k fr
      lasting = held_here p None (fr ∷ frs) (length frs + 1) h k ways goes frs fr (omega arith) gifts (λ w none. none.0)

  pub null_held_before : (frs : List Frame) → LocalsIn h frs → AllHeldBefore p h k frs
  null_held_before frs in' = all_held_before p h k (thrown_roots p h links npe) frs (all_keep p h k (thrown_fields p h links npe) frs) (all_there p h ranges frs in')

-- A constructor stores into an owning field of the object that its `new` makes: nothing is reset, and no other frame runs on the object.
use Rattle.program_model.specs.declared.program.Method.{Method}
use Rattle.std.proofs.lemmas.Bool.{and_parts, not-true}
use Rattle.covering_laws.proofs.Following.{method_here}
use Rattle.value_laws.specs.Renewing.{IsMadeBy}
use Rattle.std.proofs.Common.{◌≡◌, inl, inr, ℕ, ◌+◌, Bool, true, false, Some, None, List, ◌∷◌, length, slice_get, nat_eq, eq-eqb, eqb-true, refl, sym, ap, ◌∙◌, subst, true≢false, arith, [], not, Option}
use Rattle.std.proofs.lemmas.List.Elements.{All-head, All-tail}
use Rattle.program_model.specs.declared.kinds.FieldId.{FieldId}
use Rattle.program_model.specs.declared.program.Field.{Field}
use Rattle.program_model.specs.declared.program.Program.{Program}
use Rattle.program_model.specs.Lookups.{field_at, method_at}
use Rattle.ledger_obligations.specs.Bodies.{constructs, alias_in, alias_position, is_alias_constructor, is_constructor}
use Rattle.ledger_obligations.specs.MustCallSets.{is_heavy_class}
use Rattle.ownership_rules.specs.Signatures.{type_of_field, is_present}
use Rattle.java_control.specs.Control.{Step}
use Rattle.java_control.specs.Owned.{is_owning}
use Rattle.control_actions.specs.declared.action.Action.TheVariants as actions
use Rattle.value_laws.specs.Accept.{Accept}
use Rattle.ledger_state.specs.Contents.{HeapContents}
use Rattle.ledger_state.specs.Fields.{field_of}
use Rattle.ledger_state.specs.Heaps.{object_at, unfinished, put_field}
use Rattle.ledger_state.specs.declared.entry.Owner.TheVariants as owners
use Rattle.ledger_state.specs.declared.object.Object.{Object}
use Rattle.ledger_state.specs.declared.value.Value.{Value}
use Rattle.ledger_state.specs.declared.value.Value.TheVariants as values
use Rattle.ledger_obligations.specs.Obligations as obligations
use Rattle.ledger_obligations.specs.Obligations.{finished_in}
use Rattle.value_laws.specs.Configuration.{Frame}
use Rattle.value_laws.specs.Choosing.{frame_steps}
use Rattle.value_laws.specs.Chains.{HaveEnds}
use Rattle.value_laws.specs.Heaps.{HasEarlierLinks}
use Rattle.value_laws.specs.Holders.{HoldersAreUnlinked}
use Rattle.value_laws.specs.Agreement.{Stands}
use Rattle.value_laws.specs.PlainForms.{HasPlainForms, StoresPlainly}
use Rattle.value_laws.proofs.StoredObjects.{stored_goes_on, unfinished_stays, no_reset}
use Rattle.value_laws.specs.Stores.{IsStored}
use Rattle.value_laws.proofs.RootLaws.{one_object}
use Rattle.value_laws.specs.FieldContents.{DeclaresOwning, FieldsHold, FieldsOwn, IsFieldOfClass, RunOnOthers, MakersOwn}
use Rattle.value_laws.specs.PlaceFacts.{AreCovered, IsCovered, gives_none, renews_none}
use Rattle.value_laws.specs.Ranges.{FieldsInRange, LocalsInRange}
use Rattle.covering_laws.proofs.LocalSteps.{LocalsIn, all_there, holds_there}
use Rattle.covering_laws.proofs.FieldOwners.{FieldGoes, carried_as_before, fields_own_on, none_finished, OwnsNow}
use Rattle.covering_laws.proofs.Gifts.{all_keep_gifts}
use Rattle.covering_laws.proofs.Owners.{AllKeepGifts, OwnersGo, StaysApart, WaysGo, constructor_apart, holders_were, old_kept, owners_kept}
use Rattle.covering_laws.proofs.OwnerSteps.{movable}
use Rattle.covering_laws.proofs.StoreOwners.{store_below, store_owners_go}
use Rattle.covering_laws.proofs.StoreSteps.{others_stay}
use Rattle.covering_laws.proofs.Waiting.{AllHeldBefore, AllKeep, all_held_before, all_ready, all_wait, frames_ready, old_as, ways_go_on, HoldsThere, this_was, keeps_roots}
use Rattle.covering_laws.proofs.StoreMoves.{after, back, bound, carries, forth, heap_is, holds_other', keeps_owning, moved, moved_unfinished, moves_from, owned_here, roots, store_heap, top_stores, v, was, IsJoined, moved_linked, moved_nobody, moved_classes, ArePlain, makers_own, makes_on}

module _ (p : Program) (ac : Accept p) (forms : HasPlainForms p) (h : HeapContents) (links : HasEarlierLinks h) (ranges : FieldsInRange h) (fr : Frame) (frs : List Frame) (st : Stands p fr) (hold : FieldsHold p (fr ∷ frs) h)
    (i : ℕ) (s : Step) (here : slice_get (frame_steps p fr) i ≡ Some s) (f : FieldId) (d : ℕ) (is : s.action ≡ actions.PutOwn f d) (plainly : StoresPlainly p (method_at p fr.method) f) (made : Value) (w : ℕ) (this : fr.locals.this ≡ values.Object w) (self : Object)
    (there : object_at h w ≡ Some self) (unmade' : self.finished ≡ false) (makes : constructs (method_at p fr.method) ≡ true) (class : IsFieldOfClass p f self.class) (have : HaveEnds h) (unlinked : HoldersAreUnlinked (is_heavy_class p) h) where
  abbrev k : HeapContents
  k = moved p ac forms h links fr frs st i s here f d is plainly made w this self there (λ makes'. unmade')

  -- the heap of the step is the one in which the value has moved
  same_heap : store_heap p ac forms h links fr frs st i s here f d is plainly made w this self there (λ makes'. unmade') ≡ k
  same_heap = heap_is p ac forms h links fr frs st i s here f d is plainly made w this self there (λ makes'. unmade') ∙ ap (put_field w f (v p ac forms h links fr frs st i s here f d is plainly made w this self there (λ makes'. unmade'))) (no_reset p h w f (v p ac forms h links fr frs st i s here f d is plainly made w this self there (λ makes'. unmade')) (bound p ac forms h links fr frs st i s here f d is plainly made w this self there (λ makes'. unmade')) (unfinished_stays p h w f (v p ac forms h links fr frs st i s here f d is plainly made w this self there (λ makes'. unmade')) (bound p ac forms h links fr frs st i s here f d is plainly made w this self there (λ makes'. unmade')) (field_of p h (values.Object w) f) (ap finished_in there ∙ unmade')))

  declared : DeclaresOwning p fr.method
  declared = let x = owned_here p ac forms h links fr frs st i s here f d is plainly made w this self there (λ makes'. unmade') in (f, x.0, x.1, x.2, x.3)

  -- no frame below runs on the object
  nowhere : RunOnOthers w frs
  nowhere = hold.new.0 w declared makes this

  -- the ways up go on
  ways : WaysGo p (Some w) frs (length frs + 1) h k
  ways = record {
    have = have;
    unlinked = unlinked;
    objects = λ o x at. (let y = forth p ac forms h links fr frs st i s here f d is plainly made w this self there (λ makes'. unmade') o x at in (y.0, y.1, y.2.class, λ done. (y.2.finished ∙ done, y.2.link)));
    unmade = λ o x y before now none. inl (moved_unfinished p ac forms h links fr frs st i s here f d is plainly made w this self there (λ makes'. unmade') o x y (λ never. never) before now none, nobody o x y before none (was p ac forms h links fr frs st i s here f d is plainly made w this self there (λ makes'. unmade') o x y before now));
    fresh = λ o y none now. (let x = back p ac forms h links fr frs st i s here f d is plainly made w this self there (λ makes'. unmade') o y now in absurd (let never : None ≡ Some x.0 = sym none ∙ x.1 in cc));
    unready = λ u is'. (self, ap (object_at h) (let both : Some w ≡ Some u = is' in (let one : u ≡ w = cc in one)) ∙ there, unmade');
  }
    where
      nobody : (o : ℕ) (x y : Object) → object_at h o ≡ Some x → x.finished ≡ false → IsStored p h w f (v p ac forms h links fr frs st i s here f d is plainly made w this self there (λ makes'. unmade')) o x y → y.owner ≡ owners.Unowned
      nobody o x y before none (inl same) = ap (λ (z : Object). z.owner) same ∙ have.unfinished o x before none
      nobody o x y before none (inr (inl gone)) = absurd (let never : owners.Unowned ≡ owners.Field w f = sym (have.unfinished o x before none) ∙ gone.0.owner in cc)
      nobody o x y before none (inr (inr into)) = absurd (true≢false (sym (movable p (obligations.type_of_field (field_at p f)) x into.0.may).0 ∙ none))

  owners_go : (old : ℕ → Bool) → IsCovered p h gives_none renews_none old frs fr → OwnersGo p (Some w) frs (length frs + 1) h k
  owners_go old covered = store_owners_go p h k w f (v p ac forms h links fr frs st i s here f d is plainly made w this self there (λ makes'. unmade')) (back p ac forms h links fr frs st i s here f d is plainly made w this self there (λ makes'. unmade')) frs (nowhere, (λ z there'. hold.unfinished.0 w z declared makes this there')) (length frs + 1)
      (λ o x y before now heavy owes into is'. moves_from p ac forms h links fr frs st i s here f d is plainly made w this self there (λ makes'. unmade') old covered o x y before now heavy (inl owes) into is')

  gifts : LocalsIn h (fr ∷ frs) → AllKeepGifts p h k frs
  gifts in' = all_keep_gifts p h k (roots p ac forms h links fr frs st i s here f d is plainly made w this self there (λ makes'. unmade')) frs (All-tail (λ (x : Frame). LocalsInRange h x.locals) fr frs in')

  others : AllKeep p h k frs
  others = others_stay p h k w f (holds_other' p ac forms h links fr frs st i s here f d is plainly made w this self there (λ makes'. unmade')) frs nowhere

  made_held_before : LocalsIn h (fr ∷ frs) → AllHeldBefore p h k frs
  made_held_before in' = all_held_before p h k (roots p ac forms h links fr frs st i s here f d is plainly made w this self there (λ makes'. unmade')) frs others (all_there p h ranges frs (All-tail (λ (x : Frame). LocalsInRange h x.locals) fr frs in'))

  made_covered : LocalsIn h (fr ∷ frs) → AreCovered p h (fr ∷ frs) → AreCovered p k (after p ac forms h links fr frs st i s here f d is plainly made w this self there (λ makes'. unmade') ∷ frs)
  made_covered in' (old, is_old, covered, waits, below) = (
    old,
    old_as p k old frs fr (after p ac forms h links fr frs st i s here f d is plainly made w this self there (λ makes'. unmade')) refl refl
        (old_kept p h k old frs fr apart (ways_go_on p (Some w) frs (length frs + 1) h k ways) is_old
        (this_was p h k fr (keeps_roots p h k (roots p ac forms h links fr frs st i s here f d is plainly made w this self there (λ makes'. unmade')) fr inside) inside (all_ready p h k (moved_unfinished p ac forms h links fr frs st i s here f d is plainly made w this self there (λ makes'. unmade')) fr) (carries p ac forms h links fr frs st i s here f d is plainly made w this self there (λ makes'. unmade')))),
    top_stores p ac forms h links fr frs st i s here f d is plainly made w this self there (λ makes'. unmade') old covered is_old inside apart,
    all_wait p h k links (roots p ac forms h links fr frs st i s here f d is plainly made w this self there (λ makes'. unmade')) (carries p ac forms h links fr frs st i s here f d is plainly made w this self there (λ makes'. unmade')) (ways_go_on p (Some w) frs (length frs + 1) h k ways) old frs others
        (all_there p h ranges frs (All-tail (λ (x : Frame). LocalsInRange h x.locals) fr frs in')) (frames_ready p h k (moved_unfinished p ac forms h links fr frs st i s here f d is plainly made w this self there (λ makes'. unmade')) frs) (gifts in')
        (owners_kept p (Some w) frs (length frs + 1) h k ways (owners_go old covered) frs (omega arith) (gifts in') nowhere (λ n none. none)) waits,
    store_below p h k w f (v p ac forms h links fr frs st i s here f d is plainly made w this self there (λ makes'. unmade')) (back p ac forms h links fr frs st i s here f d is plainly made w this self there (λ makes'. unmade')) (length frs + 1) below,
  )
    where
      inside : HoldsThere p h fr
      inside = holds_there p h ranges fr (All-head (λ (x : Frame). LocalsInRange h x.locals) fr frs in')

      apart : StaysApart p h k frs fr
      apart = constructor_apart p (Some w) frs (length frs + 1) h k ways (owners_go old covered) frs fr (omega arith) (gifts in') nowhere (λ n none. none) makes

  -- ---- what fields hold they own

  field_goes : (old : ℕ → Bool) → IsCovered p h gives_none renews_none old frs fr → (u : ℕ) (g : FieldId) → is_owning p g ≡ true → FieldGoes p h k u g
  field_goes old covered u g own = go (nat_eq u w) refl (nat_eq g.0 f.0) refl
    where
      new_one : u ≡ w → g ≡ f → (y : Object) → object_at k u ≡ Some y → IsFieldOfClass p g y.class × (y.finished ≡ true → OwnsNow p k u y g)
      new_one here' same y now =
          let x = back p ac forms h links fr frs st i s here f d is plainly made w this self there (λ makes'. unmade') u y now in
          let goes = stored_goes_on p h w f (v p ac forms h links fr frs st i s here f d is plainly made w this self there (λ makes'. unmade')) u x.0 y x.2 in
          let one = one_object x.0 self (object_at h u) x.1 (ap (object_at h) here' ∙ there) in (
            (class.0, ap (field_at p) same ∙ class.1, class.2 ∙ sym (goes.class ∙ ap (λ (z : Object). z.class) one)),
            λ done. absurd (true≢false (sym done ∙ goes.finished ∙ ap (λ (z : Object). z.finished) one ∙ unmade')),
          )

      other : ((u ≡ w) × (g ≡ f) → ⊥) → FieldGoes p h k u g
      other apart = inl (inl (holds_other' p ac forms h links fr frs st i s here f d is plainly made w this self there (λ makes'. unmade') u g apart), keeps_owning p ac forms h links fr frs st i s here f d is plainly made w this self there (λ makes'. unmade') old covered u g apart)

      go : (b : Bool) → nat_eq u w ≡ b → (c : Bool) → nat_eq g.0 f.0 ≡ c → FieldGoes p h k u g
      go true here' true same = inr (new_one (eqb-true u w here') (ap (λ (n : ℕ). (let z : FieldId = record { 0 = n } in z)) (eqb-true g.0 f.0 same)))
      go true here' false off = other (λ is'. true≢false (sym (eq-eqb g.0 f.0 (ap (λ (z : FieldId). z.0) is'.1)) ∙ off))
      go false apart c same = other (λ is'. true≢false (sym (eq-eqb u w is'.0) ∙ apart))

  made_owns : AreCovered p h (fr ∷ frs) → FieldsOwn p h → FieldsOwn p k
  made_owns (old, is_old, covered, waits, below) held =
      fields_own_on p h k links ranges have.unfinished (field_goes old covered) (carried_as_before p h k (carries p ac forms h links fr frs st i s here f d is plainly made w this self there (λ makes'. unmade')) (holders_were p (Some w) frs (length frs + 1) h k ways (owners_go old covered))) (inl (roots p ac forms h links fr frs st i s here f d is plainly made w this self there (λ makes'. unmade')))
      (none_finished p h k (moved_unfinished p ac forms h links fr frs st i s here f d is plainly made w this self there (λ makes'. unmade'))) held

  -- of what frames make, the fields own what they hold
  none_below : (gs : List Frame) → RunOnOthers w gs → ArePlain p w (is_alias_constructor p st.number ≡ false) gs
  none_below [] others = tt
  none_below (x ∷ xs) others = ((λ maker. absurd (others.0 maker.runs)), none_below xs others.1)

  made_makers : LocalsIn h (fr ∷ frs) → AreCovered p h (fr ∷ frs) → MakersOwn p h (fr ∷ frs) → MakersOwn p k (fr ∷ frs)
  made_makers in' (old, is_old, covered, waits, below) = makers_own p ac forms h links fr frs st i s here f d is plainly made w this self there (λ makes'. unmade') old covered (holds_there p h ranges fr (All-head (λ (x : Frame). LocalsInRange h x.locals) fr frs in'))
      (holders_were p (Some w) frs (length frs + 1) h k ways (owners_go old covered)) ranges (fr ∷ frs) (plain, none_below frs nowhere)
    where
      plain : IsMadeBy p fr w → is_alias_constructor p st.number ≡ false
      plain maker = go (is_alias_constructor p st.number) refl
        where
          go : (b : Bool) → is_alias_constructor p st.number ≡ b → is_alias_constructor p st.number ≡ false
          go false none = none
          go true aliased = absurd (true≢false (sym (ap (λ (m : Option Method). is_present (alias_in m)) (sym (method_here p fr st)) ∙ (and_parts (is_constructor p st.number) (is_present (alias_position p st.number)) aliased).1)
              ∙ not-true (is_present (alias_in (method_at p fr.method))) (and_parts (constructs (method_at p fr.method)) (not (is_present (alias_in (method_at p fr.method)))) maker.alone).1))

  -- ---- the heap of the step

  pub new_joined : LocalsIn h (fr ∷ frs) → AreCovered p h (fr ∷ frs) → FieldsOwn p h → MakersOwn p h (fr ∷ frs) → IsJoined p h (store_heap p ac forms h links fr frs st i s here f d is plainly made w this self there (λ makes'. unmade')) (after p ac forms h links fr frs st i s here f d is plainly made w this self there (λ makes'. unmade')) frs
  new_joined in' all held makers = subst (λ (j : HeapContents). IsJoined p h j (after p ac forms h links fr frs st i s here f d is plainly made w this self there (λ makes'. unmade')) frs) (sym same_heap) (record {
    covered' = made_covered in' all;
    held = made_held_before in';
    owns = made_owns all held;
    makers = makes_on p k fr (after p ac forms h links fr frs st i s here f d is plainly made w this self there (λ makes'. unmade')) frs refl refl (made_makers in' all makers);
    were = moved_linked p ac forms h links fr frs st i s here f d is plainly made w this self there (λ makes'. unmade');
    classes = moved_classes p ac forms h links fr frs st i s here f d is plainly made w this self there (λ makes'. unmade');
    nobody = moved_nobody p ac forms h links fr frs st i s here f d is plainly made w this self there (λ makes'. unmade') have.unfinished;
    unready = moved_unfinished p ac forms h links fr frs st i s here f d is plainly made w this self there (λ makes'. unmade');
  })

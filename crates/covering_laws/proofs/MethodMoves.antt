-- A method that creates the obligation of `this` anew stores into an owning field of `this`, which is finished and lent to it: what the field held is given up, and what the frame owned moves into it. (What is left
-- is the reset of `this`, and of what holds it.)
use Rattle.covering_laws.specs.Sight.{AllActInSight}
use Rattle.std.specs.Prelude.{◌&&◌, not}
use Rattle.std.proofs.Common.{◌≡◌, ◌⊎◌, inl, inr, ℕ, ◌+◌, Bool, true, false, Some, None, List, ◌∷◌, length, slice_get, nat_eq, eq-eqb, eqb-true, refl, sym, ap, ◌∙◌, subst, true≢false, arith, Option, [], not, ◌&&◌}
use Rattle.std.proofs.lemmas.List.Elements.{All-head, All-tail}
use Rattle.program_model.specs.declared.kinds.FieldId.{FieldId}
use Rattle.program_model.specs.declared.program.Field.{Field}
use Rattle.program_model.specs.declared.program.Program.{Program}
use Rattle.program_model.specs.Lookups.{field_at, method_at}
use Rattle.ledger_obligations.specs.Bodies.{constructs, alias_position, is_constructor, is_alias_constructor, reset_in}
use Rattle.ledger_obligations.specs.MustCallSets.{is_heavy_class}
use Rattle.ownership_rules.specs.Signatures.{type_of_field, is_present, is_position}
use Rattle.java_control.specs.Control.{Step}
use Rattle.java_control.specs.Owned.{is_owning}
use Rattle.control_actions.specs.declared.place.Place.TheVariants as places
use Rattle.control_actions.specs.declared.action.Action.TheVariants as actions
use Rattle.value_laws.specs.Accept.{Accept}
use Rattle.ledger_state.specs.Contents.{HeapContents}
use Rattle.ledger_state.specs.Fields.{field_value}
use Rattle.ledger_state.specs.Heaps.{object_at, unfinished, root_of}
use Rattle.ledger_state.specs.declared.entry.Owner.TheVariants as owners
use Rattle.ledger_state.specs.declared.object.Object.{Object}
use Rattle.ledger_state.specs.declared.value.Value.{Value}
use Rattle.ledger_state.specs.declared.value.Value.TheVariants as values
use Rattle.ledger_obligations.specs.Obligations as obligations
use Rattle.value_laws.specs.Configuration.{Frame}
use Rattle.value_laws.specs.Choosing.{frame_steps}
use Rattle.value_laws.specs.Chains.{HaveEnds}
use Rattle.value_laws.specs.Heaps.{HasEarlierLinks}
use Rattle.value_laws.specs.Holders.{HoldersAreUnlinked}
use Rattle.value_laws.specs.Agreement.{Stands, AllStand, IsCalledFrom}
use Rattle.value_laws.specs.PlainForms.{HasPlainForms, StoresPlainly}
use Rattle.value_laws.proofs.StoredObjects.{stored_goes_on}
use Rattle.value_laws.specs.Stores.{IsMovedIn}
use Rattle.value_laws.proofs.RootLaws.{one_object}
use Rattle.value_laws.specs.FieldContents.{FieldsHold, FieldsOwn, IsFieldOfClass, MakersOwn}
use Rattle.value_laws.specs.PlaceFacts.{IsCovered, gives_none, renews_none, is_heavy_in, OwesOrHolds, owned, IsOld, AreWaiting, OwnersBelow, leaves_all, takes_nothing}
use Rattle.value_laws.specs.Ranges.{FieldsInRange, LocalsInRange}
use Rattle.covering_laws.proofs.LocalSteps.{LocalsIn, all_there, holds_there}
use Rattle.covering_laws.proofs.FieldOwners.{FieldGoes, carried_as_before, fields_own_on, none_finished, OwnsNow}
use Rattle.covering_laws.proofs.Gifts.{all_keep_gifts}
use Rattle.covering_laws.proofs.Owners.{AllKeepGifts, StaysApart, old_kept, AllKeepOwners}
use Rattle.covering_laws.proofs.OwnerSteps.{movable_owes}
use Rattle.covering_laws.proofs.StoreOwners.{store_below}
use Rattle.covering_laws.proofs.Waiting.{all_ready, frames_ready, old_as, HoldsThere, this_was, keeps_roots, AllGoOn, AllKeepSaid, all_keep_roots, all_wait_said, value_root}
use Rattle.covering_laws.proofs.StoreMoves.{after, back, bound, carries, forth, holds_other', keeps_owning, moved, moved_unfinished, roots, top_stores, v, holds_here', plain_from, room, ArePlain, makers_own, value_owned}
use Rattle.std.proofs.lemmas.Bool.{and_parts, not-true}
use Rattle.program_model.specs.declared.kinds.ClassId.{ClassId}
use Rattle.program_model.specs.declared.program.Method.{Method}
use Rattle.value_laws.specs.Frames.{HaveTargets}
use Rattle.covering_laws.proofs.MovedInto.{moves_into}
use Rattle.covering_laws.proofs.RenewingFrames.{all_renew_in_hand}
use Rattle.covering_laws.proofs.ReopenedStores.{owners_kept_below, stays_apart_here}
use Rattle.covering_laws.proofs.PlacesBelow.{all_keep_said_below}
use Rattle.covering_laws.proofs.StoringThis.{IsReopened}
use Rattle.covering_laws.specs.Texts.{TextsAreLight}
use Rattle.covering_laws.proofs.Following.{method_here}
use Rattle.value_laws.proofs.ValueTypeLaws.{stored_value_is_no_object}
use Rattle.value_laws.specs.Types.{KeepsTypes, is_text}
use Rattle.program_model.specs.Validity.{is_class_type}
use Rattle.value_laws.proofs.SettledFrames.{AllRenewInHand, IsOnTheWay, way_begins}
use Rattle.value_laws.proofs.StoreWays.{AllRenewAlike, StoresInto}
use Rattle.value_laws.specs.Renewing.{reopens}
use Rattle.program_model.specs.declared.kinds.VType.{VType}
use Rattle.program_model.specs.declared.kinds.VType.TheVariants as kinds
use Rattle.value_laws.specs.Operands as operand_types
use Rattle.value_laws.specs.Operands.{NoObject}

-- a method that creates the obligation of `this` anew is no constructor
pub opens_no_constructor : (m : Option Method) → reopens m ≡ true → constructs m ≡ false
opens_no_constructor m opens = not-true (constructs m) (and_parts (not (constructs m)) (is_position (reset_in m) 0) opens).0

-- and does not leave all as it is
opens_leaves_not : (p : Program) (m : Option Method) → reopens m ≡ true → leaves_all p m ≡ false
opens_leaves_not p m opens = go (leaves_all p m) refl
  where
    present : (r : Option ℕ) → is_position r 0 ≡ true → is_present r ≡ true
    present None never = absurd (true≢false (sym never))
    present (Some k) at = refl

    go : (b : Bool) → leaves_all p m ≡ b → leaves_all p m ≡ false
    go false none = none
    go true leaves = absurd (true≢false (sym (present (reset_in m) (and_parts (not (constructs m)) (is_position (reset_in m) 0) opens).1)
        ∙ not-true (is_present (reset_in m)) (and_parts (not (constructs m) && takes_nothing p m) (not (is_present (reset_in m))) leaves).1))

module _ (p : Program) (ac : Accept p) (forms : HasPlainForms p) (h : HeapContents) (links : HasEarlierLinks h) (ranges : FieldsInRange h) (fr : Frame) (frs : List Frame) (st : Stands p fr) (standing : AllStand p frs) (stacked : IsCalledFrom p h fr frs)
    (targets : HaveTargets p frs) (hold : FieldsHold p (fr ∷ frs) h) (i : ℕ) (s : Step) (here : slice_get (frame_steps p fr) i ≡ Some s) (f : FieldId) (d : ℕ) (is : s.action ≡ actions.PutOwn f d) (plainly : StoresPlainly p (method_at p fr.method) f) (made : Value) (w : ℕ)
    (this : fr.locals.this ≡ values.Object w) (self : Object) (there : object_at h w ≡ Some self) (reopened : IsReopened p h frs fr w self) (class : IsFieldOfClass p f self.class) (have : HaveEnds h) (unlinked : HoldersAreUnlinked (is_heavy_class p) h)
    (in' : LocalsIn h (fr ∷ frs)) (owned : FieldsOwn p h) (texts : TextsAreLight p h) (types : KeepsTypes (is_text p h) p fr) (old : ℕ → Bool) (is_old : IsOld p h frs fr old) (covered : IsCovered p h gives_none renews_none old frs fr)
    (waits : AreWaiting p h old frs) (below : OwnersBelow h (length frs + 1)) (sights : AllActInSight p h frs) where
  plain_method : constructs (method_at p fr.method) ≡ false
  plain_method = opens_no_constructor (method_at p fr.method) reopened.opens

  pub unmade : constructs (method_at p fr.method) ≡ true → self.finished ≡ false
  unmade makes = absurd (true≢false (sym makes ∙ plain_method))

  pub not_aliased : is_alias_constructor p st.number ≡ false
  not_aliased = go (is_alias_constructor p st.number) refl
    where
      go : (b : Bool) → is_alias_constructor p st.number ≡ b → is_alias_constructor p st.number ≡ false
      go false none = none
      go true aliased = absurd (true≢false (sym (ap constructs (sym (method_here p fr st)) ∙ (and_parts (is_constructor p st.number) (is_present (alias_position p st.number)) aliased).0) ∙ plain_method))

  abbrev pub k : HeapContents
  k = moved p ac forms h links fr frs st i s here f d is plainly made w this self there unmade

  abbrev pub n : ℕ
  n = length frs

  -- what moves in is the frame's, or the field owned it
  pub mine : (o : ℕ) (x : Object) → object_at h o ≡ Some x → IsMovedIn p h f (v p ac forms h links fr frs st i s here f d is plainly made w this self there unmade) o x → is_heavy_class p x.class ≡ true → (x.owner ≡ owners.Frame (n + 1)) ⊎ (x.owner ≡ owners.Field w f)
  mine o x at into heavy = plain_from p ac forms h links fr frs st i s here f d is plainly made w this self there unmade old covered not_aliased o x at heavy (inl (movable_owes p (obligations.type_of_field (field_at p f)) x into.may)) into

  pub stores_into : StoresInto p h k n w
  stores_into = moves_into p h have w f (bound p ac forms h links fr frs st i s here f d is plainly made w this self there unmade) (v p ac forms h links fr frs st i s here f d is plainly made w this self there unmade) n mine

  pub bears : OwesOrHolds p h w self
  bears = inr (inr reopened.stores)

  others_in : LocalsIn h frs
  others_in = All-tail (λ (x : Frame). LocalsInRange h x.locals) fr frs in'

  pub all_renew : AllRenewInHand p h frs
  all_renew = all_renew_in_hand p ac forms h have links owned unlinked fr frs standing targets stacked others_in old waits hold.unfinished.1 sights

  pub gifts : AllKeepGifts p h k frs
  gifts = all_keep_gifts p h k (roots p ac forms h links fr frs st i s here f d is plainly made w this self there unmade) frs others_in

  alike_from : (gs : List Frame) → AllRenewInHand p h gs → AllKeepGifts p h k gs → AllRenewAlike p h k have unlinked n w self there reopened.heavy reopened.single bears stores_into gs
  alike_from [] all gives = tt
  alike_from (g ∷ gs) all gives = (record { alike = λ o. (gives.0 o).1; one = (all.0).one }, alike_from gs all.1 gives.1)

  alike : AllRenewAlike p h k have unlinked n w self there reopened.heavy reopened.single bears stores_into frs
  alike = alike_from frs all_renew gifts

  way : IsOnTheWay p h have unlinked w self there reopened.heavy reopened.single bears frs
  way = way_begins p h have unlinked w self there reopened.heavy reopened.single bears frs reopened.lent

  pub apart : StaysApart p h k frs fr
  apart = stays_apart_here p h k have unlinked n w self there reopened.heavy reopened.single bears reopened.stores stores_into frs fr (omega arith) hold.new.1 hold.unfinished.1 alike all_renew way (λ runs. opens_leaves_not p (method_at p fr.method) reopened.opens)

  kept : AllKeepOwners p h k frs
  kept = owners_kept_below p h k have unlinked n w self there reopened.heavy reopened.single bears reopened.stores stores_into frs (omega arith) hold.new.1 hold.unfinished.1 alike all_renew way

  other_fields : (u : ℕ) (g : FieldId) → (u ≡ w → g ≡ f → ⊥) → field_value p k u g ≡ field_value p h u g
  other_fields u g other = holds_other' p ac forms h links fr frs st i s here f d is plainly made w this self there unmade u g (λ same. other same.0 same.1)

  of_field : (x : Field) → field_at p f ≡ Some x → class.0 ≡ x
  of_field x known = let both : Some class.0 ≡ Some x = sym class.1 ∙ known in (let one : class.0 ≡ x = cc in one)

  -- an object with an obligation in the field is of a class type
  typed : (x : Field) → field_at p f ≡ Some x → (o : ℕ) (z : Object) → root_of k (field_value p k w f) ≡ Some o → object_at k o ≡ Some z → is_heavy_class p z.class ≡ true → (c : ClassId) × (x.vtype ≡ kinds.Obj c)
  typed x known o z root at heavy = by x.vtype refl
    where
      root_before : root_of h (v p ac forms h links fr frs st i s here f d is plainly made w this self there unmade) ≡ Some o
      root_before = sym (value_root h k (roots p ac forms h links fr frs st i s here f d is plainly made w this self there unmade) (v p ac forms h links fr frs st i s here f d is plainly made w this self there unmade) (holds_there p h ranges fr (All-head (λ (u : Frame). LocalsInRange h u.locals) fr frs in') (places.Temp d) (room p ac forms h links fr frs st i s here f d is plainly made w this self there unmade old covered))) ∙ ap (root_of k) (sym (holds_here' p ac forms h links fr frs st i s here f d is plainly made w this self there unmade)) ∙ root

      no_object : NoObject (Some x.vtype) → ⊥
      no_object none =
          let u = back p ac forms h links fr frs st i s here f d is plainly made w this self there unmade o z at in
          let class' = (stored_goes_on p h w f (v p ac forms h links fr frs st i s here f d is plainly made w this self there unmade) o u.0 z u.2).class in
          true≢false (sym (ap (is_heavy_class p) (sym class') ∙ heavy)
          ∙ texts (v p ac forms h links fr frs st i s here f d is plainly made w this self there unmade) o u.0 (stored_value_is_no_object (is_text p h) p ac fr types i s f d here is (subst (λ (t : Option Field). NoObject (operand_types.type_of_field t)) (sym known) none)) root_before u.1)

      by : (t : VType) → x.vtype ≡ t → (c : ClassId) × (x.vtype ≡ kinds.Obj c)
      by (kinds.Obj c) is' = (c, is')
      by (kinds.Primitive q) is' = absurd (no_object (ap is_class_type is'))
      by kinds.Str is' = absurd (no_object (ap is_class_type is'))
      by (kinds.Arr e) is' = absurd (no_object (ap is_class_type is'))
      by kinds.NullType is' = absurd (no_object (ap is_class_type is'))

  said : AllKeepSaid p h k frs
  said = all_keep_said_below p ac forms h k have unlinked w f self there reopened.heavy reopened.single bears (λ x known. sym class.2 ∙ ap (λ (u : Field). u.class) (of_field x known)) other_fields typed frs old standing hold.new.1 hold.unfinished.1
      all_renew way waits

  goes : AllGoOn p h k
  goes o x at = let y = forth p ac forms h links fr frs st i s here f d is plainly made w this self there unmade o x at in (y.0, y.1, y.2.class, λ done. y.2.finished ∙ done)

  inside : HoldsThere p h fr
  inside = holds_there p h ranges fr (All-head (λ (x : Frame). LocalsInRange h x.locals) fr frs in')

  -- what the frames hold, before the reset
  pub moved_old : IsOld p k frs (after p ac forms h links fr frs st i s here f d is plainly made w this self there unmade) old
  moved_old = old_as p k old frs fr (after p ac forms h links fr frs st i s here f d is plainly made w this self there unmade) refl refl
      (old_kept p h k old frs fr apart goes is_old (this_was p h k fr (keeps_roots p h k (roots p ac forms h links fr frs st i s here f d is plainly made w this self there unmade) fr inside) inside (all_ready p h k (moved_unfinished p ac forms h links fr frs st i s here f d is plainly made w this self there unmade) fr) (carries p ac forms h links fr frs st i s here f d is plainly made w this self there unmade)))

  pub moved_covered : IsCovered p k gives_none renews_none old frs (after p ac forms h links fr frs st i s here f d is plainly made w this self there unmade)
  moved_covered = top_stores p ac forms h links fr frs st i s here f d is plainly made w this self there unmade old covered is_old inside apart

  pub moved_waits : AreWaiting p k old frs
  moved_waits = all_wait_said p h k links (carries p ac forms h links fr frs st i s here f d is plainly made w this self there unmade) goes old frs (all_keep_roots p h k (roots p ac forms h links fr frs st i s here f d is plainly made w this self there unmade) frs (all_there p h ranges frs others_in)) said (all_there p h ranges frs others_in) (frames_ready p h k (moved_unfinished p ac forms h links fr frs st i s here f d is plainly made w this self there unmade) frs) gifts kept waits

  pub moved_below : OwnersBelow k (n + 1)
  moved_below = store_below p h k w f (v p ac forms h links fr frs st i s here f d is plainly made w this self there unmade) (back p ac forms h links fr frs st i s here f d is plainly made w this self there unmade) (n + 1) below

  -- ---- what fields hold they own

  field_goes : (u : ℕ) (g : FieldId) → is_owning p g ≡ true → FieldGoes p h k u g
  field_goes u g own = go (nat_eq u w) refl (nat_eq g.0 f.0) refl
    where
      new_one : u ≡ w → g ≡ f → (y : Object) → object_at k u ≡ Some y → IsFieldOfClass p g y.class × (y.finished ≡ true → OwnsNow p k u y g)
      new_one here' same y now =
          let x = back p ac forms h links fr frs st i s here f d is plainly made w this self there unmade u y now in
          let on = stored_goes_on p h w f (v p ac forms h links fr frs st i s here f d is plainly made w this self there unmade) u x.0 y x.2 in
          let one = one_object x.0 self (object_at h u) x.1 (ap (object_at h) here' ∙ there) in (
            (class.0, ap (field_at p) same ∙ class.1, class.2 ∙ sym (on.class ∙ ap (λ (z : Object). z.class) one)),
            λ done heavy o z root at wide owes. inl (takes (ap (is_heavy_in p) (ap Some (sym same)) ∙ heavy) o z (ap (root_of k) (ap (field_value p k w) (sym same) ∙ ap (λ (m : ℕ). field_value p k m g) (sym here')) ∙ root) at wide owes
                ∙ ap (λ (m : ℕ). owners.Field m f) (sym here') ∙ ap (owners.Field u) (sym same)),
          )
        where
          takes : is_heavy_in p (Some f) ≡ true → (o : ℕ) (z : Object) → root_of k (field_value p k w f) ≡ Some o → object_at k o ≡ Some z → is_heavy_class p z.class ≡ true → OwesOrHolds p k o z → z.owner ≡ owners.Field w f
          takes heavy o z root at wide owes = value_owned p ac forms h links fr frs st i s here f d is plainly made w this self there unmade old covered inside apart.holders o z at wide owes not_aliased heavy root

      other : ((u ≡ w) × (g ≡ f) → ⊥) → FieldGoes p h k u g
      other apart' = inl (inl (holds_other' p ac forms h links fr frs st i s here f d is plainly made w this self there unmade u g apart'), keeps_owning p ac forms h links fr frs st i s here f d is plainly made w this self there unmade old covered u g apart')

      go : (b : Bool) → nat_eq u w ≡ b → (c : Bool) → nat_eq g.0 f.0 ≡ c → FieldGoes p h k u g
      go true here' true same = inr (new_one (eqb-true u w here') (ap (λ (m : ℕ). (let z : FieldId = record { 0 = m } in z)) (eqb-true g.0 f.0 same)))
      go true here' false off = other (λ is'. true≢false (sym (eq-eqb g.0 f.0 (ap (λ (z : FieldId). z.0) is'.1)) ∙ off))
      go false off c same = other (λ is'. true≢false (sym (eq-eqb u w is'.0) ∙ off))

  pub moved_owns : FieldsOwn p k
  moved_owns = fields_own_on p h k links ranges have.unfinished field_goes (carried_as_before p h k (carries p ac forms h links fr frs st i s here f d is plainly made w this self there unmade) apart.holders) (inl (roots p ac forms h links fr frs st i s here f d is plainly made w this self there unmade)) (none_finished p h k (moved_unfinished p ac forms h links fr frs st i s here f d is plainly made w this self there unmade)) owned

  -- so it is with what frames make
  all_plain : (gs : List Frame) → ArePlain p w (is_alias_constructor p st.number ≡ false) gs
  all_plain [] = tt
  all_plain (x ∷ xs) = ((λ maker. not_aliased), all_plain xs)

  pub moved_makers : MakersOwn p h (fr ∷ frs) → MakersOwn p k (fr ∷ frs)
  moved_makers = makers_own p ac forms h links fr frs st i s here f d is plainly made w this self there unmade old covered inside apart.holders ranges (fr ∷ frs) (all_plain (fr ∷ frs))

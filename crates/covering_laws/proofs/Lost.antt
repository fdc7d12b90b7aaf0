-- At the end of a step the heap loses what no place holds: only owners change, so what the places of frames hold stays covered.
use Rattle.std.specs.Prelude.{not, ◌&&◌, if◌then◌else◌, option_map}
use Rattle.std.specs.List.{list_any}
use Rattle.std.proofs.lemmas.Bool.{or_left, or_right}
use Rattle.std.proofs.Common.{Bool, List, None, Option, Some, [], ap, arith, eq-eqb, eqb-true, false, inl, inr, length, nat_eq, refl, slice_get, subst, suc, sym, true, true≢false, zero, ℕ, ◌+◌, ◌++◌, ◌≤◌, ◌∙◌, ◌∷◌, ◌≡◌, ◌⊎◌}
use Rattle.rlc_base.proofs.SetLaws.{within_self}
use Rattle.program_model.specs.declared.kinds.ClassId.{ClassId}
use Rattle.program_model.specs.declared.program.Program.{Program}
use Rattle.control_actions.specs.declared.place.Place.{Place}
use Rattle.control_actions.specs.declared.place.Place.TheVariants as places
use Rattle.ledger_obligations.specs.MustCallSets.{is_heavy_class}
use Rattle.ledger_state.specs.Contents.{HeapContents}
use Rattle.ledger_state.specs.Fields.{field_value}
use Rattle.ledger_state.specs.Heaps.{object_at, root_of, same_root}
use Rattle.ledger_state.specs.Locals as locals
use Rattle.ledger_state.specs.Locals.{temp_value, variable_value, temp_in}
use Rattle.ledger_state.specs.Values.{value_or_nothing}
use Rattle.ledger_state.specs.declared.entry.Owner.{Owner}
use Rattle.ledger_state.specs.declared.entry.Owner.TheVariants as owners
use Rattle.ledger_state.specs.declared.locals.Locals.{Locals}
use Rattle.ledger_state.specs.declared.object.Object.{Object}
use Rattle.ledger_state.specs.declared.value.Value.{Value}
use Rattle.ledger_state.specs.declared.value.Value.TheVariants as values
use Rattle.value_laws.specs.Places.{place_value}
use Rattle.ledger_obligations.specs.Obligations.{with_owner, is_held_by}
use Rattle.ledger_obligations.specs.Obligations.{end_frame, given_up, given_up_by_frame, held_at, holds, is_frame, is_library_owner, is_unmet, lose, lost_object, owner_holds}
use Rattle.ledger_steps.specs.LedgerCallsCalls.{operand_of, depth_at}
use Rattle.value_laws.specs.Configuration.{Frame, held_by}
use Rattle.value_laws.specs.Heaps.{GoesOn, IsKeptOr}
use Rattle.value_laws.proofs.RootLaws.{one_object}
use Rattle.value_laws.proofs.EndLaws.{changed_back, frame_back, kept_goes_on}
use Rattle.value_laws.proofs.HeapLaws.{root_of_changed, changed_object_at-object}
use Rattle.value_laws.specs.HeapAnew.{is_field_owner}
use Rattle.value_laws.specs.Holders.{IsComparable, IsWithin, UnfinishedAreUnowned, by_field, itself}
use Rattle.value_laws.specs.PlaceFacts.{AreCovered, AreWaiting, EndsBelow, IsCovered, IsHolder, IsSpared, OwesOrHolds, OwnersBelow, gives_none, is_field_place, is_frame_below, is_frame_from, is_given, may_owe, renews_none, IsAnswered, IsOwnedBelow, IsOld, MayStore, is_given_up}
use Rattle.value_laws.specs.FieldContents.{FieldsOwn, MakersOwn}
use Rattle.covering_laws.proofs.FieldOwners.{fields_own_as}
use Rattle.covering_laws.proofs.Gifts.{gifts_same}
use Rattle.covering_laws.proofs.OwnerSteps.{frame_is, given_up_free}
use Rattle.covering_laws.proofs.Owners.{KeepsGifts, KeepsOwn, KeepsOwners, StaysApart, old_kept, ThisWas}
use Rattle.covering_laws.proofs.Waiting.{AllGoOn, AllHeldBefore, IsCarried, KeepsReady, KeepsUnfinished, bore_before, given_alike, reread_alike, same_place, stays_covered}
use Rattle.covering_laws.proofs.LinkedExceptions.{LinkedWere}
use Rattle.covering_laws.proofs.GivenAway.{at_any}
use Rattle.value_laws.specs.Renewing.{HasOwningField, IsLentFrom, IsWhole, is_renewed, is_reread, renews}
use Rattle.value_laws.proofs.Readings.{renewed_operand}
use Rattle.java_control.specs.Control.{Step}
use Rattle.program_model.specs.declared.kinds.FieldId.{FieldId}
use Rattle.value_laws.specs.Choosing.{frame_steps}

-- ---- what a frame holds

any_in_front : {X : Type 0} (f : X → Bool) (xs ys : List X) (i : ℕ) (x : X) → slice_get xs i ≡ Some x → f x ≡ true → list_any f (xs ++ ys) ≡ true
any_in_front f [] ys i x at is = absurd (no_element i x at)
  where
    no_element : {X : Type 0} (n : ℕ) (z : X) → slice_get [] n ≡ Some z → ⊥
    no_element zero z none = let never : None ≡ Some z = none in cc
    no_element (suc n) z none = let never : None ≡ Some z = none in cc
any_in_front f (z ∷ xs) ys zero x at is = or_left (f z) (list_any f (xs ++ ys)) (ap f (let both : Some z ≡ Some x = at in (let one : z ≡ x = cc in one)) ∙ is)
any_in_front f (z ∷ xs) ys (suc i) x at is = or_right (f z) (list_any f (xs ++ ys)) (any_in_front f xs ys i x at is)

any_behind : {X : Type 0} (f : X → Bool) (xs ys : List X) (i : ℕ) (x : X) → slice_get ys i ≡ Some x → f x ≡ true → list_any f (xs ++ ys) ≡ true
any_behind f [] [] i x at is = any_in_front f [] [] i x at is
any_behind f [] (y ∷ ys) zero x at is = or_left (f y) (list_any f ys) (ap f (let both : Some y ≡ Some x = at in (let one : y ≡ x = cc in one)) ∙ is)
any_behind f [] (y ∷ ys) (suc i) x at is = or_right (f y) (list_any f ys) (any_behind f [] ys i x at is)
any_behind f (z ∷ xs) ys i x at is = or_right (f z) (list_any f (xs ++ ys)) (any_behind f xs ys i x at is)

-- the object that a variable or a temp holds is held
held_value : (k : HeapContents) (l : Locals) (o : ℕ) (v : Value) → ((i : ℕ) × (v ≡ variable_value l i)) ⊎ ((d : ℕ) × (v ≡ temp_value l d)) → root_of k v ≡ Some o → holds k (locals.held l) o ≡ true
held_value k l o v (inl (i, is)) root' = go (slice_get l.variables i) refl (ap (root_of k) (sym is) ∙ root')
  where
    go : (x : Option Value) → slice_get l.variables i ≡ x → root_of k (value_or_nothing x) ≡ Some o → holds k (locals.held l) o ≡ true
    go None at none = absurd (let never : ◌≡◌ {A = Option ℕ} None (Some o) = none in cc)
    go (Some w) at held = or_right (same_root (root_of k l.this) (Some o)) (list_any (λ (u : Value). same_root (root_of k u) (Some o)) (l.variables ++ l.temps))
        (any_in_front (λ (u : Value). same_root (root_of k u) (Some o)) l.variables l.temps i w at (ap (λ (r : Option ℕ). same_root r (Some o)) held ∙ eq-eqb o o refl))
held_value k l o v (inr (d, is)) root' = go (slice_get l.temps d) refl (ap (root_of k) (sym is) ∙ root')
  where
    go : (x : Option Value) → slice_get l.temps d ≡ x → root_of k (value_or_nothing x) ≡ Some o → holds k (locals.held l) o ≡ true
    go None at none = absurd (let never : ◌≡◌ {A = Option ℕ} None (Some o) = none in cc)
    go (Some w) at held = or_right (same_root (root_of k l.this) (Some o)) (list_any (λ (u : Value). same_root (root_of k u) (Some o)) (l.variables ++ l.temps))
        (any_behind (λ (u : Value). same_root (root_of k u) (Some o)) l.variables l.temps d w at (ap (λ (r : Option ℕ). same_root r (Some o)) held ∙ eq-eqb o o refl))

held_count : (frs : List Frame) → length (held_by frs) ≡ length frs
held_count [] = refl
held_count (fr ∷ frs) = ap suc (held_count frs)

module _ (p : Program) (k : HeapContents) (held : List (List Value)) where
  abbrev left : HeapContents
  left = lose held k

  still : (n : ℕ) (x : Object) → GoesOn x (lost_object k held n x)
  still n x = go (is_unmet x && not (owner_holds k held x.owner n))
    where
      go : (b : Bool) → GoesOn x (if b then with_owner owners.Lost x else x)
      go true = record { class = refl; link = refl; finished = refl; must = refl; called = within_self x.called }
      go false = record { class = refl; link = refl; finished = refl; must = refl; called = within_self x.called }

  pub was_there : (n : ℕ) (y : Object) → object_at left n ≡ Some y → (x : Object) × (object_at k n ≡ Some x) × GoesOn x y
  was_there n y at = let x = changed_back (lost_object k held) k n y at in (x.0, x.1, subst (GoesOn x.0) x.2 (still n x.0))

  root_stays : (v : Value) → root_of left v ≡ root_of k v
  root_stays values.Nothing = refl
  root_stays (values.Object n) = ap Some (root_of_changed (lost_object k held) k n (λ j x. (still j x).link))
  root_stays v = refl

  pub lost_linked : LinkedWere k left
  lost_linked n y l at some = let x = was_there n y at in (x.0, x.1, sym x.2.link ∙ some, x.2.class)

  -- an object keeps its owner, or is lost where a frame was the owner
  owner_by : (n : ℕ) (x : Object) → (lost_object k held n x).owner ≡ x.owner ⊎ ((owner_holds k held x.owner n ≡ false) × ((lost_object k held n x).owner ≡ owners.Lost))
  owner_by n x = go (is_unmet x) (owner_holds k held x.owner n) refl
    where
      go : (b c : Bool) → owner_holds k held x.owner n ≡ c → (if b && not c then with_owner owners.Lost x else x).owner ≡ x.owner ⊎ ((owner_holds k held x.owner n ≡ false) × ((if b && not c then with_owner owners.Lost x else x).owner ≡ owners.Lost))
      go true false none = inr (none, refl)
      go true true none = inl refl
      go false c none = inl refl

  owner_after : (n : ℕ) (x y : Object) → object_at k n ≡ Some x → object_at left n ≡ Some y → (y.owner ≡ x.owner) ⊎ ((owner_holds k held x.owner n ≡ false) × (y.owner ≡ owners.Lost))
  owner_after n x y before at =
      let z = changed_back (lost_object k held) k n y at in
      let same : z.0 ≡ x = (let both : Some z.0 ≡ Some x = sym z.1 ∙ before in (let one : z.0 ≡ x = cc in one)) in
      let is : y ≡ lost_object k held n x = subst (λ (u : Object). y ≡ lost_object k held n u) same (sym z.2) in
      elim (owner_by n x) [
        | inl stays ↦ inl (ap (λ (u : Object). u.owner) is ∙ stays)
        | inr lost ↦ inr (lost.0, ap (λ (u : Object). u.owner) is ∙ lost.1)
      ]

  library_still : (n : ℕ) (x y : Object) → object_at k n ≡ Some x → object_at left n ≡ Some y → is_library_owner x.owner ≡ true → is_library_owner y.owner ≡ true
  library_still n x y before at library = elim (owner_after n x y before at) [
    | inl same ↦ ap is_library_owner same ∙ library
    | inr lost ↦ absurd (true≢false (sym (held_by_library x.owner library) ∙ lost.0))
  ]
    where
      held_by_library : (a : Owner) → is_library_owner a ≡ true → owner_holds k held a n ≡ true
      held_by_library owners.Library is = refl
      held_by_library (owners.Frame j) is = absurd (true≢false (sym is))
      held_by_library (owners.Field w f) is = refl
      held_by_library owners.Released is = refl
      held_by_library owners.Lost is = refl
      held_by_library owners.Unowned is = refl

  -- what no frame from a position on owns, and what no field owns, stays so
  apart_still : (i n : ℕ) (x y : Object) → object_at k n ≡ Some x → object_at left n ≡ Some y → is_frame_from i x.owner ≡ false → is_frame_from i y.owner ≡ false
  apart_still i n x y before at none = elim (owner_after n x y before at) [ inl same ↦ ap (is_frame_from i) same ∙ none | inr lost ↦ ap (is_frame_from i) lost.1 ]

  -- what a field owns then it owned, and what it owned it owns
  owned_before : (n : ℕ) (x y : Object) → object_at k n ≡ Some x → object_at left n ≡ Some y → (w : ℕ) (f : FieldId) → y.owner ≡ owners.Field w f → x.owner ≡ owners.Field w f
  owned_before n x y before at w f own = elim (owner_after n x y before at) [ inl same ↦ sym same ∙ own | inr lost ↦ absurd (let never : owners.Lost ≡ owners.Field w f = sym lost.1 ∙ own in cc) ]

  low_still : (i n : ℕ) (x y : Object) → object_at k n ≡ Some x → object_at left n ≡ Some y → is_frame_below i y.owner ≡ true → is_frame_below i x.owner ≡ true
  low_still i n x y before at low = elim (owner_after n x y before at) [ inl same ↦ ap (is_frame_below i) (sym same) ∙ low | inr lost ↦ absurd (true≢false (sym low ∙ ap (is_frame_below i) lost.1)) ]

  pub lost_below : (i : ℕ) → OwnersBelow k i → OwnersBelow left i
  lost_below i below n y at = let x = was_there n y at in apart_still (i + 1) n x.0 y x.1 at (below n x.0 x.1)

  carried : (n : ℕ) (y : Object) → object_at left n ≡ Some y → IsCarried k n y
  carried n y at = let x = was_there n y at in (x.0, x.1, x.2.class, (λ done. (x.2, library_still n x.0 y x.1 at)))

  pub lost_unfinished : (h : HeapContents) (apart : ℕ → Type 0) → KeepsUnfinished h k apart → KeepsUnfinished h left apart
  lost_unfinished h apart keeps o x y other before now none = let z = was_there o y now in z.2.finished ∙ keeps o x z.0 other before z.1 none

  ready : (fr : Frame) → KeepsReady p k left fr
  ready fr q o x y small root before at heavy done =
      let z = was_there o y at in
      ap (λ (u : Object). u.finished) (let both : Some x ≡ Some z.0 = sym before ∙ z.1 in (let one : x ≡ z.0 = cc in one)) ∙ sym z.2.finished ∙ done

  pub lost_held_before : (frs : List Frame) → AllHeldBefore p k left frs
  lost_held_before [] = tt
  lost_held_before (fr ∷ frs) = (
    (λ q w y small is now heavy open'. sym (root_stays (place_value p k fr.method fr.locals q)) ∙ ap (root_of left) (sym (same_place p k left (λ u f own. refl) fr.method fr.locals q)) ∙ is),
    lost_held_before frs,
  )

  -- what a frame owns, and a place of it holds, is not lost
  not_lost : (gives : ℕ → ClassId → Bool) (j : ℕ) (fr : Frame) → held_at held j ≡ locals.held fr.locals → KeepsOwn p k left gives j fr
  not_lost gives j fr there q o x y small part root before at done heavy spared own = elim (owner_after o x y before at) [
    | inl same ↦ same ∙ own
    | inr lost ↦ absurd (true≢false (sym (ap (λ (vs : List Value). holds k vs o) there ∙ holds_it q part root) ∙ sym (ap (λ (a : Owner). owner_holds k held a o) own) ∙ lost.0))
  ]
    where
      holds_it : (z : Place) → is_field_place z ≡ false → root_of k (place_value p k fr.method fr.locals z) ≡ Some o → holds k (locals.held fr.locals) o ≡ true
      holds_it (places.Var i) none is = held_value k fr.locals o (variable_value fr.locals i) (inl (i, refl)) is
      holds_it (places.Temp d) none is = held_value k fr.locals o (temp_value fr.locals d) (inr (d, refl)) is
      holds_it places.This none is =
          or_left (same_root (root_of k fr.locals.this) (Some o)) (list_any (λ (v : Value). same_root (root_of k v) (Some o)) (fr.locals.variables ++ fr.locals.temps)) (ap (λ (r : Option ℕ). same_root r (Some o)) is ∙ eq-eqb o o refl)
      holds_it places.Super none is = absurd (let never : ◌≡◌ {A = Option ℕ} None (Some o) = is in cc)
      holds_it (places.Field n) none is = absurd (true≢false none)

  -- what each of these frames holds stands at its position
  abbrev pub AreHeld : List Frame → Type 0
  AreHeld [] = Unit {0}
  AreHeld (fr ∷ frs) = (held_at held (length frs + 1) ≡ locals.held fr.locals) × AreHeld frs

  -- a frame that waits for a call which creates an obligation anew holds the object
  holds_renewed : (fr : Frame) (o : ℕ) → is_renewed p k fr o ≡ true → holds k (locals.held fr.locals) o ≡ true
  holds_renewed fr o is =
      let t = at_any (λ (s : Step). renews p k fr.locals s.action o) (frame_steps p fr) is in
      let n = renewed_operand p k fr.locals t.1.action o t.3 in
      by_depth (depth_at t.1.action n.0) n.2
    where
      by_depth : (d : Option ℕ) → root_of k (temp_in fr.locals d) ≡ Some o → holds k (locals.held fr.locals) o ≡ true
      by_depth None is' = absurd (let never : ◌≡◌ {A = Option ℕ} None (Some o) = is' in cc)
      by_depth (Some d) is' = held_value k fr.locals o (temp_value fr.locals d) (inr (d, refl)) is'

  -- nor what a field owns
  field_kept : (o : ℕ) (x y : Object) → object_at k o ≡ Some x → object_at left o ≡ Some y → (w : ℕ) (f : FieldId) → x.owner ≡ owners.Field w f → y.owner ≡ x.owner
  field_kept o x y before at w f own = elim (owner_after o x y before at) [ inl same ↦ same | inr lost ↦ absurd (true≢false (sym (ap (λ (a : Owner). owner_holds k held a o) own) ∙ lost.0)) ]

  -- each object is there
  after : (n : ℕ) (x : Object) → object_at k n ≡ Some x → (y : Object) × (object_at left n ≡ Some y) × GoesOn x y
  after n x at = (lost_object k held n x, changed_object_at-object (lost_object k held) k n ∙ ap (option_map (lost_object k held n)) at, still n x)

  goes_on : AllGoOn p k left
  goes_on n x at = let y = after n x at in (y.0, y.1, y.2.class, λ done. y.2.finished ∙ done)

  -- the object before
  before_of : (n : ℕ) (x y : Object) → object_at k n ≡ Some x → object_at left n ≡ Some y → GoesOn x y
  before_of n x y before at = let z = was_there n y at in subst (λ (u : Object). GoesOn u y) (one_object z.0 x (object_at k n) z.1 before) z.2

  -- ---- ways up

  within_still : (o w : ℕ) → IsWithin k o w → IsWithin left o w
  within_still o w (itself n) = itself o
  within_still o w (by_field n v u f x at own on) = let y = after o x at in by_field o v w f y.0 y.1 (field_kept o x y.0 at y.1 v f own ∙ own) (within_still v w on)

  within_before : (o w : ℕ) → IsWithin left o w → IsWithin k o w
  within_before o w (itself n) = itself o
  within_before o w (by_field n v u f y at own on) = let x = was_there o y at in by_field o v w f x.0 x.1 (owned_before o x.0 y x.1 at v f own) (within_before v w on)

  comparable_then : (a b : ℕ) → IsComparable k a b → IsComparable left a b
  comparable_then a b (inl within) = inl (within_still a b within)
  comparable_then a b (inr within) = inr (within_still b a within)

  no_field : (a : Owner) → ((w : ℕ) (f : FieldId) → a ≡ owners.Field w f → ⊥) → is_field_owner a ≡ false
  no_field (owners.Field w f) none = absurd (none w f refl)
  no_field (owners.Frame i) none = refl
  no_field owners.Library none = refl
  no_field owners.Released none = refl
  no_field owners.Lost none = refl
  no_field owners.Unowned none = refl

  held_field : (a : Owner) (w : ℕ) (f : FieldId) → is_field_owner a ≡ false → a ≡ owners.Field w f → ⊥
  held_field a w f none is = true≢false (sym (ap is_field_owner is) ∙ none)

  ends_still : (frs : List Frame) (o : ℕ) → EndsBelow k frs o → EndsBelow left frs o
  ends_still frs o ends =
      let y = after ends.end ends.top.object ends.top.at in
      record {
        end = ends.end;
        top = record {
          within = within_still o ends.end ends.top.within;
          object = y.0;
          at = y.1;
          unheld = no_field y.0.owner (λ w f own. held_field ends.top.object.owner w f ends.top.unheld (owned_before ends.end ends.top.object y.0 ends.top.at y.1 w f own));
        };
        below = apart_still (length frs + 1) ends.end ends.top.object y.0 ends.top.at y.1 ends.below;
        older = λ open'. ends.older (sym y.2.finished ∙ open');
      }

  -- what a frame below owns, or a field that a frame answers for, they owned
  lost_not_below : (frs : List Frame) → IsOwnedBelow p frs owners.Lost → ⊥
  lost_not_below frs (inl low) = true≢false (sym low)
  lost_not_below [] (inr never) = never
  lost_not_below (fr ∷ frs) (inr held') = let never : owners.Lost ≡ owners.Field held'.2.holder held'.2.field = held'.2.owns in cc

  below_then : (frs : List Frame) (o : ℕ) (x y : Object) → object_at k o ≡ Some x → object_at left o ≡ Some y → IsOwnedBelow p frs y.owner → IsOwnedBelow p frs x.owner
  below_then frs o x y before at is = elim (owner_after o x y before at) [ inl same ↦ subst (IsOwnedBelow p frs) same is | inr lost ↦ absurd (lost_not_below frs (subst (IsOwnedBelow p frs) lost.1 is)) ]

  -- the end of a way that was not given up was not before
  answered_then : (o : ℕ) → IsAnswered left o → IsAnswered k o
  answered_then o is =
      let x = was_there is.0 is.1.object is.1.at in (
        is.0,
        record {
          within = within_before o is.0 is.1.within;
          object = x.0;
          at = x.1;
          unheld = no_field x.0.owner (λ w f own. held_field is.1.object.owner w f is.1.unheld (field_kept is.0 x.0 is.1.object x.1 is.1.at w f own ∙ own));
        },
        elim (owner_after is.0 x.0 is.1.object x.1 is.1.at) [ inl same ↦ ap is_given_up (sym same) ∙ is.2 | inr lost ↦ absurd (true≢false (sym (ap is_given_up lost.1) ∙ is.2)) ],
      )

  -- `this` was so
  this_then : (fr : Frame) → ThisWas p k left fr
  this_then fr w y this now heavy free = let x = was_there w y now in (x.0, x.1, ((sym x.2.finished ∙ heavy.0, ap (is_heavy_class p) (sym x.2.class) ∙ heavy.1), sym x.2.link ∙ free))

  -- so what is lent is not lost
  lent_kept : (frs : List Frame) → AreHeld frs → (o : ℕ) (x y : Object) → object_at k o ≡ Some x → object_at left o ≡ Some y → IsLentFrom p k frs o x.owner → y.owner ≡ x.owner
  lent_kept [] there o x y before at is = absurd is
  lent_kept (fr ∷ frs) there o x y before at (renews', inl own) = elim (owner_after o x y before at) [
    | inl same ↦ same
    | inr lost ↦ absurd (true≢false (sym (ap (λ (vs : List Value). holds k vs o) there.0 ∙ holds_renewed fr o renews') ∙ sym (ap (λ (a : Owner). owner_holds k held a o) own) ∙ lost.0))
  ]
  lent_kept (fr ∷ frs) there o x y before at (renews', inr (inl on)) = lent_kept frs there.1 o x y before at on
  lent_kept (fr ∷ frs) there o x y before at (renews', inr (inr (inl held'))) = field_kept o x y before at held'.1.holder held'.1.field held'.1.owns
  lent_kept (fr ∷ frs) there o x y before at (renews', inr (inr (inr (inl held')))) = field_kept o x y before at held'.holder held'.field held'.owns
  lent_kept (fr ∷ frs) there o x y before at (renews', inr (inr (inr (inr made)))) = elim (owner_after o x y before at) [
    | inl same ↦ same
    | inr lost ↦ absurd (true≢false (sym (ap (λ (a : Owner). owner_holds k held a o) made.1) ∙ lost.0))
  ]

  same_gifts : (fr : Frame) → KeepsGifts p k left fr
  same_gifts fr = gifts_same p k left fr (λ i s here n. root_stays (operand_of fr.locals s.action n))

  -- an object that is finished, or whose class has owning fields, is so still
  whole_after : (x y : Object) → y.class ≡ x.class → y.finished ≡ x.finished → IsWhole p x → IsWhole p y
  whole_after x y class done (inl is) = inl (done ∙ is)
  whole_after x y class done (inr fields) = inr (subst (HasOwningField p) (sym class) fields)

  -- and it is lent still
  lent_still : (frs : List Frame) → AreHeld frs → (o : ℕ) (owner : Owner) → IsLentFrom p k frs o owner → IsLentFrom p left frs o owner
  lent_still [] there o owner lent = lent
  lent_still (fr ∷ frs) there o owner (renews', inl own) = ((same_gifts fr o).1 ∙ renews', inl own)
  lent_still (fr ∷ frs) there o owner (renews', inr (inl on)) = ((same_gifts fr o).1 ∙ renews', inr (inl (lent_still frs there.1 o owner on)))
  lent_still (fr ∷ frs) there o owner (renews', inr (inr (inl held'))) = ((same_gifts fr o).1 ∙ renews', inr (inr (inl held')))
  lent_still (fr ∷ frs) there o owner (renews', inr (inr (inr (inr made)))) = ((same_gifts fr o).1 ∙ renews', inr (inr (inr (inr made))))
  lent_still (fr ∷ frs) there o owner (renews', inr (inr (inr (inl held')))) =
      let y = after held'.holder held'.object held'.at in
      let same = lent_kept frs there.1 held'.holder held'.object y.0 held'.at y.1 held'.lends in (
        (same_gifts fr o).1 ∙ renews',
        inr (inr (inr (inl (record {
          holder = held'.holder;
          field = held'.field;
          owns = held'.owns;
          runs = held'.runs;
          method = held'.method;
          object = y.0;
          at = y.1;
          whole = whole_after held'.object y.0 y.2.class y.2.finished held'.whole;
          unlinked = λ done. y.2.link ∙ held'.unlinked (sym y.2.finished ∙ done);
          heavy = ap (is_heavy_class p) y.2.class ∙ held'.heavy;
          lends = subst (IsLentFrom p left frs held'.holder) (sym same) (lent_still frs there.1 held'.holder held'.object.owner held'.lends);
        })))),
      )

  -- what the call spares it spared
  spared_then : (frs : List Frame) (o : ℕ) → IsSpared p left frs o → IsSpared p k frs o
  spared_then [] o spared = tt
  spared_then (fr ∷ frs) o spared = λ u x at heavy comes.
      let y = after u x at in
      sym (same_gifts fr u).1 ∙ spared u y.0 y.1 (whole_after x y.0 y.2.class y.2.finished heavy.0, ap (is_heavy_class p) y.2.class ∙ heavy.1) (comparable_then u o comes)

  -- what a field owns it owned
  holder_was : (w : ℕ) → IsHolder p left w → IsHolder p k w
  holder_was w (c, y, now, done, heavy, held') = let x = was_there c y now in elim (owner_after c x.0 y x.1 now) [
    | inl same ↦ (c, x.0, x.1, sym x.2.finished ∙ done, ap (is_heavy_class p) (sym x.2.class) ∙ heavy, ap (λ (a : Owner). is_held_by a w) (sym same) ∙ held')
    | inr lost ↦ absurd (true≢false (sym held' ∙ ap (λ (a : Owner). is_held_by a w) lost.1))
  ]

  -- what fields hold they own
  pub lost_owns : FieldsOwn p k → FieldsOwn p left
  lost_owns = fields_own_as p k left (λ w f own. refl) root_stays
      (λ o y now. let x = was_there o y now in (x.0, x.1, x.2.class, x.2.finished, (λ owes. bore_before p k left (λ w ready holds. inl (holder_was w holds)) o x.0 y x.1 (λ done. (x.2, library_still o x.0 y x.1 now)) owes), (λ w f own. field_kept o x.0 y x.1 now w f own), x.2.link, library_still o x.0 y x.1 now))

  -- so do constructors what they have in the fields of what they make
  pub lost_makers : (frs : List Frame) → MakersOwn p k frs → MakersOwn p left frs
  lost_makers [] owned = tt
  lost_makers (fr ∷ frs) owned = (
    λ w f o y made owning heavy found now wide owes.
        let x = was_there o y now in
        let own = owned.0 w f o x.0 made owning heavy (sym (root_stays (field_value p k w f)) ∙ found) x.1 (ap (is_heavy_class p) (sym x.2.class) ∙ wide)
        (bore_before p k left (λ u ready holds. inl (holder_was u holds)) o x.0 y x.1 (λ done. (x.2, library_still o x.0 y x.1 now)) owes) in
        field_kept o x.0 y x.1 now w f own ∙ own,
    lost_makers frs owned.1,
  )

  module _ (nobody : UnfinishedAreUnowned k) where
    -- what is not finished nobody owns
    late_still : (frs : List Frame) (o : ℕ) (y : Object) → object_at left o ≡ Some y → ((x : Object) → object_at k o ≡ Some x → x.finished ≡ true → ⊥) → (is_field_owner y.owner ≡ false) × (is_frame_below (length frs + 1) y.owner ≡ false)
    late_still frs o y at none = elim (owner_after o x.0 y x.1 at) [
      | inl same ↦ (ap is_field_owner (same ∙ unowned), ap (is_frame_below (length frs + 1)) (same ∙ unowned))
      | inr lost ↦ (ap is_field_owner lost.1, ap (is_frame_below (length frs + 1)) lost.1)
    ]
      where
        x : (x : Object) × (object_at k o ≡ Some x) × GoesOn x y
        x = was_there o y at

        open' : (b : Bool) → x.0.finished ≡ b → x.0.finished ≡ false
        open' true done = absurd (none x.0 x.1 done)
        open' false is = is

        unowned : x.0.owner ≡ owners.Unowned
        unowned = nobody o x.0 x.1 (open' x.0.finished refl)

    apart : (frs : List Frame) (fr : Frame) → AreHeld frs → StaysApart p k left frs fr
    apart frs fr lower = record {
      apart = λ o x y before at done heavy none. apart_still (length frs + 1) o x y before at none;
      free = λ o x y before at done heavy none. apart_still 0 o x y before at none;
      content = λ o x y w f before at done heavy plain this own. owned_before o x y before at w f own;
      keeps = λ o x y before at whole lent. (let same = lent_kept frs lower o x y before at lent in (same, subst (IsLentFrom p left frs o) (sym same) (lent_still frs lower o x.owner lent)));
      ends = λ o x at heavy ends. ends_still frs o ends;
      below = λ o x y before at heavy is. below_then frs o x y before at is;
      answered = λ o x at heavy is. answered_then o is;
      late = λ o y at none. late_still frs o y at none;
      spared = λ o x at heavy ends answered spared. spared_then frs o spared;
      holders = λ w ready holds. inl (holder_was w holds);
    }

    keeps : (gives : ℕ → ClassId → Bool) (frs : List Frame) (fr : Frame) → held_at held (length frs + 1) ≡ locals.held fr.locals → AreHeld frs → KeepsOwners p k left gives frs fr
    keeps gives frs fr there lower = record {
      own = not_lost gives (length frs + 1) fr there;
      others = apart frs fr lower;
      held = λ o x y before at done heavy answers keeps' own. field_kept o x y before at own.holder own.field own.owns;
    }

    frame_lost : (gives : ℕ → ClassId → Bool) (renewed renewed' : ℕ → Owner → Bool) (old : ℕ → Bool) (frs : List Frame) (fr : Frame) → held_at held (length frs + 1) ≡ locals.held fr.locals → AreHeld frs
        → ((o : ℕ) (x y : Object) → object_at k o ≡ Some x → object_at left o ≡ Some y → is_heavy_class p x.class ≡ true → renewed' o y.owner ≡ renewed o x.owner) → IsOld p k frs fr old → IsCovered p k gives renewed old frs fr → IsCovered p left gives renewed' old frs fr
    frame_lost gives renewed renewed' old frs fr there lower alike is covered =
        stays_covered p k left gives renewed renewed' old frs fr (λ q small. root_stays (place_value p k fr.method fr.locals q)) (λ q small kept. inl (inl (same_place p k left (λ w f own. refl) fr.method fr.locals q)))
        (λ q o y small root at. carried o y at) (ready fr) (keeps gives frs fr there lower) is alike covered

    waiting_lost : (above : ℕ → Bool) (frs : List Frame) → AreHeld frs → AreWaiting p k above frs → AreWaiting p left above frs
    waiting_lost above [] there covered = tt
    waiting_lost above (fr ∷ frs) there (old, up, is, covered, rest) = (
      old,
      up,
      old_kept p k left old frs fr (apart frs fr there.1) goes_on is (this_then fr),
      given_alike p left (is_given p k fr) (is_given p left fr) (is_reread p left fr) (is_reread p left fr) old frs fr (λ o. (same_gifts fr o).0) (λ o x at. refl)
          (frame_lost (is_given p k fr) (is_reread p k fr) (is_reread p left fr) old frs fr there.0 there.1 (reread_alike p k left fr (same_gifts fr)) is covered),
      waiting_lost old frs there.1 rest,
    )

    pub all_lost : (frs : List Frame) → AreHeld frs → AreCovered p k frs → AreCovered p left frs
    all_lost [] there covered = tt
    all_lost (fr ∷ frs) there (old, is, covered, waits, below) = (
      old,
      old_kept p k left old frs fr (apart frs fr there.1) goes_on is (this_then fr),
      frame_lost gives_none renews_none renews_none old frs fr there.0 there.1 (λ o x y before at heavy. refl) is covered,
      waiting_lost old frs there.1 waits,
      lost_below (length frs + 1) below,
    )

-- the frames of a run hold what they hold
pub are_held : (p : Program) (k : HeapContents) (frs : List Frame) → AreHeld p k (held_by frs) frs
are_held p k frs = by (held_by frs) frs (λ j inside. refl)
  where
    skipped : (n m j : ℕ) (xs : List Value) (rest : List (List Value)) → n ≡ m → j ≤ m → (if nat_eq (n + 1) j then xs else held_at rest j) ≡ held_at rest j
    skipped n m j xs rest same inside = go (nat_eq (n + 1) j) refl
      where
        go : (b : Bool) → nat_eq (n + 1) j ≡ b → (if b then xs else held_at rest j) ≡ held_at rest j
        go false none = refl
        go true is = absurd (let one : n + 1 ≡ j = eqb-true (n + 1) j is in omega (arith, one, same, inside))

    here : (n m : ℕ) (xs ys : List Value) → n ≡ m → (if nat_eq (n + 1) (m + 1) then xs else ys) ≡ xs
    here n m xs ys same = ap (λ (b : Bool). if b then xs else ys) (ap (λ (i : ℕ). nat_eq (i + 1) (m + 1)) same ∙ eq-eqb (m + 1) (m + 1) refl)

    by : (held : List (List Value)) (gs : List Frame) → ((j : ℕ) → j ≤ length gs → held_at held j ≡ held_at (held_by gs) j) → AreHeld p k held gs
    by held [] at = tt
    by held (fr ∷ gs) at =
        let count = held_count gs in (
          at (length gs + 1) (omega arith) ∙ here (length (held_by gs)) (length gs) (locals.held fr.locals) (held_at (held_by gs) (length gs + 1)) count,
          by held gs (λ j inside. at j (omega (arith, inside)) ∙ skipped (length (held_by gs)) (length gs) j (locals.held fr.locals) (held_by gs) count inside),
        )

-- where a frame ends, links stay
pub frame_linked : (j : ℕ) (h : HeapContents) → LinkedWere h (end_frame j h)
frame_linked j h n y l at some =
    let x = frame_back j h n y at in
    let on = kept_goes_on (is_frame x.0.owner j) x.0 y x.2 in
    (x.0, x.1, sym on.link ∙ some, on.class)

-- and what fields hold they own
module _ (p : Program) (j : ℕ) (h : HeapContents) where
  ended_link : (n : ℕ) (x : Object) → (given_up_by_frame j n x).link ≡ x.link
  ended_link n x = go (is_frame x.owner j)
    where
      go : (b : Bool) → (if b then given_up x else x).link ≡ x.link
      go true = refl
      go false = refl

  ended_root : (v : Value) → root_of (end_frame j h) v ≡ root_of h v
  ended_root values.Nothing = refl
  ended_root (values.Object n) = ap Some (root_of_changed (given_up_by_frame j) h n ended_link)
  ended_root v = refl

  ended_holder : (w : ℕ) → IsHolder p (end_frame j h) w → IsHolder p h w
  ended_holder w (c, y, now, done, heavy, held') = by (frame_back j h c y now)
    where
      by : (x : Object) × (object_at h c ≡ Some x) × IsKeptOr (is_frame x.owner j) x y → IsHolder p h w
      by (x, before, inl same) = (c, x, before, ap (λ (u : Object). u.finished) (sym same) ∙ done, ap (λ (u : Object). is_heavy_class p u.class) (sym same) ∙ heavy, ap (λ (u : Object). is_held_by u.owner w) (sym same) ∙ held')
      by (x, before, inr given) = absurd (true≢false (sym held' ∙ (given_up_free x y given.1).1 w))

  ended_owes : (o : ℕ) (x y : Object) → IsKeptOr (is_frame x.owner j) x y → OwesOrHolds p (end_frame j h) o y → OwesOrHolds p h o x
  ended_owes o x y (inl same) (inl owes) = inl (ap may_owe (sym same) ∙ owes)
  ended_owes o x y kept (inr (inl holds')) = inr (inl (ended_holder o holds'))
  ended_owes o x y kept (inr (inr stores)) = inr (inr (subst (MayStore p) (kept_goes_on (is_frame x.owner j) x y kept).class stores))
  ended_owes o x y (inr given) (inl owes) = inl (ap (λ (a : Owner). not (x.finished && is_library_owner a)) (frame_is x.owner j given.0) ∙ none x.finished)
    where
      none : (b : Bool) → not (b && false) ≡ true
      none true = refl
      none false = refl

  ended_field : (x y : Object) → IsKeptOr (is_frame x.owner j) x y → (w : ℕ) (f : FieldId) → x.owner ≡ owners.Field w f → y.owner ≡ x.owner
  ended_field x y (inl same) w f own = ap (λ (u : Object). u.owner) same
  ended_field x y (inr given) w f own = absurd (true≢false (sym given.0 ∙ ap (λ (a : Owner). is_frame a j) own))

  ended_library : (x y : Object) → IsKeptOr (is_frame x.owner j) x y → is_library_owner x.owner ≡ true → is_library_owner y.owner ≡ true
  ended_library x y (inl same) is = ap (λ (u : Object). is_library_owner u.owner) same ∙ is
  ended_library x y (inr given) is = absurd (true≢false (sym is ∙ ap is_library_owner (frame_is x.owner j given.0)))

  pub frame_owns : FieldsOwn p h → FieldsOwn p (end_frame j h)
  frame_owns = fields_own_as p h (end_frame j h) (λ w f own. refl) ended_root
      (λ o y now. let x = frame_back j h o y now in let on = kept_goes_on (is_frame x.0.owner j) x.0 y x.2 in (x.0, x.1, on.class, on.finished, ended_owes o x.0 y x.2, ended_field x.0 y x.2, on.link, ended_library x.0 y x.2))

-- The top frame stores into an owning field of the object that it runs on: what moves into the field, as far as a constructor and a method that creates the obligation of `this` anew are alike. What is
-- left is the reset of the object, where it is finished.
use Rattle.program_model.specs.declared.kinds.MethodId.{MethodId}
use Rattle.value_laws.specs.Ranges.{FieldsInRange}
use Rattle.value_laws.specs.Renewing.{IsMadeBy, is_declared_beside, makes_alone}
use Rattle.covering_laws.proofs.BeingMade.{StayOfClass}
use Rattle.value_laws.specs.FieldContents.{FieldsOwn, MakerOwns, MakersOwn}
use Rattle.std.specs.Prelude.{◌&&◌, is_some, not}
use Rattle.std.specs.FinSet as set
use Rattle.std.proofs.Common.{◌≡◌, ◌⊎◌, inl, inr, ℕ, zero, suc, ◌+◌, ◌<◌, Bool, true, false, Option, Some, None, List, ◌∷◌, length, slice_get, eq-eqb, eqb-true, refl, sym, ap, ◌∙◌, subst, true≢false, arith, nat_eq, []}
use Rattle.std.proofs.lemmas.Bool.{and_from, and_parts}
use Rattle.program_model.specs.declared.kinds.ClassId.{ClassId}
use Rattle.program_model.specs.declared.kinds.FieldId.{FieldId}
use Rattle.program_model.specs.declared.program.Field.{Field}
use Rattle.program_model.specs.declared.program.Method.{Method}
use Rattle.program_model.specs.declared.program.Program.{Program}
use Rattle.program_model.specs.Lookups.{field_at, method_at}
use Rattle.ledger_obligations.specs.Bodies.{alias_in, alias_position, constructs, is_class_of, is_constructor, is_constructor_kind, is_field_in, method_in, method_of, is_alias_constructor}
use Rattle.ledger_obligations.specs.MustCallSets.{fits_type, is_heavy_class, must_of, must_of_optional, must_of_type}
use Rattle.ownership_rules.specs.Signatures.{field_type, is_present, type_of_field}
use Rattle.java_control.specs.Control.{Step}
use Rattle.java_control.specs.Owned.{is_owning, is_owning_field}
use Rattle.control_actions.specs.declared.action.Action.{Action}
use Rattle.control_actions.specs.declared.place.Place.TheVariants as places
use Rattle.control_actions.specs.declared.action.Action.TheVariants as actions
use Rattle.value_laws.specs.Paths.{move_of}
use Rattle.value_laws.specs.Accept.{Accept}
use Rattle.ledger_state.specs.Contents.{HeapContents}
use Rattle.ledger_state.specs.Fields.{field_value}
use Rattle.ledger_state.specs.Heaps.{object_at, root_of, same_root, unfinished, put_field, root}
use Rattle.ledger_state.specs.Locals.{temp_value, variable_value}
use Rattle.ledger_state.specs.declared.entry.Owner.{Owner}
use Rattle.ledger_state.specs.declared.entry.Owner.TheVariants as owners
use Rattle.ledger_state.specs.declared.locals.Locals.{Locals}
use Rattle.ledger_state.specs.Values.{number_of}
use Rattle.ledger_state.specs.declared.object.Object.{Object}
use Rattle.ledger_state.specs.declared.value.Value.{Value}
use Rattle.ledger_state.specs.declared.value.Value.TheVariants as values
use Rattle.ledger_obligations.specs.Obligations as obligations
use Rattle.ledger_obligations.specs.Obligations.{is_library_owner, may_move, stored_owning, with_owner, moved_in}
use Rattle.ledger_steps.specs.LedgerCallsCalls as ledger_calls
use Rattle.ledger_steps.specs.LedgerCallsCalls.{object_by}
use Rattle.value_laws.specs.Configuration.{Frame}
use Rattle.value_laws.specs.Choosing.{frame_steps}
use Rattle.value_laws.specs.Frames.{frame_after}
use Rattle.ledger_steps.specs.InnerSteps.{heap_stored, is_bound, parameter, root_of_number, store_into, store_of, store_unless, thrown_heap}
use Rattle.value_laws.specs.Heaps.{HasEarlierLinks, GoesOn}
use Rattle.value_laws.specs.Holders.{UnfinishedAreUnowned}
use Rattle.covering_laws.proofs.StepWays.{stored_unowned}
use Rattle.value_laws.proofs.HeapLaws.{roots_of_links-itself}
use Rattle.ledger_state.specs.declared.object.Link.{Link}
use Rattle.value_laws.specs.Agreement.{Stands}
use Rattle.value_laws.specs.PlainForms.{HasPlainForms, StoresPlainly}
use Rattle.value_laws.proofs.Fields.{holds_here, holds_other}
use Rattle.value_laws.proofs.StoredObjects.{stored_goes_on, displaced_back, moved_back, moved_takes}
use Rattle.value_laws.specs.Stores.{IsMovedIn, IsStored}
use Rattle.value_laws.proofs.RootLaws.{one_object}
use Rattle.value_laws.proofs.Ready.{step_there}
use Rattle.value_laws.specs.PlaceFacts.{Covers, IsCovered, IsKeyed, gives_none, is_frame_from, is_heavy_in, is_owning_fact, OwesOrHolds, may_owe, owned, renews_none, unowned, IsOld, AreCovered}
use Rattle.covering_laws.proofs.HeavyFields.{heavy_by_fit, unclaimed_not_owning}
use Rattle.covering_laws.proofs.KeptArguments.{argument_alone, this_alone}
use Rattle.covering_laws.proofs.Storing.{small, none_lent, held_here}
use Rattle.covering_laws.proofs.Owners.{StaysApart, from_frame, HoldersWere}
use Rattle.covering_laws.proofs.OwnerSteps.{movable}
use Rattle.covering_laws.proofs.StoreOwners.{store_keeps_library}
use Rattle.covering_laws.proofs.StoreSteps.{ArgumentIsLent, FieldTakes, FieldsStay, OwnerStays, store_covered, temp_fits}
use Rattle.covering_laws.proofs.Bodies.{argument_is_lent}
use Rattle.covering_laws.proofs.Waiting.{Carries, KeepsRoots, KeepsUnfinished, all_ready, linked_roots, no_other, HoldsThere, AllHeldBefore, bore_before, value_root}
use Rattle.ownership_rules.specs.Facts.{has, is_own}
use Rattle.covering_laws.proofs.LinkedExceptions.{LinkedWere}
use Rattle.value_laws.proofs.StoreResets.{moves_on}
use Rattle.covering_laws.proofs.FieldOwners.{KeepsOwning, held_in_range}
use Rattle.rlc_base.proofs.SetLaws.{within_trans}

-- where a frame makes the object, that is so
abbrev pub ArePlain : Program → ℕ → Type 0 → List Frame → Type 0
ArePlain p w A [] = Unit {0}
ArePlain p w A (x ∷ xs) = (IsMadeBy p x w → A) × ArePlain p w A xs

-- what the frame makes it goes on making
pub makes_on : (p : Program) (k : HeapContents) (fr after : Frame) (frs : List Frame) → after.method ≡ fr.method → after.locals.this ≡ fr.locals.this → MakersOwn p k (fr ∷ frs) → MakersOwn p k (after ∷ frs)
makes_on p k fr after frs method this own = (
  (λ u g o z maker. own.0 u g o z (record {
    alone = ap (λ (m : MethodId). makes_alone (method_at p m)) (sym method) ∙ maker.alone;
    field = maker.field;
    declared = ap (λ (m : MethodId). is_declared_beside p m (field_at p maker.field)) (sym method) ∙ maker.declared;
    runs = sym this ∙ maker.runs;
  })),
  own.1,
)

-- what is so of the heap of a store: what the frames hold stays covered, and so on
pub record IsJoined (p : Program) (h k : HeapContents) (after : Frame) (frs : List Frame) : Type 0 where
  pub covered' : AreCovered p k (after ∷ frs)
  pub held : AllHeldBefore p h k frs
  pub owns : FieldsOwn p k
  pub makers : MakersOwn p k (after ∷ frs)
  pub were : LinkedWere h k
  pub classes : StayOfClass h k
  pub nobody : UnfinishedAreUnowned k
  pub unready : KeepsUnfinished h k no_other

number_root : (h : HeapContents) (v : Value) → root_of_number h (number_of v) ≡ root_of h v
number_root h values.Nothing = refl
number_root h (values.Object k) = refl
number_root h v = refl

all_true : (a b c : Bool) → a ≡ true → b ≡ true → c ≡ true → (a && b && c) ≡ true
all_true true true true x y z = refl
all_true false b c x y z = absurd (true≢false (sym x))
all_true true false c x y z = absurd (true≢false (sym y))
all_true true true false x y z = absurd (true≢false (sym z))

-- the value that has the root of the aliased argument is bound
bound_when : (h : HeapContents) (m : Option Method) (l : Locals) (u : Value) (v o : ℕ) → constructs m ≡ true → alias_in m ≡ Some (suc v) → root_of h u ≡ Some o → root_of h (variable_value l v) ≡ Some o
    → is_bound h m l u ≡ true
bound_when h None l u v o new alias held argument = absurd (true≢false (sym new))
bound_when h (Some m) l u v o new alias held argument =
    all_true (is_constructor_kind m.kind) (is_some m.sig.alias) (same_root (root_of h u) (root_of_number h (object_by (parameter l) m.sig.alias))) new (ap is_some alias)
    (ap (λ (k : Option ℕ). same_root (root_of h u) (root_of_number h (object_by (parameter l) k))) alias ∙ ap (λ (r : Option ℕ). same_root r (root_of_number h (number_of (variable_value l v)))) held
    ∙ ap (same_root (Some o)) (number_root h (variable_value l v) ∙ argument) ∙ eq-eqb o o refl)

-- an object that is not finished is its own root
pub unlinked_root : (h : HeapContents) → HasEarlierLinks h → (n : ℕ) (x : Object) → object_at h n ≡ Some x → x.finished ≡ false → root_of h (values.Object n) ≡ Some n
unlinked_root h links n x at unfinished = ap Some (roots_of_links-itself h n x at (none x.link refl))
  where
    none : (l : Option Link) → x.link ≡ l → x.link ≡ None
    none None is = is
    none (Some l) some = absurd (true≢false (sym (links n x l at some).finished ∙ unfinished))

module _ (p : Program) (ac : Accept p) (forms : HasPlainForms p) (h : HeapContents) (links : HasEarlierLinks h) (fr : Frame) (frs : List Frame) (st : Stands p fr) (i : ℕ) (s : Step) (here : slice_get (frame_steps p fr) i ≡ Some s)
    (f : FieldId) (d : ℕ) (is : s.action ≡ actions.PutOwn f d) (plainly : StoresPlainly p (method_at p fr.method) f) (made : Value) (w : ℕ) (this : fr.locals.this ≡ values.Object w) (self : Object) (there : object_at h w ≡ Some self)
    (unmade : constructs (method_at p fr.method) ≡ true → self.finished ≡ false) where
  body_method : method_of p st.number ≡ method_at p fr.method
  body_method = ap (method_in p) st.at ∙ ap (method_at p) st.method

  pub owned_here : (x : Field) × (field_at p f ≡ Some x) × (x.owning ≡ true) × (is_class_of x.class (method_at p fr.method) ≡ true)
  owned_here = go (field_at p f) refl (forms.stores st.number i (move_of s) f d st.control (step_there p fr st i s here) is)
    where
      parts : (a b : Bool) → (a && b) ≡ true → (a ≡ true) × (b ≡ true)
      parts true b one = (refl, one)
      parts false b one = absurd (true≢false (sym one))

      go : (x : Option Field) → field_at p f ≡ x → is_field_in p st.number x ≡ true → (y : Field) × (field_at p f ≡ Some y) × (y.owning ≡ true) × (is_class_of y.class (method_at p fr.method) ≡ true)
      go None at absent = absurd (true≢false (sym absent))
      go (Some x) at has =
          let both = parts x.owning (is_class_of x.class (method_of p st.number)) has in
          (x, at, both.0, ap (is_class_of x.class) (sym body_method) ∙ both.1)

  pub owning : is_owning p f ≡ true
  owning = ap is_owning_field owned_here.1 ∙ owned_here.2

  abbrev pub v : Value
  v = temp_value fr.locals d

  -- the value is the aliased argument
  abbrev pub bound : Bool
  bound = is_bound h (method_at p fr.method) fr.locals v

  -- the heap when what the field held is given up, and the value has moved in
  abbrev pub moved : HeapContents
  moved = put_field w f v (moved_in p h w f bound v)

  abbrev pub after : Frame
  after = frame_after p h fr s made

  -- the heap of the step
  abbrev pub store_heap : HeapContents
  store_heap = heap_stored p (method_at p fr.method) fr.locals (store_unless None (store_of fr.locals s.action)) (thrown_heap p None h)

  pub heap_is : store_heap ≡ stored_owning p h w f bound v
  heap_is =
      ap (λ (a : Action). heap_stored p (method_at p fr.method) fr.locals (store_of fr.locals a) h) is
      ∙ ap (λ (u : Value). heap_stored p (method_at p fr.method) fr.locals (store_into (number_of u) f v) h) this
      ∙ rw owning refl

  -- ---- objects

  pub back : (n : ℕ) (y : Object) → object_at moved n ≡ Some y → (x : Object) × (object_at h n ≡ Some x) × IsStored p h w f v n x y
  back n y at = moved_back p h w f v bound n y at

  pub forth : (n : ℕ) (x : Object) → object_at h n ≡ Some x → (y : Object) × (object_at moved n ≡ Some y) × GoesOn x y
  forth n x at = moves_on p h w f bound v n x at

  pub carries : Carries h moved
  carries n y at below =
      let x = back n y at in
      let on = stored_goes_on p h w f v n x.0 y x.2 in
      (x.0, x.1, on.class, (λ done. (on, store_keeps_library p h moved w f v back n x.0 y x.1 at done)))

  pub roots : KeepsRoots h moved
  roots = linked_roots h moved links (λ n x at. let y = forth n x at in (y.0, y.1, y.2.link))

  -- an object as it was, or as the field gave it up, or as it moved to the field
  pub was : (o : ℕ) (x y : Object) → object_at h o ≡ Some x → object_at moved o ≡ Some y → IsStored p h w f v o x y
  was o x y before at =
      let z = back o y at in
      subst (λ (u : Object). IsStored p h w f v o u y) (one_object z.0 x (object_at h o) z.1 before) z.2

  pub moved_unfinished : KeepsUnfinished h moved no_other
  moved_unfinished o x y apart before now none = (stored_goes_on p h w f v o x y (was o x y before now)).finished ∙ none

  pub moved_linked : LinkedWere h moved
  moved_linked n y l at some =
      let x = back n y at in
      let on = stored_goes_on p h w f v n x.0 y x.2 in
      (x.0, x.1, sym on.link ∙ some, on.class)

  pub moved_classes : StayOfClass h moved
  moved_classes o x y before now = (stored_goes_on p h w f v o x y (was o x y before now)).class

  pub moved_nobody : UnfinishedAreUnowned h → UnfinishedAreUnowned moved
  moved_nobody before = stored_unowned p w f v h moved back before

  pub holds_here' : field_value p moved w f ≡ v
  holds_here' = holds_here p h w f bound v

  pub holds_other' : (u : ℕ) (g : FieldId) → ((u ≡ w) × (g ≡ f) → ⊥) → field_value p moved u g ≡ field_value p h u g
  holds_other' = holds_other p h w f bound v

  lent : ArgumentIsLent p fr st
  lent aliased kind at = argument_is_lent p ac fr st aliased kind at

  -- the field's type
  type_bounds : (c : ClassId) → set.is_subset (must_of p c) (must_of_type p (obligations.type_of_field (field_at p f))) ≡ true → fits_type p c (field_type p f) ≡ true
  type_bounds c is' =
      ap (λ (x : Option Field). set.is_subset (must_of p c) (must_of_optional p (type_of_field x))) owned_here.1
      ∙ sym (ap (λ (x : Option Field). set.is_subset (must_of p c) (must_of_type p (obligations.type_of_field x))) owned_here.1) ∙ is'

  type_moves : (c : ClassId) → fits_type p c (field_type p f) ≡ true → set.is_subset (must_of p c) (must_of_type p (obligations.type_of_field (field_at p f))) ≡ true
  type_moves c fit =
      ap (λ (x : Option Field). set.is_subset (must_of p c) (must_of_type p (obligations.type_of_field x))) owned_here.1
      ∙ sym (ap (λ (x : Option Field). set.is_subset (must_of p c) (must_of_optional p (type_of_field x))) owned_here.1) ∙ fit

  pub heavy_field : (o : ℕ) (x : Object) → is_heavy_class p x.class ≡ true → IsMovedIn p h f v o x → is_heavy_in p (Some f) ≡ true
  heavy_field o x heavy into = heavy_by_fit p x.class f heavy
      (type_bounds x.class (and_parts (x.finished && not (is_library_owner x.owner)) (set.is_subset (must_of p x.class) (must_of_type p (obligations.type_of_field (field_at p f)))) into.may).1)

  -- what moves is not an object that is being made
  not_this : (o : ℕ) (x : Object) → object_at h o ≡ Some x → IsMovedIn p h f v o x → constructs (method_at p fr.method) ≡ true → root_of h fr.locals.this ≡ Some o → ⊥
  not_this o x at moved' makes root =
      let unfinished' = unmade makes in
      let same : w ≡ o = (let both : Some w ≡ Some o = sym (ap (root_of h) this ∙ unlinked_root h links w self there unfinished') ∙ root in (let one : w ≡ o = cc in one)) in
      let one : self ≡ x = one_object self x (object_at h w) there (ap (object_at h) same ∙ at) in
      true≢false (sym (movable p (obligations.type_of_field (field_at p f)) x moved'.may).0 ∙ ap (λ (z : Object). z.finished) (sym one) ∙ unfinished')

  pub field_takes : FieldTakes p h moved (length frs + 1) fr st w f d
  field_takes o x y before at heavy root done fit plain own = moved_takes p h w f v o x y root before may (subst (λ (b : Bool). object_at (moved_in p h w f b v) o ≡ Some y) untied at)
    where
      same_alias : (m : Option Method) → is_some (ledger_calls.alias_position m) ≡ is_present (alias_in m)
      same_alias None = refl
      same_alias (Some m) = go m.sig.alias
        where
          go : (a : Option ℕ) → is_some a ≡ is_present a
          go None = refl
          go (Some k) = refl

      nothing : (a b b' c : Bool) → b ≡ b' → (a && b') ≡ false → (a && b && c) ≡ false
      nothing true true b' c same none = absurd (true≢false (same ∙ none))
      nothing true false b' c same none = refl
      nothing false b b' c same none = refl

      untied : bound ≡ false
      untied = nothing (constructs (method_at p fr.method)) (is_some (ledger_calls.alias_position (method_at p fr.method))) (is_present (alias_in (method_at p fr.method)))
          (same_root (root_of h v) (root_of_number h (ledger_calls.alias_target (parameter fr.locals) (method_at p fr.method)))) (same_alias (method_at p fr.method))
          (ap (λ (m : Option Method). constructs m && is_present (alias_in m)) (sym body_method) ∙ plain)

      may : may_move p (obligations.type_of_field (field_at p f)) x ≡ true
      may = and_from (x.finished && not (is_library_owner x.owner)) (set.is_subset (must_of p x.class) (must_of_type p (obligations.type_of_field (field_at p f))))
          (and_from x.finished (not (is_library_owner x.owner)) done (ap (λ (a : Owner). not (is_library_owner a)) own)) (type_moves x.class fit)

  module _ (old : ℕ → Bool) (covered : IsCovered p h gives_none renews_none old frs fr) where
    -- where something moves, this is no constructor with an aliased argument, or one with that of a parameter
    alias_form : (o : ℕ) (x : Object) → object_at h o ≡ Some x → is_heavy_class p x.class ≡ true → OwesOrHolds p h o x → IsMovedIn p h f v o x
        → (is_alias_constructor p st.number ≡ false) ⊎ ((n : ℕ) × (alias_position p st.number ≡ Some (suc n)) × (constructs (method_at p fr.method) ≡ true))
    alias_form o x before heavy owes moved' = by (is_alias_constructor p st.number) refl
      where
        aliased : is_alias_constructor p st.number ≡ true → (a : Option ℕ) → alias_position p st.number ≡ a → (n : ℕ) × (alias_position p st.number ≡ Some (suc n)) × (constructs (method_at p fr.method) ≡ true)
        aliased one a at = by_position a at
          where
            parts : (is_constructor p st.number ≡ true) × (is_present (alias_position p st.number) ≡ true)
            parts = and_parts (is_constructor p st.number) (is_present (alias_position p st.number)) one

            makes : constructs (method_at p fr.method) ≡ true
            makes = ap constructs (sym body_method) ∙ parts.0

            by_position : (a : Option ℕ) → alias_position p st.number ≡ a → (n : ℕ) × (alias_position p st.number ≡ Some (suc n)) × (constructs (method_at p fr.method) ≡ true)
            by_position None none = absurd (true≢false (sym parts.1 ∙ ap (λ (u : Option ℕ). is_present u) none))
            by_position (Some zero) some = absurd (not_this o x before moved' makes (this_alone p ac forms h old frs fr st covered i d s f o x here is makes some (heavy_field o x heavy moved') moved'.root before heavy owes))
            by_position (Some (suc n)) some = (n, some, makes)

        by : (b : Bool) → is_alias_constructor p st.number ≡ b → (is_alias_constructor p st.number ≡ false) ⊎ ((n : ℕ) × (alias_position p st.number ≡ Some (suc n)) × (constructs (method_at p fr.method) ≡ true))
        by false plain = inl plain
        by true one = inr (aliased one (alias_position p st.number) refl)

    -- in a constructor with an aliased argument nothing else moves to the field, and the argument stays
    stays_bound : (o : ℕ) (x y : Object) → object_at h o ≡ Some x → object_at moved o ≡ Some y → is_heavy_class p x.class ≡ true → OwesOrHolds p h o x → IsMovedIn p h f v o x → (n : ℕ) → alias_position p st.number ≡ Some (suc n)
        → constructs (method_at p fr.method) ≡ true → (y ≡ x) ⊎ (x.owner ≡ owners.Field w f)
    stays_bound o x y before at heavy owes moved' n alias makes =
        let held = argument_alone p ac forms h old frs fr st covered i d s f o x n here is makes alias (heavy_field o x heavy moved') moved'.root before heavy owes in
        let ties : bound ≡ true = bound_when h (method_at p fr.method) fr.locals v n o makes (sym (ap alias_in body_method) ∙ alias) moved'.root held in
        let z = displaced_back p h w f v o y (subst (λ (b : Bool). object_at (moved_in p h w f b v) o ≡ Some y) ties at) in
        let same : z.0 ≡ x = (let both : Some z.0 ≡ Some x = sym z.1 ∙ before in (let one : z.0 ≡ x = cc in one)) in
        elim z.2 [ inl still' ↦ inl (still' ∙ same) | inr gone ↦ inr (ap (λ (u : Object). u.owner) (sym same) ∙ gone.0.owner) ]

    pub room : d < 64
    room = (small p ac forms h old frs fr st covered i d s f here is plainly).0

    -- what t(d) holds the frame owns, and it is finished, and of the field's type; or the field owns it: but for a constructor with an aliased argument
    abbrev IsHers : Object → Type 0
    IsHers x = ((x.owner ≡ owners.Frame (length frs + 1)) × (x.finished ≡ true) × (fits_type p x.class (field_type p f) ≡ true)) ⊎ (x.owner ≡ owners.Field w f)

    pub value_is : is_alias_constructor p st.number ≡ false → is_heavy_in p (Some f) ≡ true → (o : ℕ) (x : Object) → root_of h v ≡ Some o → object_at h o ≡ Some x → is_heavy_class p x.class ≡ true → OwesOrHolds p h o x → IsHers x
    value_is plain type o x root before heavy owes = by (covered (places.Temp d) o x room (none_lent p ac forms h old frs fr st covered i d s f here is plainly (places.Temp d)) root before heavy owes)
      where
        of_temp : (c : Covers p h false false old frs fr o x) → has c.fact.places (places.Temp d) ≡ true → ((is_owning_fact p c.origin c.fact ≡ true) × (fits_type p c.origin.class (field_type p f) ≡ true)) ⊎ (x.owner ≡ owners.Field w f)
        of_temp c in' = temp_fits p ac forms h old frs fr st covered i d s f here is plainly o x w this c in' type plain

        by : IsKeyed p h false false old frs fr (places.Temp d) o x → IsHers x
        by (owned c in' key) = elim (of_temp c in') [
          | inl own ↦
              (let truth = c.true' key.owning refl (held_here p ac forms h old frs fr st covered i d s f here is plainly c.fact) in
              inl (key.owner refl (and_parts (is_heavy_class p c.origin.class) (is_own c.fact.mode) own.0).1, truth.finished, within_trans (must_of p x.class) (must_of p c.origin.class) (must_of_optional p (field_type p f)) truth.class own.1))
          | inr field ↦ inr field
        ]
        by (unowned u) = elim (of_temp u.covers u.here) [
          | inl own ↦ absurd (true≢false (sym own.0 ∙ unclaimed_not_owning p (method_at p fr.method) u.covers.origin u.covers.fact u.unowned))
          | inr field ↦ inr field
        ]

    -- so it is with what moves
    pub plain_from : is_alias_constructor p st.number ≡ false → (o : ℕ) (x : Object) → object_at h o ≡ Some x → is_heavy_class p x.class ≡ true → OwesOrHolds p h o x → IsMovedIn p h f v o x
        → (x.owner ≡ owners.Frame (length frs + 1)) ⊎ (x.owner ≡ owners.Field w f)
    plain_from plain o x before heavy owes moved' = elim (value_is plain (heavy_field o x heavy moved') o x moved'.root before heavy owes) [ inl own ↦ inl own.0 | inr field ↦ inr field ]

    -- what moves to the field the frame owns, or the field does
    pub moves_from : (o : ℕ) (x y : Object) → object_at h o ≡ Some x → object_at moved o ≡ Some y → is_heavy_class p x.class ≡ true → OwesOrHolds p h o x → IsMovedIn p h f v o x → y ≡ with_owner (owners.Field w f) x
        → (x.owner ≡ owners.Frame (length frs + 1)) ⊎ (x.owner ≡ owners.Field w f)
    moves_from o x y before at heavy owes moved' now = elim (alias_form o x before heavy owes moved') [
      | inl none ↦ plain_from none o x before heavy owes moved'
      | inr alias ↦ inr (in_field (stays_bound o x y before at heavy owes moved' alias.0 alias.1 alias.2))
    ]
      where
        in_field : (y ≡ x) ⊎ (x.owner ≡ owners.Field w f) → x.owner ≡ owners.Field w f
        in_field (inl same) = ap (λ (z : Object). z.owner) (sym same ∙ now)
        in_field (inr field) = field

    -- what a field of the object owns it goes on owning, where another value is not moved into this field
    two_owners : (o : ℕ) (x : Object) (g : FieldId) → x.owner ≡ owners.Field w g → (x.owner ≡ owners.Frame (length frs + 1)) ⊎ (x.owner ≡ owners.Field w f) → g ≡ f
    two_owners o x g own (inl frame) = absurd (let never : owners.Field w g ≡ owners.Frame (length frs + 1) = sym own ∙ frame in cc)
    two_owners o x g own (inr field) = let both : owners.Field w g ≡ owners.Field w f = sym own ∙ field in (let one : g ≡ f = cc in one)

    owes_in_field : (x : Object) (g : FieldId) (u : ℕ) → x.owner ≡ owners.Field u g → may_owe x ≡ true
    owes_in_field x g u own = ap (λ (a : Owner). not (x.finished && is_library_owner a)) own ∙ none x.finished
      where
        none : (b : Bool) → not (b && false) ≡ true
        none true = refl
        none false = refl

    -- another field goes on owning what it owned
    keeps_any : (u : ℕ) (g : FieldId) → ((u ≡ w) × (g ≡ f) → ⊥) → (o : ℕ) (x y : Object) → object_at h o ≡ Some x → object_at moved o ≡ Some y → is_heavy_class p x.class ≡ true → x.owner ≡ owners.Field u g → y.owner ≡ owners.Field u g
    keeps_any u g apart o x y before at heavy own = by (was o x y before at)
      where
        one_field : owners.Field u g ≡ owners.Field w f → ⊥
        one_field both = apart (let holder : u ≡ w = cc in holder, let same : g ≡ f = cc in same)

        by : IsStored p h w f v o x y → y.owner ≡ owners.Field u g
        by (inl same) = ap (λ (n : Object). n.owner) same ∙ own
        by (inr (inl gone)) = absurd (one_field (sym own ∙ gone.0.owner))
        by (inr (inr into)) = elim (moves_from o x y before at heavy (inl (owes_in_field x g u own)) into.0 into.1) [
          | inl frame ↦ absurd (let never : owners.Field u g ≡ owners.Frame (length frs + 1) = sym own ∙ frame in cc)
          | inr field ↦ absurd (one_field (sym own ∙ field))
        ]

    pub keeps_owning : (u : ℕ) (g : FieldId) → ((u ≡ w) × (g ≡ f) → ⊥) → KeepsOwning p h moved u g
    keeps_owning u g apart o x y z before at heavy own there' done = keeps_any u g apart o x y before at heavy own

    -- what the field holds it owns, but for a constructor with an aliased argument
    module _ (inside : HoldsThere p h fr) (holders : HoldersWere p h moved) where
      -- an object in a field was there, and bore what it bears
      module _ (o : ℕ) (z : Object) (at : object_at moved o ≡ Some z) (wide : is_heavy_class p z.class ≡ true) (owes : OwesOrHolds p moved o z) where
        pub b : (x : Object) × (object_at h o ≡ Some x) × IsStored p h w f v o x z
        b = back o z at

        on : GoesOn b.0 z
        on = stored_goes_on p h w f v o b.0 z b.2

        wide' : is_heavy_class p (b.0).class ≡ true
        wide' = ap (is_heavy_class p) (sym on.class) ∙ wide

        owes' : OwesOrHolds p h o b.0
        owes' = bore_before p h moved holders o b.0 z b.1 (λ done. (on, store_keeps_library p h moved w f v back o b.0 z b.1 at done)) owes

        pub value_owned : is_alias_constructor p st.number ≡ false → is_heavy_in p (Some f) ≡ true → root_of moved (field_value p moved w f) ≡ Some o → z.owner ≡ owners.Field w f
        value_owned plain heavy found = elim (value_is plain heavy o b.0 root_before b.1 wide' owes') [
          | inl own ↦ field_takes o b.0 z b.1 at wide' root_before own.1 own.2 plain own.0
          | inr field ↦ by field b.2
        ]
          where
            root_before : root_of h v ≡ Some o
            root_before = sym (value_root h moved roots v (inside (places.Temp d) room)) ∙ ap (root_of moved) (sym holds_here') ∙ found

            by : (b.0).owner ≡ owners.Field w f → IsStored p h w f v o b.0 z → z.owner ≡ owners.Field w f
            by field (inl same) = ap (λ (m : Object). m.owner) same ∙ field
            by field (inr (inl gone)) = absurd (gone.0.other root_before)
            by field (inr (inr into)) = ap (λ (m : Object). m.owner) into.1

        -- another field goes on owning it
        module _ (u : ℕ) (g : FieldId) (apart : (u ≡ w) × (g ≡ f) → ⊥) (ranges : FieldsInRange h) (own : root_of h (field_value p h u g) ≡ Some o → (b.0).owner ≡ owners.Field u g) where
          by_value : (t : Value) → field_value p h u g ≡ t → root_of moved t ≡ Some o → z.owner ≡ owners.Field u g
          by_value (values.Object n) value found =
              let number = (held_in_range p h u g n ranges value).1 in
              let same : root h n ≡ o = sym (roots n number) ∙ (let both : Some (root moved n) ≡ Some o = found in (let one : root moved n ≡ o = cc in one)) in
              keeps_any u g apart o b.0 z b.1 at wide' (own (ap (root_of h) value ∙ ap Some same))
          by_value values.Nothing value found = absurd (let never : None ≡ Some o = found in cc)
          by_value t value found = absurd (let never : None ≡ Some o = found in cc)

          pub other_owned : root_of moved (field_value p moved u g) ≡ Some o → z.owner ≡ owners.Field u g
          other_owned found = by_value (field_value p h u g) refl (ap (root_of moved) (sym (holds_other' u g apart)) ∙ found)

      -- so it is with the fields of what frames make
      maker_owns : FieldsInRange h → (x : Frame) → (IsMadeBy p x w → is_alias_constructor p st.number ≡ false) → MakerOwns p h x → MakerOwns p moved x
      maker_owns ranges x plain owned' u g o z maker owning' heavy found at wide owes = go (nat_eq u w) refl (nat_eq g.0 f.0) refl
        where
          other : ((u ≡ w) × (g ≡ f) → ⊥) → z.owner ≡ owners.Field u g
          other apart = other_owned o z at wide owes u g apart ranges
              (λ root'. owned' u g o (b o z at wide owes).0 maker owning' heavy root' (b o z at wide owes).1 (wide' o z at wide owes) (owes' o z at wide owes)) found

          here' : u ≡ w → g ≡ f → z.owner ≡ owners.Field u g
          here' one same =
              value_owned o z at wide owes (plain (subst (IsMadeBy p x) one maker)) (ap (is_heavy_in p) (ap Some (sym same)) ∙ heavy)
              (ap (root_of moved) (ap (field_value p moved w) (sym same) ∙ ap (λ (m : ℕ). field_value p moved m g) (sym one)) ∙ found) ∙ ap (λ (m : ℕ). owners.Field m f) (sym one) ∙ ap (owners.Field u) (sym same)

          go : (a : Bool) → nat_eq u w ≡ a → (c : Bool) → nat_eq g.0 f.0 ≡ c → z.owner ≡ owners.Field u g
          go true one true same = here' (eqb-true u w one) (ap (λ (m : ℕ). (let t : FieldId = record { 0 = m } in t)) (eqb-true g.0 f.0 same))
          go true one false off = other (λ is'. true≢false (sym (eq-eqb g.0 f.0 (ap (λ (t : FieldId). t.0) is'.1)) ∙ off))
          go false off c same = other (λ is'. true≢false (sym (eq-eqb u w is'.0) ∙ off))

      pub makers_own : FieldsInRange h → (gs : List Frame) → ArePlain p w (is_alias_constructor p st.number ≡ false) gs → MakersOwn p h gs → MakersOwn p moved gs
      makers_own ranges [] plain owned' = tt
      makers_own ranges (x ∷ xs) plain owned' = (maker_owns ranges x plain.0 owned'.0, makers_own ranges xs plain.1 owned'.1)

    pub fields_stay : FieldsStay p h moved fr w f d
    fields_stay = record {
      other = λ o x y g before at heavy own apart. elim (was o x y before at) [
        | inl same ↦ ap (λ (z : Object). z.owner) same
        | inr changed ↦ elim changed [
          | inl gone ↦ absurd (apart (two_owners o x g own (inr gone.0.owner)))
          | inr into ↦ absurd (apart (two_owners o x g own (moves_from o x y before at heavy (inl (owes_in_field x g w own)) into.0 into.1)))
        ]
      ];
      same = λ o x y before at root own. elim (was o x y before at) [
        | inl same ↦ ap (λ (z : Object). z.owner) same
        | inr changed ↦ elim changed [ inl gone ↦ absurd (gone.0.other root) | inr into ↦ ap (λ (z : Object). z.owner) into.1 ∙ sym own ]
      ];
    }

    pub owner_stays : OwnerStays p h moved (length frs + 1) fr st f d
    owner_stays o x y before at heavy owes own = by (was o x y before at)
      where
        no_field : x.owner ≡ owners.Field w f → ⊥
        no_field field = true≢false (sym (ap (is_frame_from 0) own ∙ from_frame 0 (length frs + 1) (omega arith)) ∙ ap (is_frame_from 0) field)

        by : IsStored p h w f v o x y → (y.owner ≡ owners.Frame (length frs + 1)) ⊎ ((root_of h (temp_value fr.locals d) ≡ Some o) × (is_alias_constructor p st.number ≡ false) × (is_heavy_in p (Some f) ≡ true))
        by (inl same) = inl (ap (λ (z : Object). z.owner) same ∙ own)
        by (inr (inl gone)) = absurd (no_field gone.0.owner)
        by (inr (inr into)) = elim (alias_form o x before heavy owes into.0) [
          | inl none ↦ inr (into.0.root, none, heavy_field o x heavy into.0)
          | inr alias ↦ elim (stays_bound o x y before at heavy owes into.0 alias.0 alias.1 alias.2) [ inl same ↦ inl (ap (λ (z : Object). z.owner) same ∙ own) | inr field ↦ absurd (no_field field) ]
        ]

  -- ---- the top frame

  pub top_stores : (old : ℕ → Bool) → IsCovered p h gives_none renews_none old frs fr → IsOld p h frs fr old → HoldsThere p h fr → StaysApart p h moved frs fr → IsCovered p moved gives_none renews_none old frs after
  top_stores old covered aged inside apart =
      store_covered p ac forms h moved links roots carries old frs fr st covered aged lent i d s f here is plainly w this holds_here' holds_other' inside (all_ready p h moved moved_unfinished fr) made apart field_takes (owner_stays old covered) (fields_stay old covered)

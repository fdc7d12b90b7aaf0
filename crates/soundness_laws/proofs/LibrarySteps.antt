-- A call of the library begins and ends in one step.
use Rattle.program_model.specs.declared.kinds.FieldId.{FieldId}
use Rattle.std.specs.Prelude.{MatchBool, not}
use Rattle.std.specs.List.{All}
use Rattle.std.proofs.lemmas.Bool.{and_parts}
use Rattle.std.proofs.Common.{◌≡◌, ◌⊎◌, inl, inr, ℕ, ◌+◌, ◌≤◌, nat_eq, eqb-true, Bool, true, false, true≢false, Option, Some, None, List, ◌∷◌, ◌++◌, length, slice_get, refl, sym, ap, ◌∙◌, subst, if◌then◌else◌, arith, eq-eqb}
use Rattle.std.specs.FinSet as set
use Rattle.rlc_base.specs.declared.name_id.NameId.{NameId}
use Rattle.rlc_base.proofs.SetLaws.{within_self, within_trans}
use Rattle.program_model.specs.declared.kinds.ClassId.{ClassId}
use Rattle.program_model.specs.declared.kinds.MethodId.{MethodId}
use Rattle.program_model.specs.declared.program.Method.{Method}
use Rattle.program_model.specs.declared.program.Program.{Program}
use Rattle.program_model.specs.Lookups.{method_at}
use Rattle.ledger_obligations.specs.Bodies.{alias_in}
use Rattle.ledger_obligations.specs.WellFormed.{HasSmallInterests}
use Rattle.java_control.specs.Calls.{called_method}
use Rattle.java_control.specs.Control.{Step}
use Rattle.control_actions.specs.declared.action.Action.{Action}
use Rattle.control_actions.specs.declared.action.Action.TheVariants as actions
use Rattle.control_actions.specs.declared.action.Edge.TheVariants as edges
use Rattle.ownership_rules.specs.Callees.{callee, callee_in}
use Rattle.content_laws.specs.CalledRows.{holds_receiver, interest_in, promises_at}
use Rattle.content_laws.specs.Accept.{Accept}
use Rattle.content_laws.specs.Aliases.{gives_alias}
use Rattle.ledger_obligations.specs.MustCallSets.{is_heavy_class}
use Rattle.stub_conduct.specs.declared.choice.Choice.{Choice}
use Rattle.stub_conduct.specs.declared.choice.Conduct.{Conduct}
use Rattle.stub_conduct.specs.declared.choice.Conduct.TheVariants as conducts
use Rattle.ledger_state.specs.Classes.{runtime_class}
use Rattle.ledger_state.specs.Contents.{HeapContents}
use Rattle.ledger_state.specs.Heaps.{next_number, object_at, root, root_of}
use Rattle.ledger_state.specs.declared.array.ArrayObject.{ArrayObject}
use Rattle.ledger_state.specs.declared.object.Link.{Link}
use Rattle.ledger_state.specs.declared.entry.Entry.{Entry}
use Rattle.ledger_state.specs.declared.entry.Owner.{Owner}
use Rattle.ledger_state.specs.declared.entry.Owner.TheVariants as owners
use Rattle.ledger_state.specs.declared.object.Object.{Object}
use Rattle.ledger_state.specs.declared.value.Value.{Value}
use Rattle.ledger_state.specs.declared.value.Value.TheVariants as values
use Rattle.ledger_obligations.specs.Obligations.{has_note, is_library_method, is_library_owner, is_unmet, note}
use Rattle.ledger_steps.specs.LedgerCallsCalls.{alias_position, form_of, object_by, operand_of, params_in, position_object, position_of, receiver_note, reset_position, running}
use Rattle.content_laws.specs.Moves.{fits_target}
use Rattle.content_laws.specs.Configuration.{Frame, held_by}
use Rattle.ledger_steps.specs.Conducts.{conduct_value, on_this, owning_in, positions, result_owner, settled}
use Rattle.content_laws.specs.Choosing.{frame_steps}
use Rattle.content_laws.specs.LedgerFramesFrames.{frame_after}
use Rattle.ledger_steps.specs.CallSteps.{library_done, library_entries, library_heap}
use Rattle.content_laws.specs.Heaps.{GoesOn, HasEarlierLinks, KeepsLinks}
use Rattle.content_laws.specs.PlacePlaces.{IsWay}
use Rattle.content_laws.specs.Chains.{HaveEnds, IsLast}
use Rattle.content_laws.specs.LibraryClasses.{GivesLibraryClasses, ThrowsMadeClasses}
use Rattle.content_laws.specs.Agreement.{Agrees, HasMadeClasses, IsAwaited, IsTracked, Stands, Tracks, is_answering}
use Rattle.content_laws.specs.PlainForms.{HasPlainForms, IsAnsweredBy, IsPlainAction, may_be_made}
use Rattle.content_laws.specs.Fitting.{FitsMethod}
use Rattle.content_laws.proofs.LibraryCallLaws.{roots_go_on-value, roots_of_links-itself}
use Rattle.content_laws.proofs.RootLaws.{has_object}
use Rattle.content_laws.specs.LibraryCalls.{HasSmallInterest, IsAliasMadeAs, IsAliasOf, IsMadeAs}
use Rattle.content_laws.specs.Outcomes.{IsCallRow, IsPlainRow}
use Rattle.ownership_rules.specs.SmallActions.{IsSmallAction}
use Rattle.ownership_rules.specs.MovesAtCalls.{moved_at_call}
use Rattle.ownership_rules.specs.declared.moved.Moved.TheVariants as moves
use Rattle.ledger_state.specs.declared.locals.Locals.{Locals}
use Rattle.ledger_state.specs.Locals.{temp_in}
use Rattle.ledger_state.specs.Values.{number_of}
use Rattle.std.proofs.Common.{nat_lt}
use Rattle.control_actions.specs.declared.action.Edge.{Edge}
use Rattle.content_laws.specs.Steps.{IsTrueTest, RootsStay, is_super}
use Rattle.content_laws.proofs.AliasRoots.{OperandsAreThere, library_alias}
use Rattle.content_laws.proofs.LibraryRuns.{one_alias}
use Rattle.content_laws.proofs.Births.{heavy_by_unmet, made_tracks}
use Rattle.content_laws.proofs.LibraryNames.{library_name_goes_on}
use Rattle.content_laws.proofs.Goes.{not_the_librarys_owes}
use Rattle.content_laws.specs.FieldContents.{AreUnfinished, FieldsOwn, LinksLead, OwningFieldsOwn}
use Rattle.content_laws.specs.Sight.{ActsInSight, AllActInSight}
use Rattle.content_laws.specs.Nexts.{IsConstantRead}
use Rattle.content_laws.specs.Ranges.{LocalsInRange}
use Rattle.content_laws.proofs.RangeValues.{operand_in_range}
use Rattle.content_laws.proofs.CallNames.{noted_receiver, operand_of_fact, same_interest, small_name}
use Rattle.content_laws.proofs.KnownNames.{AreKept, known_after_call}
use Rattle.soundness_laws.proofs.KeptPromises.{library_promises_kept}
use Rattle.content_laws.proofs.Unmet.{unmet_before, way_of_call}
use Rattle.content_laws.proofs.Stacks.{KeepsClasses, called_on}
use Rattle.content_laws.proofs.TrackingGiven.{given_argument}
use Rattle.content_laws.proofs.Counts.{library_count}
use Rattle.content_laws.proofs.Chains.{IsLastOwned, IsOwnedAs, ends_on}
use Rattle.content_laws.proofs.Landing.{landed}
use Rattle.content_laws.specs.MadeClasses.{HasMadeClass}
use Rattle.content_laws.proofs.Conducts.{library_makes_made_classes}
use Rattle.soundness_laws.proofs.MadeClasses.{classes_on}
use Rattle.content_laws.specs.HeapAnew.{GoesOnAside, IsOlderAside, finished_root, is_anew, target_root}
use Rattle.content_laws.proofs.Emptied.{emptied_root, fresh_stays}
use Rattle.content_laws.proofs.LibraryCallLaws.{any_given_arguments_stay_given, any_library_aliases_are_older_or_made, any_library_links_stay, any_library_objects_are_older_or_made, any_library_objects_go_on, any_receiver_is_called, any_unfinished_objects_stay_unowned, aside_links, emptied_roots-root, library_calls_leak_nothing}
use Rattle.ledger_obligations.specs.MustCallSets.{Names, must_of}
use Rattle.control_actions.specs.declared.fact.Fact.{Fact}
use Rattle.control_actions.specs.declared.place.Place.TheVariants as places
use Rattle.ownership_rules.specs.Facts.{has, is_own}
use Rattle.content_laws.specs.Anew.{is_target}
use Rattle.content_laws.specs.Frames.{HaveTargets}
use Rattle.content_laws.specs.PlaceFacts.{AreWaiting, Covers, IsCovered, IsOwned, RunsOn, gives_none, may_owe, renews_none}
use Rattle.content_laws.specs.Renewing.{renews}
use Rattle.content_laws.specs.Holders.{HoldersAreUnlinked}
use Rattle.content_laws.proofs.AnewAtEnds.{IsRisen}
use Rattle.content_laws.proofs.ClassArguments.{target_is_instance}
use Rattle.content_laws.proofs.LentHolders.{holds_lent}
use Rattle.content_laws.proofs.LibraryTargets.{risen}
use Rattle.content_laws.proofs.RenewedOperands.{HoldsLent, renewed_answered}
use Rattle.content_laws.proofs.TargetTracks.{target_or_not, tracks_target}
use Rattle.content_laws.proofs.WaitingTargets.{covered_tracks}
use Rattle.soundness_laws.proofs.AnsweredTargets.{target_answered, target_owes}
use Rattle.soundness_laws.proofs.OwnedTargets.{owned_target}
use Rattle.content_laws.proofs.Ready.{plain_step, ready}
use Rattle.content_laws.proofs.Tracking.{stack_tracks, tracks_call, tracks_plain}

-- the aliased argument, in the words of the rules and in those of the machine
pub same_alias : (m : Option Method) → alias_in m ≡ alias_position m
same_alias None = refl
same_alias (Some m) = refl

constant_row : (a : Action) → IsConstantRead a → IsPlainRow a
constant_row actions.Skip is = absurd is
constant_row (actions.Plain q v) is = tt
constant_row a is = absurd is

constant_way : (a : Action) (e : Edge) → IsConstantRead a → IsWay a e
constant_way actions.Skip e is = tt
constant_way (actions.Put f d this) e is = absurd is
constant_way a e is = tt

constant_test : (l : Locals) (a : Action) (e : Edge) → IsConstantRead a → IsTrueTest l a e
constant_test l actions.Skip e is = tt
constant_test l (actions.Test d) e is = absurd is
constant_test l a e is = tt

constant_owner : (a : Action) (m : Option Method) (i j : ℕ) → IsConstantRead a → owners.Frame j ≡ result_owner a m i → ⊥
constant_owner actions.Skip m i j is same = is
constant_owner (actions.Plain q v) m i j is same = cc
constant_owner a m i j is same = is

owning_frame : (b : Bool) (i j : ℕ) → owners.Frame j ≡ (if b then owners.Frame i else owners.Library) → i ≡ j
owning_frame true i j same = cc
owning_frame false i j same = absurd (let never : owners.Frame j ≡ owners.Library = same in cc)

frame_owner : (a : Action) (m : Option Method) (i j : ℕ) → owners.Frame j ≡ result_owner a m i → i ≡ j
frame_owner actions.Skip m i j same = owning_frame (owning_in m) i j same
frame_owner (actions.Plain q v) m i j same = absurd (let never : owners.Frame j ≡ owners.Library = same in cc)
frame_owner (actions.New c k n) m i j same = cc
frame_owner a m i j same = owning_frame (owning_in m) i j same

-- a read of a constant has no operands, and so no target
constant_operand : (l : Locals) (a : Action) (k : ℕ) → IsConstantRead a → number_of (operand_of l a k) ≡ None
constant_operand l actions.Skip k is = absurd is
constant_operand l (actions.Plain q x) k is = go (nat_lt k 4294967296)
  where
    go : (b : Bool) → number_of (temp_in l (if b then None else None)) ≡ None
    go true = refl
    go false = refl
constant_operand l a k is = absurd is

constant_target : (h : HeapContents) (l : Locals) (a : Action) (named : Option Method) → IsConstantRead a → target_root h l a named ≡ None
constant_target h l a named is = go (reset_position named)
  where
    go : (k : Option ℕ) → finished_root h (object_by (operand_of l a) k) ≡ None
    go None = refl
    go (Some k) = ap (finished_root h) (constant_operand l a k is)

-- the call makes this object, whether its signature has an aliased argument or not
abbrev pub IsBorn : Program → Locals → Action → Option Method → ℕ → Conduct → Object → Type 0
IsBorn p l a m i d y = ((alias_position m ≡ None) × IsMadeAs p a m i d y) ⊎ ((k : ℕ) × (alias_position m ≡ Some k) × IsAliasMadeAs l a k d y)

-- a call of the library that names this method, or a read of a constant, which the library answers by the signature of the method `m`
pub record IsLibraryStep (p : Program) (h : HeapContents) (arrays : List ArrayObject) (l : Locals) (s : Step) (named m : MethodId) (d : Conduct) (v : Value) : Type 0 where
  pub answers : IsAnsweredBy p named m
  pub row : (IsCallRow s.action × (called_method s.action ≡ Some named)) ⊎ IsConstantRead s.action
  pub library : is_library_method p (method_at p m) ≡ true
  pub other : (e : ClassId) → d ≡ conducts.Fresh e → is_super s.action ≡ false
  pub made : (e : ClassId) → d ≡ conducts.Fresh e → (s.edge ≡ edges.Go) × FitsMethod p (method_at p m) (conducts.Fresh e) × (v ≡ values.Object (next_number h))
  pub thrown : (e : ClassId) → d ≡ conducts.Throws e → (c : ClassId) × (s.edge ≡ edges.Throws c)
  pub normal : ((e : ClassId) → d ≡ conducts.Throws e → ⊥) → s.edge ≡ edges.Go
  pub by : (choice : Choice) × (d ≡ on_this s.action (settled p h arrays m choice (position_of None l s.action)))
  pub ran : called_method s.action ≡ Some named → (is_library_method p (method_at p (running p h l s.action named)) ≡ true)
      × (fits_target p h arrays (method_at p named) (form_of s.action) (operand_of l s.action 0) ≡ true)
      × ((c : ClassId) → runtime_class p h (operand_of l s.action 0) ≡ Some c → may_be_made p c ≡ true)
  pub count : ℕ
  pub value : v ≡ conduct_value count (method_at p m) (positions l s.action (next_number h) d) (next_number h) d

module _ (p : Program) (ac : Accept p) (forms : HasPlainForms p) (names : HasSmallInterests p) (fr : Frame) (frs : List Frame) (h : HeapContents)
    (es : List Entry) (agrees : Agrees p (fr ∷ frs) h es) (i : ℕ) (s : Step) (here : slice_get (frame_steps p fr) i ≡ Some s) (named m : MethodId) (d : Conduct) (v : Value)
    (arrays : List ArrayObject) (step : IsLibraryStep p h arrays fr.locals s named m d v) (ranges : LocalsInRange h fr.locals) (led : LinksLead p h)
    (old : ℕ → Bool) (covered : IsCovered p h gives_none renews_none old frs fr) (waiting : AreWaiting p h old frs) (owning : OwningFieldsOwn p h) (sight : ActsInSight p h fr) (sights : AllActInSight p h frs)
    (unready : AreUnfinished p h (fr ∷ frs)) (lower : All (λ (f : Frame). LocalsInRange h f.locals) frs) (held : FieldsOwn p h) (holders : HoldersAreUnlinked (is_heavy_class p) h) (targets : HaveTargets p (fr ∷ frs)) where
  abbrev after : Frame
  after = frame_after p h fr s v

  abbrev heap : HeapContents
  heap = library_heap p fr.locals s.action (method_at p named) (method_at p m) d (length frs + 1) h

  -- the obligation of the object is created anew
  abbrev anew : ℕ → Bool
  anew = is_anew p fr.locals s.action (method_at p named) (method_at p m) d h

  abbrev IsMade : ℕ → Object → Type 0
  IsMade o y = (o ≡ next_number h) × IsBorn p fr.locals s.action (method_at p m) (length frs + 1) d y

  was_there : (o : ℕ) (y : Object) → object_at heap o ≡ Some y → IsOlderAside anew h o y owners.Library ⊎ IsMade o y
  was_there o y at = go (alias_position (method_at p m)) refl
    where
      go : (alias : Option ℕ) → alias_position (method_at p m) ≡ alias → IsOlderAside anew h o y owners.Library ⊎ IsMade o y
      go None none = elim (any_library_objects_are_older_or_made p fr.locals s.action (method_at p named) (method_at p m) d (length frs + 1) h o y none at) [
        | inl old ↦ inl old
        | inr new ↦ inr (new.0, inl (none, new.1))
      ]
      go (Some k) some = elim (any_library_aliases_are_older_or_made p fr.locals s.action (method_at p named) (method_at p m) d (length frs + 1) h o k y some at) [
        | inl old ↦ inl old
        | inr new ↦ inr (new.0, inr (k, some, new.1))
      ]

  -- ---- links

  there : OperandsAreThere h fr.locals s.action
  there k w number = operand_in_range h fr.locals ranges s.action k w number

  links : HasEarlierLinks heap
  links = any_library_links_stay p fr.locals s.action (method_at p named) (method_at p m) d (length frs + 1) h agrees.links (λ k w alias number. there k w number)

  keeps_links : KeepsLinks h heap
  keeps_links = aside_links anew h heap (any_library_objects_go_on p fr.locals s.action (method_at p named) (method_at p m) d (length frs + 1) h)

  roots_stay : (o : ℕ) (x : Object) → object_at h o ≡ Some x → RootsStay h heap o
  roots_stay o x before u root' = roots_go_on-value h heap u o x agrees.links keeps_links root' before

  -- ---- the object whose obligation is created anew

  -- what is not created anew goes on with its names
  plain_goes : (o : ℕ) (x y : Object) → anew o ≡ false → GoesOnAside (anew o) x y → GoesOn x y
  plain_goes o x y out on = record { class = on.class; link = on.link; finished = on.finished; must = on.must out; called = on.called out }

  new_stays : (o : ℕ) → o ≡ next_number h → anew o ≡ true → ⊥
  new_stays o new is = true≢false (sym is ∙ ap anew new ∙ fresh_stays p fr.locals s.action (method_at p named) (method_at p m) d (length frs + 1) h)

  constant_stays : IsConstantRead s.action → (o : ℕ) (x : Object) → object_at h o ≡ Some x → anew o ≡ true → ⊥
  constant_stays constant o x before is =
      let none = constant_target h fr.locals s.action (method_at p named) constant in
      let some = emptied_roots-root p fr.locals s.action (method_at p named) (method_at p m) d h o x agrees.links
      (λ n z target there. absurd (let never : None ≡ Some n = sym none ∙ target in cc)) before is in
      let never : None ≡ Some (root h o) = sym none ∙ some in
      cc

  -- an object whose obligation is created anew, and that may owe a call, is that of a frame, which tracks it
  module _ (o : ℕ) (y : Object) (at : object_at heap o ≡ Some y) (free : y.link ≡ None) (is : anew o ≡ true) (unmet : is_unmet y ≡ true) (stays : is_library_owner y.owner ≡ false) where
    before : (x : Object) × (object_at h o ≡ Some x) × (x.link ≡ None) × (y.class ≡ x.class) × (y.finished ≡ x.finished) × (y.owner ≡ x.owner)
    before = elim (was_there o y at) [
      | inl older ↦ (
        older.before,
        older.at,
        sym older.goes_on.link ∙ free,
        older.goes_on.class,
        older.goes_on.finished,
        elim older.owner [ inl same ↦ same | inr given ↦ absurd (true≢false (sym (ap is_library_owner given) ∙ stays)) ],
      )
      | inr new ↦ absurd (new_stays o new.0 is)
    ]

    must_is : y.must ≡ must_of p y.class
    must_is = emptied_root p fr.locals s.action (method_at p named) (method_at p m) d (length frs + 1) h o before.0 y is before.1 before.2 at

    bounded : set.is_subset y.must (must_of p y.class) ≡ true
    bounded = ap (λ (t : Names). set.is_subset t (must_of p y.class)) must_is ∙ within_self (must_of p y.class)

    wide : is_heavy_class p y.class ≡ true
    wide = heavy_by_unmet p y.class y unmet bounded

    abbrev IsSomeones : Type 0
    IsSomeones = ((j : ℕ) × (y.owner ≡ owners.Frame j) × IsTracked p heap (after ∷ frs) o y j) ⊎ ((w : ℕ) × (f : FieldId) × (y.owner ≡ owners.Field w f))

    top_owns : (y.owner ≡ owners.Frame (length frs + 1)) → Tracks p heap after o y → IsSomeones
    top_owns mine t = inl (length frs + 1, mine, rw (eq-eqb (length frs + 1) (length frs + 1) refl) t)

    -- a frame below
    lent_tracked : (j : ℕ) → j ≤ length frs → IsAwaited p heap frs o y j → IsTracked p heap (after ∷ frs) o y j
    lent_tracked j low w = go (nat_eq (length frs + 1) j) refl
      where
        go : (b : Bool) → nat_eq (length frs + 1) j ≡ b → MatchBool b (Tracks p heap after o y) (IsAwaited p heap frs o y j)
        go true here' = absurd (let same = eqb-true (length frs + 1) j here' in omega (arith, same, low))
        go false other = w

    someones : IsSomeones
    someones = elim step.row [
      | inl call ↦ by call.0 call.1
      | inr constant ↦ absurd (constant_stays constant o before.0 before.1 is)
    ]
      where
        by : IsCallRow s.action → called_method s.action ≡ Some named → IsSomeones
        by row called = in_hand (target_answered p ac forms h heap agrees.ends agrees.links held holders o x y before.1 heavy done (roots_stay o x before.1) before.3 bounded fr frs agrees.standing.1 targets.1 lower agrees.stacked old waiting unready sights
            target.target target.object target.at target.within
            (renewed_answered p ac h fr agrees.standing.0 old frs i s here row covered holds agrees.ends targets.0 sight.makes target.target target.object target.at target.heavy.1
            (target_owes p h target.target o target.object x target.at before.1 target.within owes) target.renews (inl target.heavy.0)))
          where
            x : Object
            x = before.0

            small : IsSmallAction p s.action
            small = (ready p ac forms fr agrees.standing.0 i s here (way_of_call s row)).small

            heavy : is_heavy_class p x.class ≡ true
            heavy = ap (is_heavy_class p) (sym before.3) ∙ wide

            done : x.finished ≡ true
            done = sym before.4 ∙ (and_parts y.finished (not (set.is_subset y.must y.called)) unmet).0

            owes : may_owe x ≡ true
            owes = not_the_librarys_owes x (ap is_library_owner (sym before.5) ∙ stays)

            holds : HoldsLent p h old frs fr agrees.standing.0
            holds = holds_lent p ac forms h agrees.links held fr ranges agrees.standing.0 old frs targets.0 agrees.ends unready gives_none renews_none covered holders

            -- the target of the reset, within which the object is, or that is within the object
            target : IsRisen p h fr.locals s.action o
            target = risen p h agrees.links fr named m d i s here called (target_is_instance p h arrays fr.locals s.action (method_at p named) (step.ran called).1) owning sight holders o x before.1 before.2 is heavy

            own_target : target.target ≡ o → x.owner ≡ owners.Frame (length frs + 1) → Tracks p heap after o y
            own_target same mine =
                tracked_by (owned_target p ac forms h fr old frs agrees.standing.0 i s here row covered holds o x before.1 heavy (inl owes) done (subst (λ (n : ℕ). renews p h fr.locals s.action n ≡ true) same target.renews) mine)
              where
                tracked_by : (c : Covers p h false false old frs fr o x) × IsOwned p h false false old frs fr o x c × (is_own c.fact.mode ≡ true) × (is_target p s.action c.fact.places ≡ true) × ((t : ℕ) × (has c.fact.places (places.Temp t) ≡ true))
                    → Tracks p heap after o y
                tracked_by (c, key, own, has_it, (t, there')) =
                    let tr = covered_tracks p ac h fr old frs agrees.standing.0 false false o x c key own refl t there' false refl in
                    tracks_target p ac forms h heap fr agrees.standing.0 i s here (way_of_call s row) v o x y (roots_stay o x before.1) before.3 bounded unmet false tr.0 row
                    (ap (λ (f : Fact). is_target p s.action f.places) tr.1 ∙ has_it)
                    (λ gives. ap (root_of heap) step.value
                    ∙ library_alias p ac h agrees.links arrays fr.locals s.action s.edge tr.0.fact.places named m (method_at p named) d (length frs + 1) step.count o small (plain_step p ac forms fr agrees.standing.0 i s here)
                    (ap (callee_in p) called) step.answers there step.by step.thrown (λ k near has'. operand_of_fact p h fr.method fr.locals s.action o k tr.0.fact.places small near tr.0.follows.places has') gives)

            in_hand : ((target.target ≡ o) × (x.owner ≡ owners.Frame (length frs + 1)))
                ⊎ (((j : ℕ) × (x.owner ≡ owners.Frame j) × (j ≤ length frs) × IsAwaited p heap frs o y j) ⊎ ((w : ℕ) × (f : FieldId) × (x.owner ≡ owners.Field w f) × RunsOn w (fr ∷ frs))) → IsSomeones
            in_hand (inl mine) = top_owns (before.5 ∙ mine.1) (own_target mine.0 mine.1)
            in_hand (inr (inl lender)) = inl (lender.0, before.5 ∙ lender.1, lent_tracked lender.0 lender.2 lender.3)
            in_hand (inr (inr field)) = inr (field.0, field.1, before.5 ∙ field.2)

  owner_answers : (a : Action) (j : ℕ) → is_answering (result_owner a (method_at p m) j) ≡ true
  owner_answers (actions.New m k n) j = refl
  owner_answers (actions.Plain q x) j = refl
  owner_answers a j = either (owning_in (method_at p m))
    where
      either : (b : Bool) → is_answering (if b then owners.Frame j else owners.Library) ≡ true
      either true = refl
      either false = refl

  made_answers : (y : Object) (c : Conduct) → IsMadeAs p s.action (method_at p m) (length frs + 1) c y → is_answering y.owner ≡ true
  made_answers y (conducts.Throws e) made = ap is_answering made.0
  made_answers y (conducts.Fresh e) made = ap is_answering made.2 ∙ owner_answers s.action (length frs + 1)
  made_answers y conducts.Null made = absurd made
  made_answers y (conducts.Existing k) made = absurd made
  made_answers y conducts.Argument made = absurd made
  made_answers y (conducts.Value z) made = absurd made
  made_answers y conducts.Nothing made = absurd made

  -- an alias that is linked to none is the library's
  alias_answers : (y : Object) (k : ℕ) (c : Conduct) → IsAliasMadeAs fr.locals s.action k c y → y.link ≡ None → is_answering y.owner ≡ true
  alias_answers y k (conducts.Throws e) made free = ap is_answering made.0
  alias_answers y k (conducts.Fresh e) made free = of_target (position_object (position_of None fr.locals s.action) k) made.2
    where
      of_target : (t : Option ℕ) → IsAliasOf t y → is_answering y.owner ≡ true
      of_target None is = ap is_answering is.1
      of_target (Some w) is = absurd (let never : ◌≡◌ {A = Option Link} None (Some (record { to = w; by_library = true })) = sym free ∙ is.1 in cc)
  alias_answers y k conducts.Null made free = absurd made
  alias_answers y k (conducts.Existing j) made free = absurd made
  alias_answers y k conducts.Argument made free = absurd made
  alias_answers y k (conducts.Value z) made free = absurd made
  alias_answers y k conducts.Nothing made free = absurd made

  answered : (o : ℕ) (y : Object) → object_at heap o ≡ Some y → y.link ≡ None → is_unmet y ≡ true → is_answering y.owner ≡ true
  answered o y at free unmet = elim (was_there o y at) [
    | inl old ↦ elim old.owner [
      | inl same ↦ older_answers old same (anew o) refl
      | inr given ↦ ap is_answering given
    ]
    | inr new ↦ elim new.1 [
      | inl plain ↦ made_answers y d plain.1
      | inr alias ↦ alias_answers y alias.0 d alias.2 free
    ]
  ]
    where
      librarys : (w : Owner) → is_library_owner w ≡ true → is_answering w ≡ true
      librarys owners.Library is = refl
      librarys (owners.Frame j) is = absurd (true≢false (sym is))
      librarys (owners.Field w f) is = absurd (true≢false (sym is))
      librarys owners.Released is = absurd (true≢false (sym is))
      librarys owners.Lost is = absurd (true≢false (sym is))
      librarys owners.Unowned is = absurd (true≢false (sym is))

      renewed : (b : Bool) → is_library_owner y.owner ≡ b → anew o ≡ true → is_answering y.owner ≡ true
      renewed true gone is = librarys y.owner gone
      renewed false stays is = elim (someones o y at free is unmet stays) [ inl frame ↦ ap is_answering frame.1 | inr field ↦ ap is_answering field.2 ]

      older_answers : (old : IsOlderAside anew h o y owners.Library) → y.owner ≡ old.before.owner → (b : Bool) → anew o ≡ b → is_answering y.owner ≡ true
      older_answers old same true is = renewed (is_library_owner y.owner) refl is
      older_answers old same false out =
          ap is_answering same ∙ agrees.answered o old.before old.at (sym old.goes_on.link ∙ free) (unmet_before old.before y (plain_goes o old.before y out old.goes_on) unmet)

  -- the object of a fact of the top frame, over a call
  module _ (row : IsCallRow s.action) (called : called_method s.action ≡ Some named) (o j : ℕ) (x y : Object) (before : object_at h o ≡ Some x) (now : object_at heap o ≡ Some y)
      (goes : GoesOn x y) (unmet : is_unmet y ≡ true) (mine : x.owner ≡ owners.Frame j) (owner : y.owner ≡ owners.Frame j) (out : anew o ≡ false) (t : Tracks p h fr o x) where
    st : Stands p fr
    st = agrees.standing.0

    form : IsPlainAction p s.action
    form = plain_step p ac forms fr st i s here

    small : IsSmallAction p s.action
    small = (ready p ac forms fr st i s here (way_of_call s row)).small

    same_callee : callee p s.action ≡ method_at p named
    same_callee = ap (callee_in p) called

    was_unmet : is_unmet x ≡ true
    was_unmet = unmet_before x y goes unmet

    heavy : is_heavy_class p x.class ≡ true
    heavy = heavy_by_unmet p x.class x was_unmet t.follows.bounded

    few : HasSmallInterest (method_at p named)
    few n is = small_name p s.action n names (ap interest_in same_callee ∙ sym (same_interest (method_at p named)) ∙ is)

    -- the name of the call goes on from its receiver to the object
    noted : (n : NameId) → holds_receiver s.action t.fact.places ≡ true → interest_in (callee p s.action) ≡ Some n → set.contains y.called n.0 ≡ true
    noted n held interest =
        let is = noted_receiver p ac h fr.method fr.locals s.action o t.fact.places n form small t.follows.places held interest in
        let first = has_object h is.object o x is.root before in
        let leads = led is.object o first.0 x first.1 is.root before heavy (inl (not_the_librarys_owes x (ap is_library_owner mine))) in
        let has = subst (λ (m : Option Method). has_note (receiver_note fr.locals s.action m) (note false is.object n) ≡ true) same_callee is.noted in
        let ran = step.ran called in
        any_receiver_is_called p fr.locals s.action (method_at p named) (method_at p m) d (length frs + 1) h (note false is.object n) o first.0 y agrees.links few out has first.1
        (library_name_goes_on p ac forms h arrays fr.locals s.action named ran.0 ran.1 is.object n first.0 has first.1 ran.2 o leads) leads now

    kept : AreKept p st.number s.action t.fact.places y.called (promises_at p s.action s.edge)
    kept = library_promises_kept p ac h agrees.links led fr.method fr.locals s.action named m step.answers d (length frs + 1) small t.fact.places o out t.follows.places x y before heavy (not_the_librarys_owes x (ap is_library_owner mine)) now
        st.number s.edge same_callee step.thrown step.normal

    stays : moved_at_call p t.origin s.action s.edge t.fact ≡ moves.Moves → ⊥
    stays moved =
        let given = given_argument p h fr.method fr.locals s.action s.edge o j x t.origin t.fact small t.follows (unmet_before x y goes unmet) mine moved in
        let given_to = any_given_arguments_stay_given p fr.locals s.action (method_at p named) (method_at p m) d (length frs + 1) given.index given.param h o x y
        (subst (λ (m : Option Method). slice_get (params_in m) given.index ≡ Some given.param) same_callee given.at) given.owning given.root before given.may now in
        let never : owners.Frame j ≡ owners.Library = sym owner ∙ given_to in
        cc

    -- where the call gives an alias of the object, the value has it for its root
    alias_given : gives_alias p s.action s.edge t.fact.places ≡ true → root_of heap v ≡ Some o
    alias_given gives =
        ap (root_of heap) step.value
        ∙ library_alias p ac h agrees.links arrays fr.locals s.action s.edge t.fact.places named m (method_at p named) d (length frs + 1) step.count o small form same_callee step.answers there step.by step.thrown
        (λ k near held. operand_of_fact p h fr.method fr.locals s.action o k t.fact.places small near t.follows.places held) gives

    apart_call : is_target p s.action t.fact.places ≡ false → Tracks p heap after o y
    apart_call apart = tracks_call p ac forms h heap fr st i s here (way_of_call s row) v o x y (roots_stay o x before) goes unmet t row apart
        (known_after_call p st.number s.action s.edge t.fact y.called row (within_trans t.fact.called x.called y.called t.follows.called goes.called) noted kept)
        alias_given stays

    top_call : Tracks p heap after o y
    top_call = elim (target_or_not p s.action t.fact.places) [
      | inl target ↦ tracks_target p ac forms h heap fr st i s here (way_of_call s row) v o x y (roots_stay o x before) goes.class
          (ap (λ (u : Names). set.is_subset u (must_of p y.class)) goes.must ∙ ap (λ (c : ClassId). set.is_subset x.must (must_of p c)) goes.class ∙ t.follows.bounded) unmet false t row target alias_given
      | inr apart ↦ apart_call apart
    ]

  top : (o j : ℕ) (x y : Object) → object_at h o ≡ Some x → object_at heap o ≡ Some y → GoesOn x y → is_unmet y ≡ true → x.owner ≡ owners.Frame j → y.owner ≡ owners.Frame j → anew o ≡ false
      → Tracks p h fr o x → Tracks p heap after o y
  top o j x y before now goes unmet mine owner out t = elim step.row [
    | inl call ↦ top_call call.0 call.1 o j x y before now goes unmet mine owner out t
    | inr constant ↦ tracks_plain p ac forms h heap fr agrees.standing.0 i s here (constant_way s.action s.edge constant) v o x y (roots_stay o x before) goes unmet t
        (constant_row s.action constant) (constant_test fr.locals s.action s.edge constant)
  ]

  -- the object that the call made for the frame
  made_top : (e : ClassId) → d ≡ conducts.Fresh e → (j : ℕ) (y : Object) → object_at heap (next_number h) ≡ Some y → alias_position (method_at p m) ≡ None
      → IsMadeAs p s.action (method_at p m) (length frs + 1) (conducts.Fresh e) y → is_unmet y ≡ true → y.owner ≡ owners.Frame j → IsTracked p heap (after ∷ frs) (next_number h) y j
  made_top e is j y now plain made unmet owner = elim step.row [
    | inl call ↦ at_top (frame_owner s.action (method_at p m) (length frs + 1) j (sym owner ∙ made.2)) (subst (λ (w : Value). Tracks p heap (frame_after p h fr s w) (next_number h) y) (sym (step.made e is).2)
        (made_tracks p ac forms h heap fr agrees.standing.0 i s here (way_of_call s call.0) (next_number h) y (values.Object (next_number h))
        (ap Some (roots_of_links-itself heap (next_number h) y now made.3)) e j (length frs + 1) unmet (step.made e is).0 owner call.0 (step.other e is)
        (λ k at. ap (λ (z : MethodId). alias_in (method_at p z)) (let same : Some k ≡ Some named = sym at ∙ call.1 in (let one : k ≡ named = cc in one)) ∙ same_alias (method_at p named) ∙ sym (one_alias p named m step.answers) ∙ plain)
        m (λ k at. (subst (λ (z : MethodId). IsAnsweredBy p z m) (let same : Some named ≡ Some k = sym call.1 ∙ at in cc) step.answers, (made, (step.made e is).1)))))
    | inr constant ↦ absurd (constant_owner s.action (method_at p m) (length frs + 1) j constant (sym owner ∙ made.2))
  ]
    where
      at_top : length frs + 1 ≡ j → Tracks p heap after (next_number h) y → IsTracked p heap (after ∷ frs) (next_number h) y j
      at_top same t = rw (eq-eqb (length frs + 1) j same) t

  made_tracked : (c : Conduct) → d ≡ c → (j : ℕ) (y : Object) → object_at heap (next_number h) ≡ Some y → alias_position (method_at p m) ≡ None
      → IsMadeAs p s.action (method_at p m) (length frs + 1) c y → is_unmet y ≡ true → y.owner ≡ owners.Frame j → IsTracked p heap (after ∷ frs) (next_number h) y j
  made_tracked (conducts.Throws e) is j y now plain made unmet owner = absurd (let never : owners.Frame j ≡ owners.Library = sym owner ∙ made.0 in cc)
  made_tracked (conducts.Fresh e) is j y now plain made unmet owner = made_top e is j y now plain made unmet owner
  made_tracked conducts.Null is j y now plain made unmet owner = absurd made
  made_tracked (conducts.Existing k) is j y now plain made unmet owner = absurd made
  made_tracked conducts.Argument is j y now plain made unmet owner = absurd made
  made_tracked (conducts.Value z) is j y now plain made unmet owner = absurd made
  made_tracked conducts.Nothing is j y now plain made unmet owner = absurd made

  -- no frame owns an alias
  alias_owner : (c : Conduct) (j k : ℕ) (y : Object) → IsAliasMadeAs fr.locals s.action k c y → y.owner ≡ owners.Frame j → ⊥
  alias_owner (conducts.Throws e) j k y made owner = let never : owners.Frame j ≡ owners.Library = sym owner ∙ made.0 in cc
  alias_owner (conducts.Fresh e) j k y made owner = of_target (position_object (position_of None fr.locals s.action) k) made.2
    where
      of_target : (t : Option ℕ) → IsAliasOf t y → ⊥
      of_target None is = let never : owners.Frame j ≡ owners.Library = sym owner ∙ is.1 in cc
      of_target (Some w) is = let never : owners.Frame j ≡ owners.Unowned = sym owner ∙ is.0 in cc
  alias_owner conducts.Null j k y made owner = made
  alias_owner (conducts.Existing n) j k y made owner = made
  alias_owner conducts.Argument j k y made owner = made
  alias_owner (conducts.Value z) j k y made owner = made
  alias_owner conducts.Nothing j k y made owner = made

  -- a frame owns nothing that is linked
  owned_free : (o j : ℕ) (y : Object) → object_at heap o ≡ Some y → y.owner ≡ owners.Frame j → y.link ≡ None
  owned_free o j y at owner = go y.link refl
    where
      go : (k : Option Link) → y.link ≡ k → y.link ≡ None
      go None none = none
      go (Some k) some = absurd (let never : owners.Frame j ≡ owners.Unowned = sym owner ∙ (links o y k at some).owner in cc)

  older_tracked : (o j : ℕ) (y : Object) → object_at heap o ≡ Some y → is_unmet y ≡ true → y.owner ≡ owners.Frame j → (old : IsOlderAside anew h o y owners.Library)
      → y.owner ≡ old.before.owner → IsTracked p heap (after ∷ frs) o y j
  older_tracked o j y at unmet owner old same = go (anew o) refl
    where
      mine : old.before.owner ≡ owners.Frame j
      mine = sym same ∙ owner

      go : (b : Bool) → anew o ≡ b → IsTracked p heap (after ∷ frs) o y j
      go false out =
          let goes = plain_goes o old.before y out old.goes_on in
          stack_tracks p h heap fr after frs o old.before y j (roots_stay o old.before old.at) goes
          (top o j old.before y old.at at goes unmet mine owner out)
          (agrees.tracked o old.before j old.at (unmet_before old.before y goes unmet) mine)
      go true is = elim (someones o y at (owned_free o j y at owner) is unmet (ap is_library_owner owner)) [
        | inl it ↦ (let same' : it.0 ≡ j = (let both : owners.Frame it.0 ≡ owners.Frame j = sym it.1 ∙ owner in (let one : it.0 ≡ j = cc in one)) in
            subst (λ (n : ℕ). IsTracked p heap (after ∷ frs) o y n) same' it.2)
        | inr field ↦ absurd (let never : owners.Field field.0 field.1 ≡ owners.Frame j = sym field.2 ∙ owner in cc)
      ]

  tracked : (o : ℕ) (y : Object) (j : ℕ) → object_at heap o ≡ Some y → is_unmet y ≡ true → y.owner ≡ owners.Frame j → IsTracked p heap (after ∷ frs) o y j
  tracked o y j at unmet owner = elim (was_there o y at) [
    | inl old ↦ elim old.owner [
      | inl same ↦ older_tracked o j y at unmet owner old same
      | inr given ↦ absurd (let never : owners.Frame j ≡ owners.Library = sym owner ∙ given in cc)
    ]
    | inr new ↦ elim new.1 [
      | inl plain ↦ subst (λ (z : ℕ). IsTracked p heap (after ∷ frs) z y j) (sym new.0) (made_tracked d refl j y (ap (object_at heap) (sym new.0) ∙ at) plain.0 plain.1 unmet owner)
      | inr alias ↦ absurd (alias_owner d j alias.0 y alias.2 owner)
    ]
  ]

  keeps : KeepsClasses h heap
  keeps = record {
    count = library_count p fr.locals s.action (method_at p named) (method_at p m) d (length frs + 1) h;
    class = λ o y at small. elim (was_there o y at) [
      | inl old ↦ (old.before, old.at, old.goes_on.class)
      | inr new ↦ absurd (let number = new.0 in omega (arith, number, small))
    ];
  }

  owner_last : (a : Action) (j : ℕ) → IsLast (result_owner a (method_at p m) j)
  owner_last (actions.New m k n) j = tt
  owner_last (actions.Plain q x) j = tt
  owner_last a j = either (owning_in (method_at p m))
    where
      either : (b : Bool) → IsLast (if b then owners.Frame j else owners.Library)
      either true = tt
      either false = tt

  made_last : (y : Object) (c : Conduct) → IsMadeAs p s.action (method_at p m) (length frs + 1) c y → IsLast y.owner
  made_last y (conducts.Throws e) made = subst IsLast (sym made.0) tt
  made_last y (conducts.Fresh e) made = subst IsLast (sym made.2) (owner_last s.action (length frs + 1))
  made_last y conducts.Null made = absurd made
  made_last y (conducts.Existing k) made = absurd made
  made_last y conducts.Argument made = absurd made
  made_last y (conducts.Value z) made = absurd made
  made_last y conducts.Nothing made = absurd made

  alias_last : (y : Object) (k : ℕ) (c : Conduct) → IsAliasMadeAs fr.locals s.action k c y → IsLast y.owner
  alias_last y k (conducts.Throws e) made = subst IsLast (sym made.0) tt
  alias_last y k (conducts.Fresh e) made = of_target (position_object (position_of None fr.locals s.action) k) made.2
    where
      of_target : (t : Option ℕ) → IsAliasOf t y → IsLast y.owner
      of_target None is = subst IsLast (sym is.1) tt
      of_target (Some w) is = subst IsLast (sym is.0) tt
  alias_last y k conducts.Null made = absurd made
  alias_last y k (conducts.Existing j) made = absurd made
  alias_last y k conducts.Argument made = absurd made
  alias_last y k (conducts.Value z) made = absurd made
  alias_last y k conducts.Nothing made = absurd made

  -- nobody owns what is not finished
  last_owned : (o : ℕ) (y : Object) → object_at heap o ≡ Some y → IsLast y.owner → IsLastOwned y
  last_owned o y at last = (last, go y.finished refl)
    where
      go : (b : Bool) → y.finished ≡ b → (y.finished ≡ true) ⊎ (y.owner ≡ owners.Unowned)
      go true made = inl made
      go false unmade =
          inr (any_unfinished_objects_stay_unowned p fr.locals s.action (method_at p named) (method_at p m) d (length frs + 1) h o y agrees.ends.unfinished at unmade)

  owned : (o : ℕ) (y : Object) → object_at heap o ≡ Some y → IsOlderAside anew h o y owners.Library ⊎ IsMade o y → IsOwnedAs h heap o y
  owned o y at (inl old) = elim old.owner [
    | inl same ↦ inr (inl (old.before, old.at, (same, old.goes_on.finished)))
    | inr given ↦ inl (last_owned o y at (subst IsLast (sym given) tt))
  ]
  owned o y at (inr (here', inl plain)) = inl (last_owned o y at (made_last y d plain.1))
  owned o y at (inr (here', inr alias)) = inl (last_owned o y at (alias_last y alias.0 d alias.2))

  ends : HaveEnds heap
  ends = ends_on h heap agrees.ends keeps.count (λ o y at. owned o y at (was_there o y at))

  -- ---- classes

  made_class : (y : Object) (c : Conduct) → HasMadeClass p c → IsMadeAs p s.action (method_at p m) (length frs + 1) c y → may_be_made p y.class ≡ true
  made_class y (conducts.Throws e) class made = ap (may_be_made p) made.2 ∙ class
  made_class y (conducts.Fresh e) class made = ap (may_be_made p) made.0 ∙ class
  made_class y conducts.Null class made = absurd made
  made_class y (conducts.Existing k) class made = absurd made
  made_class y conducts.Argument class made = absurd made
  made_class y (conducts.Value z) class made = absurd made
  made_class y conducts.Nothing class made = absurd made

  alias_class : (y : Object) (k : ℕ) (c : Conduct) → HasMadeClass p c → IsAliasMadeAs fr.locals s.action k c y → may_be_made p y.class ≡ true
  alias_class y k (conducts.Throws e) class made = ap (may_be_made p) made.2 ∙ class
  alias_class y k (conducts.Fresh e) class made = ap (may_be_made p) made.0 ∙ class
  alias_class y k conducts.Null class made = absurd made
  alias_class y k (conducts.Existing j) class made = absurd made
  alias_class y k conducts.Argument class made = absurd made
  alias_class y k (conducts.Value z) class made = absurd made
  alias_class y k conducts.Nothing class made = absurd made

  classes : GivesLibraryClasses p → ThrowsMadeClasses p → HasMadeClasses p heap
  classes gives throws = classes_on p h heap agrees.classes (λ o y at. elim (was_there o y at) [
    | inl old ↦ inl (old.before, old.at, old.goes_on.class)
    | inr new ↦ inr (elim new.1 [ inl plain ↦ made_class y d own plain.1 | inr alias ↦ alias_class y alias.0 d own alias.2 ])
  ])
    where
      own : HasMadeClass p d
      own = subst (HasMadeClass p) (sym step.by.1) (library_makes_made_classes p gives throws h arrays m step.by.0 (position_of None fr.locals s.action) s.action step.library)

  pub library_agrees : GivesLibraryClasses p → ThrowsMadeClasses p → Stands p after
      → Agrees p (after ∷ frs) (library_done p h fr.locals s.action (method_at p named) (method_at p m) d (length frs + 1) s.pos (held_by (after ∷ frs))).heap
      (es ++ (library_done p h fr.locals s.action (method_at p named) (method_at p m) d (length frs + 1) s.pos (held_by (after ∷ frs))).lines)
  library_agrees gives throws stands = landed p (after ∷ frs) heap es s.pos (library_entries p s.pos fr.locals s.action (method_at p named) (method_at p m) d (length frs + 1) h)
      (stands, agrees.standing.1) (called_on p h heap keeps fr after frs refl refl agrees.stacked) links ends (classes gives throws) tracked answered agrees.no_leak
      (library_calls_leak_nothing p s.pos fr.locals s.action (method_at p named) (method_at p m) d (length frs + 1) h)

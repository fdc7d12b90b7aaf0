-- What a frame that waits for a call has in hand of what the call creates the obligation of anew.
use Rattle.std.proofs.Common.{◌≡◌, inl, inr, ap, arith, refl, sym, ◌∙◌, ℕ, ◌+◌, Bool, true, false, not, ◌&&◌, true≢false, eqb-true, nat_eq, Option, Some, None, List, [], ◌∷◌, length, slice_get, subst}
use Rattle.std.specs.List.{All}
use Rattle.std.proofs.lemmas.Bool.{and_from, and_parts, not-true}
use Rattle.std.proofs.lemmas.List.Elements.{All-head, All-tail}
use Rattle.program_model.specs.declared.kinds.BodyId.{BodyId}
use Rattle.program_model.specs.declared.program.Method.{Method}
use Rattle.program_model.specs.declared.program.Program.{Program}
use Rattle.program_model.specs.Lookups.{method_at}
use Rattle.ledger_obligations.specs.Bodies.{constructs, reset_in}
use Rattle.ledger_obligations.specs.MustCallSets.{is_heavy_class}
use Rattle.java_control.specs.Calls.{is_reset_of_this, resets_receiver}
use Rattle.java_control.specs.Control.{Step}
use Rattle.control_actions.specs.declared.action.Action.{Action}
use Rattle.control_actions.specs.declared.action.Action.TheVariants as actions
use Rattle.java_control.specs.PlaceNumbers.{IsSmall}
use Rattle.control_actions.specs.declared.fact.Mode.TheVariants as modes
use Rattle.control_actions.specs.declared.fact.OriginKind.{OriginKind}
use Rattle.control_actions.specs.declared.fact.OriginKind.TheVariants as kinds
use Rattle.control_actions.specs.declared.place.Place.TheVariants as places
use Rattle.ownership_rules.specs.Callees.{callee, is_this_target}
use Rattle.ownership_rules.specs.Facts.{PlaceSet, has, is_held, is_own, is_this_origin}
use Rattle.ownership_rules.specs.MovesAtCalls.{moved_at_call}
use Rattle.ownership_rules.specs.declared.moved.Moved.TheVariants as moves
use Rattle.ownership_rules.specs.Signatures.{is_position, is_present}
use Rattle.ledger_state.specs.Contents.{HeapContents}
use Rattle.ledger_state.specs.Heaps.{object_at, root_of}
use Rattle.ledger_state.specs.declared.entry.Owner.{Owner}
use Rattle.ledger_state.specs.declared.entry.Owner.TheVariants as owners
use Rattle.ledger_state.specs.declared.object.Object.{Object}
use Rattle.ledger_state.specs.declared.value.Value.TheVariants as values
use Rattle.ledger_steps.specs.LedgerCallsCalls.{operand_of}
use Rattle.value_laws.specs.Accept.{Accept}
use Rattle.value_laws.specs.Agreement.{AllStand, IsCalledFrom, Stands}
use Rattle.value_laws.specs.Anew.{MayBeAnew, is_target}
use Rattle.value_laws.specs.Chains.{HaveEnds}
use Rattle.value_laws.specs.Choosing.{body_id, frame_steps}
use Rattle.value_laws.specs.Configuration.{Frame}
use Rattle.value_laws.specs.FieldContents.{AreUnfinished, FieldsOwn}
use Rattle.value_laws.specs.Frames.{HaveTargets, KeepsTargets}
use Rattle.value_laws.specs.Heaps.{HasEarlierLinks}
use Rattle.value_laws.specs.Holders.{HoldersAreUnlinked, IsWithin, itself}
use Rattle.value_laws.specs.Lending.{may_be_lent}
use Rattle.value_laws.specs.Outcomes.{IsCallRow}
use Rattle.value_laws.specs.PlaceFacts.{AreWaiting, Covers, IsCovered, IsHeavyObject, IsKeyed, IsOld, IsOwned, OwesOrHolds, is_given, leaves_all, owned, takes_nothing, unowned}
use Rattle.value_laws.specs.Paths.{Reach, relation_of}
use Rattle.value_laws.specs.Places.{place_value}
use Rattle.value_laws.specs.PlainForms.{HasPlainForms}
use Rattle.value_laws.specs.Ranges.{LocalsInRange}
use Rattle.value_laws.specs.Renewing.{HasInHand, HasOwningField, IsLentFrom, IsWhole, IsWholeObject, answers_for_fields, is_renewed, is_reread, lends_this, reopens}
use Rattle.value_laws.proofs.FactOrigins.{this_own}
use Rattle.value_laws.proofs.HeapLaws.{roots_go_on-root}
use Rattle.value_laws.proofs.Readings.{renewed_operand}
use Rattle.value_laws.proofs.ResetTargets.{lent_facts}
use Rattle.value_laws.proofs.RootLaws.{root_itself}
use Rattle.value_laws.proofs.SettledFrames.{AllRenewInHand, RenewsInHand}
use Rattle.value_laws.proofs.Tops.{no_way_round}
use Rattle.value_laws.proofs.Unmet.{row_of}
use Rattle.covering_laws.proofs.Bodies.{running_method}
use Rattle.covering_laws.proofs.Following.{same_body}
use Rattle.covering_laws.proofs.GivenAway.{any_at}
use Rattle.covering_laws.proofs.HeavyFields.{claims_by, claims_owned, covered_at}
use Rattle.covering_laws.proofs.InFields.{held_by_this, held_finished}
use Rattle.covering_laws.proofs.LentHolders.{holds_lent, opened_this}
use Rattle.covering_laws.proofs.Owners.{lent_not_from}
use Rattle.covering_laws.specs.Sight.{AllActInSight, MakesThis}
use Rattle.covering_laws.proofs.OwnerSteps.{own_frame}
use Rattle.covering_laws.proofs.RenewedOperands.{HoldsLent}
use Rattle.covering_laws.proofs.WaitingTargets.{answer, owned_or_lent, owns_target, renewed_at_step, target_mode, target_reached, temp}

none_present : (r : Option ℕ) → is_present r ≡ false → r ≡ None
none_present None is = refl
none_present (Some k) is = absurd (true≢false is)

position_is : (r : Option ℕ) (k : ℕ) → is_position r k ≡ true → r ≡ Some k
position_is None k is = absurd (true≢false (sym is))
position_is (Some n) k is = ap Some (eqb-true n k is)

-- a call on `this` whose first operand is the target
resets_this_at : (p : Program) (a : Action) → is_this_target a ≡ true → reset_in (callee p a) ≡ Some 0 → is_reset_of_this p a ≡ true
resets_this_at p (actions.Call m d n form) on position = and_from _ (resets_receiver (method_at p m)) on (by (method_at p m) position)
  where
    by : (x : Option Method) → reset_in x ≡ Some 0 → resets_receiver x ≡ true
    by None is = absurd (let never : None ≡ Some 0 = is in cc)
    by (Some x) is = rw is refl
resets_this_at p (actions.New m d n) on position = absurd (true≢false (sym on))
resets_this_at p (actions.Super m d n) on position = absurd (true≢false (sym on))
resets_this_at p a on position = absurd (true≢false (sym on))

module _ (p : Program) (ac : Accept p) (forms : HasPlainForms p) (h : HeapContents) (have : HaveEnds h) (links : HasEarlierLinks h) (holders : FieldsOwn p h) (unlinked : HoldersAreUnlinked (is_heavy_class p) h)
    (fr : Frame) (frs : List Frame) (mine : LocalsInRange h fr.locals) (st : Stands p fr) (targets : KeepsTargets p fr) (i : ℕ) (s : Step) (here : slice_get (frame_steps p fr) i ≡ Some s) (row : IsCallRow s.action)
    (old : ℕ → Bool) (aged : IsOld p h frs fr old) (covered : IsCovered p h (is_given p h fr) (is_reread p h fr) old frs fr) (unfinished : AreUnfinished p h (fr ∷ frs)) (making : MakesThis p h fr) where
  running : (m : Method) × (method_at p st.body.method ≡ Some m) × (method_at p fr.method ≡ Some m)
  running = let run = running_method p ac fr st in (run.0, ap (method_at p) st.method ∙ run.1, run.1)

  holds : HoldsLent p h old frs fr st
  holds = holds_lent p ac forms h links holders fr mine st old frs targets have unfinished (is_given p h fr) (is_reread p h fr) covered unlinked

  -- what is lent to the method
  may_lend : (away anew : Bool) (o : ℕ) (x : Object) (c : Covers p h away anew old frs fr o x) → is_target p s.action c.fact.places ≡ true → c.fact.mode ≡ modes.Lent → may_be_lent running.0 c.origin.kind ≡ true
  may_lend away anew o x c target lent =
      lent_facts p st.number st.body running.0 st.at running.1 c.origin fr.control c.fact (target_reached p ac h fr old frs st i s here row away anew o x c target) lent

  hands : (u : ℕ) (x : Object) → object_at h u ≡ Some x → IsWholeObject p x → OwesOrHolds p h u x → is_renewed p h fr u ≡ true → HasInHand p h (IsLentFrom p h frs) (length frs + 1) fr u x.owner
  hands u x at wide owes renewed = elim (owned_or_lent p ac h fr old frs st i s here row covered holds have targets making u x at wide.1 owes wide.0 renewed) [
    | inl it ↦ inl (it.key.owner it.kept it.own)
    | inr other ↦ inr other
  ]

  one : (u v : ℕ) → is_renewed p h fr u ≡ true → is_renewed p h fr v ≡ true → u ≡ v
  one u v first second =
      let k = renewed_operand p h fr.locals s.action u (renewed_at_step p h fr st i s u here row first) in
      let n = renewed_operand p h fr.locals s.action v (renewed_at_step p h fr st i s v here row second) in
      let same : k.0 ≡ n.0 = (let both : Some k.0 ≡ Some n.0 = sym k.1 ∙ n.1 in cc) in
      let both : Some u ≡ Some v = sym k.2 ∙ ap (λ (m : ℕ). root_of h (operand_of fr.locals s.action m)) same ∙ n.2 in
      cc

  module _ (u : ℕ) (x : Object) (at : object_at h u ≡ Some x) (wide : IsWholeObject p x) (owes : OwesOrHolds p h u x) (renewed : is_renewed p h fr u ≡ true) where
    abbrev operand : (t : ℕ) × IsSmall (places.Temp t) × (root_of h (place_value p h fr.method fr.locals (places.Temp t)) ≡ Some u) × ((held : PlaceSet) → has held (places.Temp t) ≡ true → is_target p s.action held ≡ true)
    operand = temp p ac h fr old frs st i s here row covered holds have targets making u x at wide.1 owes wide.0 renewed

    keyed : IsKeyed p h (is_given p h fr u x.class) (is_reread p h fr u x.owner) old frs fr (places.Temp operand.0) u x
    keyed = covered (places.Temp operand.0) u x operand.1 refl operand.2 at wide.1 owes

    owns : (c : Covers p h (is_given p h fr u x.class) (is_reread p h fr u x.owner) old frs fr u x) → has c.fact.places (places.Temp operand.0) ≡ true → IsOwned p h (is_given p h fr u x.class) (is_reread p h fr u x.owner) old frs fr u x c
        → is_own c.fact.mode ≡ true → x.owner ≡ owners.Frame (length frs + 1)
    owns c in' key own = let it = owns_target p ac h fr old frs st i s here row covered holds have targets making u x at wide.1 owes wide.0 renewed c in' key own in it.key.owner it.kept it.own

    -- a method that leaves all as it is owns what it creates the obligation of anew
    own_all : leaves_all p (method_at p fr.method) ≡ true → x.owner ≡ owners.Frame (length frs + 1)
    own_all leaves = by keyed
      where
        parts : ((not (constructs (method_at p fr.method)) && takes_nothing p (method_at p fr.method)) ≡ true) × (not (is_present (reset_in (method_at p fr.method))) ≡ true)
        parts = and_parts (not (constructs (method_at p fr.method)) && takes_nothing p (method_at p fr.method)) (not (is_present (reset_in (method_at p fr.method)))) leaves

        plain : constructs (method_at p fr.method) ≡ false
        plain = not-true (constructs (method_at p fr.method)) (and_parts (not (constructs (method_at p fr.method))) (takes_nothing p (method_at p fr.method)) parts.0).0

        silent : reset_in (method_at p fr.method) ≡ None
        silent = none_present (reset_in (method_at p fr.method)) (not-true (is_present (reset_in (method_at p fr.method))) parts.1)

        answers_not : answers_for_fields (method_at p fr.method) ≡ false
        answers_not = rw (plain, silent) refl

        lends_none : (kind : OriginKind) → may_be_lent running.0 kind ≡ false
        lends_none (kinds.Param k) = ap (λ (r : Option ℕ). is_position r (k + 1)) (sym (ap reset_in running.2) ∙ silent)
        lends_none kinds.ThisRef = rw (sym (ap constructs running.2) ∙ plain, sym (ap reset_in running.2) ∙ silent) refl
        lends_none kind = refl

        by : IsKeyed p h (is_given p h fr u x.class) (is_reread p h fr u x.owner) old frs fr (places.Temp operand.0) u x → x.owner ≡ owners.Frame (length frs + 1)
        by (owned c in' key) = elim (claims_by p (method_at p fr.method) c.origin c.fact key.owning) [
          | inl own ↦ owns c in' key own
          | inr held ↦ absurd (true≢false (sym held.1 ∙ answers_not))
        ]
        by (unowned k) = elim (target_mode p ac h fr old frs st i s here row (is_given p h fr u x.class) (is_reread p h fr u x.owner) u x k.covers (operand.3 k.covers.fact.places k.here)) [
          | inl claimed ↦ absurd (true≢false (sym claimed ∙ k.unowned))
          | inr lent ↦ absurd (true≢false (sym (may_lend (is_given p h fr u x.class) (is_reread p h fr u x.owner) u x k.covers (operand.3 k.covers.fact.places k.here) lent) ∙ lends_none k.covers.origin.kind))
        ]

  -- ---- `this`

  module _ (w : ℕ) (y : Object) (this : fr.locals.this ≡ values.Object w) (there : object_at h w ≡ Some y) (owes : OwesOrHolds p h w y) where
    self : y.link ≡ None → root_of h fr.locals.this ≡ Some w
    self none = ap (root_of h) this ∙ ap Some (root_itself h w y there none)

    made : IsHeavyObject p y → y.link ≡ None → constructs (method_at p fr.method) ≡ true → ⊥
    made wide none makes =
        let c = covered_at p h (is_given p h fr w y.class) (is_reread p h fr w y.owner) old frs fr places.This w y (covered places.This w y tt refl (self none) there wide.1 owes) in
        let reach = subst (λ (b : BodyId). Reach p b (relation_of p b) c.0.origin fr.control c.0.fact) (same_body c.0.body st.number (body_id p fr.method) c.0.id st.id) c.0.reached in
        true≢false (sym wide.0 ∙ c.0.makes makes (this_own p ac st.number st.body st.at c.0.origin fr.control c.0.fact reach c.1))

    module _ (wide : IsWholeObject p y) where
      lent : y.link ≡ None → reopens (method_at p fr.method) ≡ true → IsLentFrom p h frs w y.owner
      lent none opens = opened_this p ac forms h links holders fr mine st old frs targets have unfinished (is_given p h fr) (is_reread p h fr) covered opens w y this there wide.1 owes none wide.0

      -- where a method that creates the obligation of `this` anew, or a constructor, waits for a call that does so, it names it so
      module _ (renewed : is_renewed p h fr w ≡ true) where
        abbrev place : (t : ℕ) × IsSmall (places.Temp t) × (root_of h (place_value p h fr.method fr.locals (places.Temp t)) ≡ Some w) × ((held : PlaceSet) → has held (places.Temp t) ≡ true → is_target p s.action held ≡ true)
        place = operand w y there wide owes renewed

        unlinked' : y.link ≡ None
        unlinked' = roots_go_on-root h (place_value p h fr.method fr.locals (places.Temp place.0)) w y links place.2 there

        -- by a fact of `this`
        lends_by : (c : Covers p h (is_given p h fr w y.class) (is_reread p h fr w y.owner) old frs fr w y) → has c.fact.places (places.Temp place.0) ≡ true → is_this_origin c.origin.kind ≡ true → lends_this p fr ≡ true
        lends_by c in' its = any_at (λ (v : Step). is_reset_of_this p v.action) (frame_steps p fr) i s here (resets_this_at p s.action (and_parts (nat_eq may.0 0) (is_this_target s.action) shown).1
            (may.1 ∙ ap Some (eqb-true may.0 0 (and_parts (nat_eq may.0 0) (is_this_target s.action) shown).0)))
          where
            may : (k : ℕ) × (reset_in (callee p s.action) ≡ Some k) × MayBeAnew p st.number c.origin s.action k c.fact × (moved_at_call p c.origin s.action s.edge c.fact ≡ moves.Moves → ⊥)
            may = answer p ac h fr old frs st i s here row (is_given p h fr w y.class) (is_reread p h fr w y.owner) w y c (place.3 c.fact.places in')

            shown : (nat_eq may.0 0 && is_this_target s.action) ≡ true
            shown = go (nat_eq may.0 0 && is_this_target s.action) refl
              where
                go : (b : Bool) → (nat_eq may.0 0 && is_this_target s.action) ≡ b → b ≡ true
                go true is = refl
                go false is = absurd (true≢false (sym (and_from (is_this_origin c.origin.kind) (not (nat_eq may.0 0 && is_this_target s.action)) its (ap not is)) ∙ (may.2).shown))

        -- what a field of `this` owns is not `this`
        not_held : (c : Covers p h (is_given p h fr w y.class) (is_reread p h fr w y.owner) old frs fr w y) → IsOwned p h (is_given p h fr w y.class) (is_reread p h fr w y.owner) old frs fr w y c
            → (is_held c.fact.mode ≡ true) × (answers_for_fields (method_at p fr.method) ≡ true) → lends_this p fr ≡ false → ⊥
        not_held c key held keeps =
            let done = held_finished p h (is_given p h fr w y.class) (is_reread p h fr w y.owner) old frs fr w y c key.owning held.0 keeps in
            let own = held_by_this p h (is_given p h fr w y.class) (is_reread p h fr w y.owner) old frs fr w y c done held.0 held.1 keeps (claims_owned p (method_at p fr.method) c.origin c.fact key.owning).0 in
            let same : own.holder ≡ w = (let both : values.Object own.holder ≡ values.Object w = sym own.runs ∙ this in cc) in
            no_way_round h have w own.holder own.field y there own.owns (subst (λ (n : ℕ). IsWithin h n w) (sym same) (itself w))

        where_lent : (b : Bool) → lends_this p fr ≡ b → (lends_this p fr ≡ false → ⊥) → lends_this p fr ≡ true
        where_lent true is never = is
        where_lent false is never = absurd (never is)

        module _ (opens : reopens (method_at p fr.method) ≡ true) where
          opening : (constructs (method_at p fr.method) ≡ false) × (reset_in (method_at p fr.method) ≡ Some 0)
          opening =
              let both = and_parts (not (constructs (method_at p fr.method))) (is_position (reset_in (method_at p fr.method)) 0) opens in
              (not-true (constructs (method_at p fr.method)) both.0, position_is (reset_in (method_at p fr.method)) 0 both.1)

          is_this : (kind : OriginKind) → may_be_lent running.0 kind ≡ true → is_this_origin kind ≡ true
          is_this (kinds.Param k) may = absurd (true≢false (sym may ∙ ap (λ (r : Option ℕ). is_position r (k + 1)) (sym (ap reset_in running.2) ∙ opening.1) ∙ other k))
            where
              other : (n : ℕ) → is_position (Some 0) (n + 1) ≡ false
              other n = go (nat_eq 0 (n + 1)) refl
                where
                  go : (b : Bool) → nat_eq 0 (n + 1) ≡ b → nat_eq 0 (n + 1) ≡ false
                  go false none = none
                  go true same = absurd (let zero : 0 ≡ n + 1 = eqb-true 0 (n + 1) same in omega (arith, zero))
          is_this kinds.ThisRef may = refl
          is_this kind may = absurd (true≢false (sym may))

          not_mine : y.owner ≡ owners.Frame (length frs + 1) → ⊥
          not_mine own = true≢false (sym (own_frame (length frs + 1) y.owner own) ∙ lent_not_from p h frs w y.owner (lent unlinked' opens))

          opening_lends : lends_this p fr ≡ true
          opening_lends = by (keyed w y there wide owes renewed)
            where
              by : IsKeyed p h (is_given p h fr w y.class) (is_reread p h fr w y.owner) old frs fr (places.Temp place.0) w y → lends_this p fr ≡ true
              by (owned c in' key) = elim (claims_by p (method_at p fr.method) c.origin c.fact key.owning) [
                | inl own ↦ absurd (not_mine (owns w y there wide owes renewed c in' key own))
                | inr held ↦ where_lent (lends_this p fr) refl (not_held c key held)
              ]
              by (unowned k) = elim (target_mode p ac h fr old frs st i s here row (is_given p h fr w y.class) (is_reread p h fr w y.owner) w y k.covers (place.3 k.covers.fact.places k.here)) [
                | inl claimed ↦ absurd (true≢false (sym claimed ∙ k.unowned))
                | inr mode ↦ lends_by k.covers k.here
                    (is_this k.covers.origin.kind (may_lend (is_given p h fr w y.class) (is_reread p h fr w y.owner) w y k.covers (place.3 k.covers.fact.places k.here) mode))
              ]

        module _ (makes : constructs (method_at p fr.method) ≡ true) where
          -- what the constructor makes is not finished, and of a class with owning fields
          open' : (y.finished ≡ false) × HasOwningField p y.class
          open' = by wide.0
            where
              by : IsWhole p y → (y.finished ≡ false) × HasOwningField p y.class
              by (inl done) = absurd (made (done, wide.1) unlinked' makes)
              by (inr fields) = (go y.finished refl, fields)
                where
                  go : (b : Bool) → y.finished ≡ b → y.finished ≡ false
                  go true done = absurd (made (done, wide.1) unlinked' makes)
                  go false is = is

          making_lends : lends_this p fr ≡ true
          making_lends = by (keyed w y there wide owes renewed)
            where
              of_lent : (c : Covers p h (is_given p h fr w y.class) (is_reread p h fr w y.owner) old frs fr w y) → has c.fact.places (places.Temp place.0) ≡ true → c.fact.mode ≡ modes.Lent → lends_this p fr ≡ true
              of_lent c in' mode = go (is_this_origin c.origin.kind) refl
                where
                  go : (b : Bool) → is_this_origin c.origin.kind ≡ b → lends_this p fr ≡ true
                  go true its = lends_by c in' its
                  go false other =
                      absurd ((c.begun mode (ap (λ (b : Bool). constructs (method_at p fr.method) && b) other ∙ no_and (constructs (method_at p fr.method))) open'.1 open'.0).2 makes this)
                    where
                      no_and : (a : Bool) → (a && false) ≡ false
                      no_and true = refl
                      no_and false = refl

              by : IsKeyed p h (is_given p h fr w y.class) (is_reread p h fr w y.owner) old frs fr (places.Temp place.0) w y → lends_this p fr ≡ true
              by (owned c in' key) = elim (claims_by p (method_at p fr.method) c.origin c.fact key.owning) [
                | inl own ↦ absurd (let never : ◌≡◌ {A = Owner} owners.Unowned (owners.Frame (length frs + 1)) = sym (have.unfinished w y there open'.0) ∙ owns w y there wide owes renewed c in' key own in cc)
                | inr held ↦ where_lent (lends_this p fr) refl (not_held c key held)
              ]
              by (unowned k) = elim (target_mode p ac h fr old frs st i s here row (is_given p h fr w y.class) (is_reread p h fr w y.owner) w y k.covers (place.3 k.covers.fact.places k.here)) [
                | inl claimed ↦ absurd (true≢false (sym claimed ∙ k.unowned))
                | inr mode ↦ of_lent k.covers k.here mode
              ]

  pub renews_in_hand : RenewsInHand p h fr frs
  renews_in_hand = record {
    hands = hands;
    one = one;
    own = λ u x at wide owes renewed leaves. own_all u x at wide owes renewed leaves;
    this = λ w y this there wide owes none kind renewed. elim kind [ inl opens ↦ opening_lends w y this there owes wide renewed opens | inr makes ↦ making_lends w y this there owes wide renewed makes ];
    lent = λ w y this there wide owes none opens. lent w y this there owes wide none opens;
    made = λ w y this there wide owes none makes. made w y this there owes wide none makes;
    ends = λ w y this there wide none settled. aged.ends w y there wide (aged.self w y this there wide none settled);
  }

-- so it is with all frames that wait, `fr` is the one above them
pub all_renew_in_hand : (p : Program) → Accept p → HasPlainForms p → (h : HeapContents) → HaveEnds h → HasEarlierLinks h → FieldsOwn p h → HoldersAreUnlinked (is_heavy_class p) h → (fr : Frame) (frs : List Frame) → AllStand p frs → HaveTargets p frs
    → IsCalledFrom p h fr frs → All (λ (u : Frame). LocalsInRange h u.locals) frs → (above : ℕ → Bool) → AreWaiting p h above frs → AreUnfinished p h frs → AllActInSight p h frs → AllRenewInHand p h frs
all_renew_in_hand p ac forms h have links holders unlinked fr [] standing targets stacked in' above waiting unfinished sight = tt
all_renew_in_hand p ac forms h have links holders unlinked fr (caller ∷ rest) standing targets stacked in' above waiting unfinished sight = (
  renews_in_hand p ac forms h have links holders unlinked caller rest (All-head (λ (u : Frame). LocalsInRange h u.locals) caller rest in') standing.0 targets.0 stacked.0.index stacked.0.step stacked.0.here
      (row_of stacked.0.step.action stacked.0.named stacked.0.calls) waiting.0 waiting.2 waiting.3 unfinished sight.0.makes,
  all_renew_in_hand p ac forms h have links holders unlinked caller rest standing.1 targets.1 stacked.1 (All-tail (λ (u : Frame). LocalsInRange h u.locals) caller rest in') waiting.0 waiting.4 unfinished.1 sight.1,
)

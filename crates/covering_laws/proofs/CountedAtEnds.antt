-- What a frame that waits counts on as the frame above it ends: the objects of its facts that are sure were old when that frame began, the call spares them, and nobody has given them up.
use Rattle.std.proofs.Common.{◌≡◌, ◌⊎◌, inl, inr, ℕ, ◌+◌, Bool, true, false, true≢false, not, ◌||◌, None, Some, List, [], ◌∷◌, length, slice_get, refl, sym, ap, ◌∙◌, subst, eq-eqb}
use Rattle.std.proofs.lemmas.Bool.{and_from, and_parts, not-true, or_right}
use Rattle.program_model.specs.declared.kinds.BodyId.{BodyId}
use Rattle.program_model.specs.declared.kinds.FieldId.{FieldId}
use Rattle.program_model.specs.declared.program.Method.{Method}
use Rattle.program_model.specs.declared.program.Program.{Program}
use Rattle.program_model.specs.Lookups.{method_at}
use Rattle.program_model.specs.Overrides.{is_library}
use Rattle.ledger_obligations.specs.Bodies.{alias_in, constructs, reset_in}
use Rattle.ledger_obligations.specs.MustCallSets.{is_heavy_class}
use Rattle.ledger_obligations.specs.Obligations.{is_held_by, is_unmet}
use Rattle.ownership_rules.specs.Signatures.{is_position, is_present}
use Rattle.ownership_rules.specs.Facts.{has, has_part, is_held, is_own}
use Rattle.java_control.specs.Calls.{is_reset_of_this}
use Rattle.java_control.specs.Control.{Step}
use Rattle.control_actions.specs.declared.place.Place.TheVariants as places
use Rattle.ledger_state.specs.Contents.{HeapContents}
use Rattle.ledger_state.specs.Heaps.{object_at}
use Rattle.ledger_state.specs.declared.entry.Owner.{Owner}
use Rattle.ledger_state.specs.declared.entry.Owner.TheVariants as owners
use Rattle.ledger_state.specs.declared.object.Object.{Object}
use Rattle.value_laws.specs.Accept.{Accept}
use Rattle.value_laws.specs.Agreement.{Stands}
use Rattle.value_laws.specs.CalledRows.{is_emptied}
use Rattle.value_laws.specs.Chains.{HaveEnds}
use Rattle.value_laws.specs.Choosing.{body_id, frame_steps}
use Rattle.value_laws.specs.Configuration.{Frame}
use Rattle.value_laws.specs.FieldContents.{AreNew, AreUnfinished, HaveContents, IsContent}
use Rattle.value_laws.specs.HeapAnew.{is_field_owner}
use Rattle.value_laws.specs.Holders.{HoldersAreUnlinked, by_field, itself}
use Rattle.value_laws.specs.Paths.{Reach, relation_of}
use Rattle.value_laws.specs.PlaceFacts.{Covers, IsAnswered, IsApart, IsCovered, IsOld, IsOwned, OwesOrHolds, Spares, is_given, is_given_up, tells_calls}
use Rattle.value_laws.specs.PlainForms.{HasPlainForms}
use Rattle.value_laws.specs.Renewing.{IsHeldBy, IsLentFrom, IsOwnedByThis, IsWholeObject, answers_for_fields, is_renewed, is_reread, lends_this, makes_alone, reopens}
use Rattle.value_laws.proofs.HeldPlaces.{held_in_this}
use Rattle.value_laws.proofs.RootLaws.{one_object}
use Rattle.value_laws.proofs.SettledFrames.{AllRenewInHand, RenewsInHand}
use Rattle.value_laws.proofs.Spared.{KeepsContent}
use Rattle.value_laws.proofs.SparingCalls.{content_ends_below, lent_ends_below, unmade}
use Rattle.value_laws.proofs.SparingEnds.{CountsOn, comparable_bears, counted_is_spared, counts_as_content, counts_as_made, counts_as_owned, counts_as_spared, held_is_below, owned_is_below}
use Rattle.value_laws.proofs.Tracking.{same_body}
use Rattle.covering_laws.specs.Covering.{IsCountedOn}
use Rattle.covering_laws.proofs.Bodies.{running_method}
use Rattle.covering_laws.proofs.HeavyFields.{answers_by, claims_by, claims_owned}
use Rattle.covering_laws.proofs.InFields.{held_by_this}
use Rattle.covering_laws.proofs.SaidFacts.{lends_by_step}
use Rattle.covering_laws.proofs.ThisFacts.{lent_in_body, lent_not_held}

-- ---- what is lent was not given up

-- nor is what a field of such an object owns
content_answered : (h : HeapContents) (o : ℕ) (x : Object) (w : ℕ) (f : FieldId) → object_at h o ≡ Some x → x.owner ≡ owners.Field w f → IsAnswered h w → IsAnswered h o
content_answered h o x w f at owns is = (is.0, record { within = by_field o w is.0 f x at owns is.1.within; object = is.1.object; at = is.1.at; unheld = is.1.unheld }, is.2)

lent_answered : (p : Program) (h : HeapContents) → HaveEnds h → (frs : List Frame) → AreUnfinished p h frs → (o : ℕ) (x : Object) → object_at h o ≡ Some x → IsLentFrom p h frs o x.owner → IsAnswered h o
lent_answered p h have [] unfinished o x at lent = absurd lent
lent_answered p h have (fr ∷ frs) unfinished o x at (renewed, inl owner) = (o, record { within = itself o; object = x; at = at; unheld = ap is_field_owner owner }, ap is_given_up owner)
lent_answered p h have (fr ∷ frs) unfinished o x at (renewed, inr (inl lent)) = lent_answered p h have frs unfinished.1 o x at lent
lent_answered p h have (fr ∷ frs) unfinished o x at (renewed, inr (inr (inl held))) =
    let w = unmade p h have fr frs unfinished o x at held in
    content_answered h o x held.1.holder held.1.field at held.1.owns
    (held.1.holder, record { within = itself held.1.holder; object = w.object; at = w.at; unheld = ap is_field_owner w.unowned }, ap is_given_up w.unowned)
lent_answered p h have (fr ∷ frs) unfinished o x at (renewed, inr (inr (inr (inl held)))) =
    content_answered h o x held.holder held.field at held.owns (lent_answered p h have frs unfinished.1 held.holder held.object held.at held.lends)
lent_answered p h have (fr ∷ frs) unfinished o x at (renewed, inr (inr (inr (inr made)))) =
    (o, record { within = itself o; object = x; at = at; unheld = ap is_field_owner made.1 }, ap is_given_up made.1)

-- one object is lent to a frame at most
one_lent : (p : Program) (h : HeapContents) (frs : List Frame) → AllRenewInHand p h frs → (a b : ℕ) (u v : Owner) → IsLentFrom p h frs a u → IsLentFrom p h frs b v → a ≡ b
one_lent p h [] all a b u v first second = absurd first
one_lent p h (fr ∷ frs) all a b u v first second = all.0.one a b first.0 second.0

-- ---- what is counted on

-- `stack` are all frames, `fr` the one that ends; `old` and `older` are what was old for it and for the caller when they began.
module _ (p : Program) (ac : Accept p) (forms : HasPlainForms p) (h : HeapContents) (have : HaveEnds h) (unlinked : HoldersAreUnlinked (is_heavy_class p) h) (stack : List Frame)
    (contents : HaveContents p stack h) (fr caller : Frame) (rest : List Frame) (below : Stands p caller) (j : ℕ) (t : Step)
    (there : slice_get (frame_steps p caller) j ≡ Some t) (old older : ℕ → Bool) (aged : IsOld p h (caller ∷ rest) fr old) (up : (o : ℕ) → older o ≡ true → old o ≡ true) (was_old : IsOld p h rest caller older)
    (waiting : IsCovered p h (is_given p h caller) (is_reread p h caller) older rest caller) (renews : RenewsInHand p h caller rest) (all_renew : AllRenewInHand p h rest) (news : AreNew p (caller ∷ rest)) (unready : AreUnfinished p h (caller ∷ rest)) where
  run : (x : Method) × (method_at p caller.method ≡ Some x) × (is_library p x.class ≡ false)
  run = running_method p ac caller below

  module _ (o : ℕ) (x : Object) (before : object_at h o ≡ Some x) (done : x.finished ≡ true) (heavy : is_heavy_class p x.class ≡ true) (owes : OwesOrHolds p h o x) (unrenewed : is_renewed p h caller o ≡ false) where
    abbrev Its : Type 0
    Its = Covers p h (is_given p h caller o x.class) (is_reread p h caller o x.owner) older rest caller o x

    spares : CountsOn p h caller rest o x → Spares p h caller o
    spares counts = counted_is_spared p h have caller rest news unready o x before
        (λ u y at heavy' comes renewed. renews.hands u y at heavy' (comparable_bears p h have unlinked o u x y before at heavy comes owes) renewed) unrenewed counts

    by_owner : x.owner ≡ owners.Frame (length rest + 1) → IsCountedOn p h old (caller ∷ rest) fr o x
    by_owner owner = (
      aged.below o x before (done, heavy) (owned_is_below p h have caller rest news unready x.owner owner),
      spares (counts_as_owned owner),
      (o, record { within = itself o; object = x; at = before; unheld = ap is_field_owner owner }, ap is_given_up owner),
    )

    -- a field of `this` owns it, which the caller does not lend
    module _ (keeps : lends_this p caller ≡ false) (by : IsOwnedByThis p caller x.owner) where
      abbrev w : ℕ
      w = by.holder

      holder : (y : Object) × (object_at h w ≡ Some y) × (y.link ≡ None) × (is_heavy_class p y.class ≡ true)
      holder = unlinked o x w by.field before heavy by.owns

      content : IsContent p stack h o x w by.field
      content = contents o x w by.field before (or_right (is_unmet x) (is_heavy_class p x.class) heavy) by.owns

      whole : IsWholeObject p holder.0
      whole = (inr (by.field, content.field, content.declared, content.owning, sym content.class ∙ ap (λ (y : Object). y.class) (one_object content.holder holder.0 (object_at h w) content.at holder.1)), holder.3)

      holds : OwesOrHolds p h w holder.0
      holds = inr (inl (o, x, before, done, heavy, ap (λ (a : Owner). is_held_by a w) by.owns ∙ eq-eqb w w refl))

      -- the call does not create its obligation anew
      kept : (reopens (method_at p caller.method) ≡ true) ⊎ (constructs (method_at p caller.method) ≡ true) → is_renewed p h caller w ≡ false
      kept runs = go (is_renewed p h caller w) refl
        where
          go : (b : Bool) → is_renewed p h caller w ≡ b → is_renewed p h caller w ≡ false
          go false none = none
          go true renewed = absurd (true≢false (sym (renews.this w holder.0 by.runs holder.1 whole holds holder.2 runs renewed) ∙ keeps))

      -- in a constructor
      by_maker : makes_alone (method_at p caller.method) ≡ true → Spares p h caller o × IsAnswered h o
      by_maker alone =
          let held : IsHeldBy p caller x.owner = (alone, by) in
          let made = unmade p h have caller rest unready o x before held in (
            spares (counts_as_made held (kept (inr (and_parts (constructs (method_at p caller.method)) (not (is_present (alias_in (method_at p caller.method)))) alone).0))),
            content_answered h o x w by.field before by.owns (w, record { within = itself w; object = made.object; at = made.at; unheld = ap is_field_owner made.unowned }, ap is_given_up made.unowned),
          )

      -- or `this` is lent to the caller
      module _ (opens : reopens (method_at p caller.method) ≡ true) where
        lent : IsLentFrom p h rest w holder.0.owner
        lent = renews.lent w holder.0 by.runs holder.1 whole holds holder.2 opens

        keeps_content : KeepsContent p h caller rest w by.field o x
        keeps_content = record {
          at = before;
          owns = by.owns;
          runs = by.runs;
          method = not-true (constructs (method_at p caller.method)) (and_parts (not (constructs (method_at p caller.method))) (is_position (reset_in (method_at p caller.method)) 0) opens).0;
          holder = kept (inl opens);
          content = unrenewed;
          one = λ a b is. one_lent p h rest all_renew a w b holder.0.owner is lent;
        }

        by_lent : Spares p h caller o × IsAnswered h o
        by_lent = (
          spares (counts_as_content w by.field keeps_content (content_ends_below p h have rest o x w by.field before by.owns (lent_ends_below p h have rest unready.1 w holder.0 holder.1 lent))),
          content_answered h o x w by.field before by.owns (lent_answered p h have rest unready.1 w holder.0 holder.1 lent),
        )

    -- a fact that says that a field holds the object has a part of `this`: where the call does not empty it, the caller keeps `this`
    keeps_this : (c : Its) → is_held c.fact.mode ≡ true → answers_for_fields (method_at p caller.method) ≡ true → is_emptied p t.action c.fact.places ≡ false → lends_this p caller ≡ false
    keeps_this c held answers full = lends_by_step p caller below j t there (resets (is_reset_of_this p t.action) refl)
      where
        reached : Reach p below.number (relation_of p below.number) c.origin caller.control c.fact
        reached = subst (λ (b : BodyId). Reach p b (relation_of p b) c.origin caller.control c.fact) (same_body c.body below.number (body_id p caller.method) c.id below.id) c.reached

        part : (b : Bool) → has c.fact.places places.This ≡ b → (b || has_part c.fact.places) ≡ true → has_part c.fact.places ≡ true
        part true is inside = absurd (lent_not_held c.fact.mode (lent_in_body p ac caller below answers c.origin c.fact reached is) held)
        part false none inside = inside

        has' : has_part c.fact.places ≡ true
        has' = part (has c.fact.places places.This) refl
            (held_in_this p ac below.number below.body run.0 below.at (ap (method_at p) below.method ∙ run.1) (λ k i u g d comes here is. (forms.stores below.number i u g d comes here is)) c.origin caller.control c.fact reached held)

        resets : (b : Bool) → is_reset_of_this p t.action ≡ b → is_reset_of_this p t.action ≡ false
        resets false none = none
        resets true is = absurd (true≢false (sym (and_from (is_reset_of_this p t.action) (has_part c.fact.places) is has') ∙ full))

    abbrev pub IsSure : Its → Type 0
    IsSure c =
        (IsOwned p h (is_given p h caller o x.class) (is_reread p h caller o x.owner) older rest caller o x c × (is_given p h caller o x.class ≡ false))
        ⊎ ((tells_calls p caller.method c.origin c.fact ≡ true) × IsApart p h older rest caller o c.fact)

    pub counted : (c : Its) → IsSure c → is_emptied p t.action c.fact.places ≡ false → IsCountedOn p h old (caller ∷ rest) fr o x
    counted c (inr (tells, apart)) full = (up o apart.0, spares (counts_as_spared apart.1 (was_old.ends o x before (done, heavy) apart.0)), apart.2)
    counted c (inl (key, kept)) full = by (claims_by p (method_at p caller.method) c.origin c.fact key.owning)
      where
        held_by : is_held c.fact.mode ≡ true → answers_for_fields (method_at p caller.method) ≡ true → IsCountedOn p h old (caller ∷ rest) fr o x
        held_by held answers =
            let keeps = keeps_this c held answers full in
            let its = held_by_this p h (is_given p h caller o x.class) (is_reread p h caller o x.owner) older rest caller o x c done held answers keeps (claims_owned p (method_at p caller.method) c.origin c.fact key.owning).0 in
            let both : Spares p h caller o × IsAnswered h o = elim (answers_by (method_at p caller.method) answers) [ inl alone ↦ by_maker keeps its alone | inr opens ↦ by_lent keeps its opens ] in
            (aged.below o x before (done, heavy) (held_is_below p h have caller rest news unready x.owner answers keeps its), both.0, both.1)

        by : (is_own c.fact.mode ≡ true) ⊎ ((is_held c.fact.mode ≡ true) × (answers_for_fields (method_at p caller.method) ≡ true)) → IsCountedOn p h old (caller ∷ rest) fr o x
        by (inl own) = by_owner (key.owner kept own)
        by (inr (held, answers)) = held_by held answers

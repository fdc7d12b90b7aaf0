-- A call creates the obligation of an object anew that is lent to its frame, and that of what the object is within: who owns this is a field, or a frame below; and such a frame goes on to track it.
use Rattle.std.proofs.Common.{Bool, List, Some, not, [], arith, eq-eqb, eqb-true, false, inl, inr, length, nat_eq, refl, sym, ap, true, true≢false, ℕ, ◌&&◌, ◌+◌, ◌∙◌, ◌∷◌, ◌≡◌, ◌≤◌, ◌⊎◌}
use Rattle.std.specs.FinSet as set
use Rattle.std.specs.Prelude.{MatchBool}
use Rattle.std.specs.List.{All}
use Rattle.std.proofs.lemmas.List.Elements.{All-head, All-tail}
use Rattle.program_model.specs.declared.kinds.FieldId.{FieldId}
use Rattle.program_model.specs.declared.program.Program.{Program}
use Rattle.ledger_obligations.specs.MustCallSets.{is_heavy_class, must_of}
use Rattle.ledger_obligations.specs.Obligations.{is_library_owner}
use Rattle.ledger_state.specs.Contents.{HeapContents}
use Rattle.ledger_state.specs.Heaps.{object_at}
use Rattle.ledger_state.specs.declared.entry.Owner.{Owner}
use Rattle.ledger_state.specs.declared.entry.Owner.TheVariants as owners
use Rattle.ledger_state.specs.declared.object.Object.{Object}
use Rattle.content_laws.specs.Accept.{Accept}
use Rattle.content_laws.specs.Agreement.{AllStand, Awaits, IsAwaited, IsCalledFrom}
use Rattle.content_laws.specs.Chains.{HaveEnds}
use Rattle.content_laws.specs.Configuration.{Frame}
use Rattle.content_laws.specs.FieldContents.{AreUnfinished, FieldsOwn}
use Rattle.content_laws.specs.Frames.{HaveTargets}
use Rattle.content_laws.specs.Heaps.{HasEarlierLinks}
use Rattle.content_laws.specs.HeapAnew.{is_field_owner}
use Rattle.content_laws.specs.Holders.{HoldersAreUnlinked, IsWithin}
use Rattle.content_laws.specs.PlaceFacts.{AreWaiting, RunsOn, is_given, may_owe}
use Rattle.content_laws.specs.PlainForms.{HasPlainForms}
use Rattle.content_laws.specs.Ranges.{LocalsInRange}
use Rattle.content_laws.specs.Renewing.{HasInHand, IsHeldBy, IsLentFrom, IsMadeBy, is_renewed, is_reread}
use Rattle.content_laws.specs.Sight.{AllActInSight}
use Rattle.content_laws.specs.Steps.{RootsStay}
use Rattle.content_laws.proofs.LentHolders.{holds_lent}
use Rattle.content_laws.proofs.Readings.{renewed_on}
use Rattle.content_laws.proofs.RootLaws.{one_object}
use Rattle.content_laws.proofs.SparingCalls.{made_open, unmade}
use Rattle.content_laws.proofs.Unmet.{row_of}
use Rattle.content_laws.proofs.WaitingTargets.{owner_awaits, tracks_anew}
use Rattle.content_laws.proofs.WaysUp.{on_from_holder, top_is_last}

-- one of these frames owns what has this owner, or a field of an object on which one of them runs
abbrev pub IsFieldsOrBelow : List Frame → Owner → Type 0
IsFieldsOrBelow frs owner = ((j : ℕ) × (owner ≡ owners.Frame j) × (j ≤ length frs)) ⊎ ((w : ℕ) × (f : FieldId) × (owner ≡ owners.Field w f) × RunsOn w frs)

module _ (p : Program) (h : HeapContents) (have : HaveEnds h) (n : ℕ) (z : Object) (at : object_at h n ≡ Some z) (done : z.finished ≡ true) where
  -- what a field owns is the object, or its holder is within the object
  pub held_on : {X : Type 0} (t w : ℕ) (f : FieldId) (x : Object) → object_at h t ≡ Some x → x.owner ≡ owners.Field w f → IsWithin h t n → (z.owner ≡ owners.Field w f → X) → (IsWithin h w n → X) → X
  held_on t w f x there owns up here further = elim (on_from_holder h t w n f x there owns up) [
    | inl same ↦ here (ap (λ (u : Object). u.owner) (one_object z x (object_at h n) at (ap (object_at h) (sym same) ∙ there)) ∙ owns)
    | inr more ↦ further more
  ]

  -- a constructor's object is the last on the way, and not finished
  pub made_on : (fr : Frame) (frs : List Frame) → AreUnfinished p h (fr ∷ frs) → (t : ℕ) (x : Object) → object_at h t ≡ Some x → IsHeldBy p fr x.owner → IsWithin h t n → (w : ℕ) × (f : FieldId) × (z.owner ≡ owners.Field w f) × RunsOn w (fr ∷ frs)
  made_on fr frs unfinished t x there held up =
      let w = unmade p h have fr frs unfinished t x there held in
      held_on t held.1.holder held.1.field x there held.1.owns up (λ owns. (held.1.holder, held.1.field, owns, inl held.1.runs)) (λ more. absurd (
      let same = top_is_last h held.1.holder n w.object w.at (ap is_field_owner w.unowned) more in
      true≢false (sym done ∙ ap (λ (u : Object). u.finished) (one_object z w.object (object_at h n) at (ap (object_at h) (sym same) ∙ w.at)) ∙ w.unfinished)
      ))

  -- what a constructor makes is the last on the way, and not finished
  no_made : (fr : Frame) (frs : List Frame) → AreUnfinished p h (fr ∷ frs) → (t : ℕ) (x : Object) → object_at h t ≡ Some x → IsMadeBy p fr t → x.owner ≡ owners.Unowned → IsWithin h t n → ⊥
  no_made fr frs unfinished t x there made unowned up =
      let same = top_is_last h t n x there (ap is_field_owner unowned) up in
      true≢false (sym done ∙ ap (λ (u : Object). u.finished) (one_object z x (object_at h n) at (ap (object_at h) (sym same) ∙ there)) ∙ made_open p h have fr frs unfinished t x there made)

  -- so it is with what lies on the way up from what is lent
  pub lent_up : (frs : List Frame) → AreUnfinished p h frs → (t : ℕ) (x : Object) → object_at h t ≡ Some x → IsLentFrom p h frs t x.owner → IsWithin h t n → IsFieldsOrBelow frs z.owner
  lent_up [] unfinished t x there lent up = absurd lent
  lent_up (fr ∷ frs) unfinished t x there (is, inl mine) up =
      let same = top_is_last h t n x there (ap is_field_owner mine) up in
      inl (length frs + 1, ap (λ (u : Object). u.owner) (one_object z x (object_at h n) at (ap (object_at h) (sym same) ∙ there)) ∙ mine, omega arith)
  lent_up (fr ∷ frs) unfinished t x there (is, inr (inl on)) up = higher (lent_up frs unfinished.1 t x there on up)
    where
      higher : IsFieldsOrBelow frs z.owner → IsFieldsOrBelow (fr ∷ frs) z.owner
      higher (inl frame) = let low = frame.2 in inl (frame.0, frame.1, omega (arith, low))
      higher (inr field) = inr (field.0, field.1, field.2, inr field.3)
  lent_up (fr ∷ frs) unfinished t x there (is, inr (inr (inl held))) up = inr (made_on fr frs unfinished t x there held up)
  lent_up (fr ∷ frs) unfinished t x there (is, inr (inr (inr (inr made)))) up = absurd (no_made fr frs unfinished t x there made.0 made.1 up)
  lent_up (fr ∷ frs) unfinished t x there (is, inr (inr (inr (inl held)))) up =
      held_on t held.holder held.field x there held.owns up (λ owns. inr (held.holder, held.field, owns, inl held.runs)) (λ more. higher (lent_up frs unfinished.1 held.holder held.object held.at held.lends more))
    where
      higher : IsFieldsOrBelow frs z.owner → IsFieldsOrBelow (fr ∷ frs) z.owner
      higher (inl frame) = let low = frame.2 in inl (frame.0, frame.1, omega (arith, low))
      higher (inr field) = inr (field.0, field.1, field.2, inr field.3)

  -- and on the way up from what a frame has in hand, that owns the target or not
  pub hand_up : (fr : Frame) (frs : List Frame) → AreUnfinished p h (fr ∷ frs) → (t : ℕ) (x : Object) → object_at h t ≡ Some x → HasInHand p h (IsLentFrom p h frs) (length frs + 1) fr t x.owner → IsWithin h t n → IsFieldsOrBelow (fr ∷ frs) z.owner
  hand_up fr frs unfinished t x there (inl mine) up =
      let same = top_is_last h t n x there (ap is_field_owner mine) up in
      inl (length frs + 1, ap (λ (u : Object). u.owner) (one_object z x (object_at h n) at (ap (object_at h) (sym same) ∙ there)) ∙ mine, omega arith)
  hand_up fr frs unfinished t x there (inr (inl on)) up = higher (lent_up frs unfinished.1 t x there on up)
    where
      higher : IsFieldsOrBelow frs z.owner → IsFieldsOrBelow (fr ∷ frs) z.owner
      higher (inl frame) = let low = frame.2 in inl (frame.0, frame.1, omega (arith, low))
      higher (inr field) = inr (field.0, field.1, field.2, inr field.3)
  hand_up fr frs unfinished t x there (inr (inr (inl held))) up = inr (made_on fr frs unfinished t x there held up)
  hand_up fr frs unfinished t x there (inr (inr (inr (inr made)))) up = absurd (no_made fr frs unfinished t x there made.0 made.1 up)
  hand_up fr frs unfinished t x there (inr (inr (inr (inl held)))) up =
      held_on t held.holder held.field x there held.owns up (λ owns. inr (held.holder, held.field, owns, inl held.runs)) (λ more. higher (lent_up frs unfinished.1 held.holder held.object held.at held.lends more))
    where
      higher : IsFieldsOrBelow frs z.owner → IsFieldsOrBelow (fr ∷ frs) z.owner
      higher (inl frame) = let low = frame.2 in inl (frame.0, frame.1, omega (arith, low))
      higher (inr field) = inr (field.0, field.1, field.2, inr field.3)

module _ (p : Program) (ac : Accept p) (forms : HasPlainForms p) (h k : HeapContents) (have : HaveEnds h) (links : HasEarlierLinks h) (owned : FieldsOwn p h) (unlinked : HoldersAreUnlinked (is_heavy_class p) h)
    (n : ℕ) (z y : Object) (at : object_at h n ≡ Some z) (heavy : is_heavy_class p z.class ≡ true) (done : z.finished ≡ true) (stay : RootsStay h k n) (class : y.class ≡ z.class) (bounded : set.is_subset y.must (must_of p y.class) ≡ true)
    (j : ℕ) (mine : z.owner ≡ owners.Frame j) where
  owes : may_owe z ≡ true
  owes = ap (λ (o : Owner). not (z.finished && is_library_owner o)) mine ∙ none z.finished
    where
      none : (b : Bool) → not (b && false) ≡ true
      none true = refl
      none false = refl

  no_field : {X : Type 0} (w : ℕ) (f : FieldId) → z.owner ≡ owners.Field w f → X
  no_field w f owns = absurd (let never : owners.Field w f ≡ owners.Frame j = sym owns ∙ mine in cc)

  low : (frs : List Frame) → IsFieldsOrBelow frs z.owner → j ≤ length frs
  low frs (inl frame) = let less = frame.2 in let same : frame.0 ≡ j = (let both : owners.Frame frame.0 ≡ owners.Frame j = sym frame.1 ∙ mine in (let one : frame.0 ≡ j = cc in one)) in omega (arith, same, less)
  low frs (inr field) = no_field field.0 field.1 field.2

  -- `fr` is the frame above, which began with the call; `t` is the target, or what a frame holds in a field that has the target on its way
  pub lent_awaited : (fr : Frame) (frs : List Frame) → AllStand p frs → HaveTargets p frs → IsCalledFrom p h fr frs → (above : ℕ → Bool) → AreWaiting p h above frs → All (λ (u : Frame). LocalsInRange h u.locals) frs → AreUnfinished p h frs
      → AllActInSight p h frs → (t : ℕ) (x : Object) → object_at h t ≡ Some x → IsLentFrom p h frs t x.owner → IsWithin h t n → IsAwaited p k frs n y j
  lent_awaited fr [] standing targets stacked above waiting in' unfinished sight t x there lent up = absurd lent
  lent_awaited fr (caller ∷ rest) standing targets stacked above waiting in' unfinished sight t x there (is, inl owner) up =
      rw (eq-eqb (length rest + 1) j (let both : owners.Frame (length rest + 1) ≡ owners.Frame j = sym owner ∙ ap (λ (u : Object). u.owner) same_object ∙ mine in (let one : length rest + 1 ≡ j = cc in one))) now
    where
      same : t ≡ n
      same = top_is_last h t n x there (ap is_field_owner owner) up

      same_object : x ≡ z
      same_object = one_object x z (object_at h n) (ap (object_at h) (sym same) ∙ there) at

      renewed : is_renewed p h caller n ≡ true
      renewed = ap (is_renewed p h caller) (sym same) ∙ is

      caller_in : LocalsInRange h caller.locals
      caller_in = All-head (λ (u : Frame). LocalsInRange h u.locals) caller rest in'

      before : Awaits p h caller n z
      before = owner_awaits p ac h caller waiting.0 rest standing.0 stacked.0.index stacked.0.step stacked.0.here (row_of stacked.0.step.action stacked.0.named stacked.0.calls) waiting.3
          (holds_lent p ac forms h links owned caller caller_in standing.0 waiting.0 rest targets.0 have unfinished (is_given p h caller) (is_reread p h caller) waiting.3 unlinked)
          have targets.0 sight.0.makes n z at heavy (inl owes) (inl done) renewed (ap (λ (u : Object). u.owner) (sym same_object) ∙ owner)

      now : Awaits p k caller n y
      now = record {
        tracks = tracks_anew p h k (is_renewed p h caller n) (is_renewed p k caller n) caller n z y (renewed_on p h k caller n stay renewed) stay class bounded before.tracks;
        stays = before.stays;
      }
  lent_awaited fr (caller ∷ rest) standing targets stacked above waiting in' unfinished sight t x there (is, inr (inl on)) up =
      below (lent_awaited caller rest standing.1 targets.1 stacked.1 waiting.0 waiting.4 (All-tail (λ (u : Frame). LocalsInRange h u.locals) caller rest in') unfinished.1 sight.1 t x there on up)
    where
      lower : j ≤ length rest
      lower = low rest (lent_up p h have n z at done rest unfinished.1 t x there on up)

      below : IsAwaited p k rest n y j → MatchBool (nat_eq (length rest + 1) j) (Awaits p k caller n y) (IsAwaited p k rest n y j)
      below further = go (nat_eq (length rest + 1) j) refl
        where
          go : (b : Bool) → nat_eq (length rest + 1) j ≡ b → MatchBool b (Awaits p k caller n y) (IsAwaited p k rest n y j)
          go true here = absurd (let same = eqb-true (length rest + 1) j here in omega (arith, same, lower))
          go false other = further
  lent_awaited fr (caller ∷ rest) standing targets stacked above waiting in' unfinished sight t x there (is, inr (inr (inl held))) up =
      let field = made_on p h have n z at done caller rest unfinished t x there held up in no_field field.0 field.1 field.2
  lent_awaited fr (caller ∷ rest) standing targets stacked above waiting in' unfinished sight t x there (is, inr (inr (inr (inr made)))) up = absurd (no_made p h have n z at done caller rest unfinished t x there made.0 made.1 up)
  lent_awaited fr (caller ∷ rest) standing targets stacked above waiting in' unfinished sight t x there (is, inr (inr (inr (inl held)))) up =
      held_on p h have n z at done t held.holder held.field x there held.owns up (λ owns. no_field held.holder held.field owns) (λ more. below more
      (lent_awaited caller rest standing.1 targets.1 stacked.1 waiting.0 waiting.4 (All-tail (λ (u : Frame). LocalsInRange h u.locals) caller rest in') unfinished.1 sight.1 held.holder held.object held.at held.lends more))
    where
      below : IsWithin h held.holder n → IsAwaited p k rest n y j → MatchBool (nat_eq (length rest + 1) j) (Awaits p k caller n y) (IsAwaited p k rest n y j)
      below more further = go (nat_eq (length rest + 1) j) refl
        where
          lower : j ≤ length rest
          lower = low rest (lent_up p h have n z at done rest unfinished.1 held.holder held.object held.at held.lends more)

          go : (b : Bool) → nat_eq (length rest + 1) j ≡ b → MatchBool b (Awaits p k caller n y) (IsAwaited p k rest n y j)
          go true here = absurd (let same = eqb-true (length rest + 1) j here in omega (arith, same, lower))
          go false other = further

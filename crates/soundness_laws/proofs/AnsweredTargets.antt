-- An object that a reset reaches whose target a frame has in hand: it is the target, and the frame owns it; or a frame below owns it, and goes on to track it; or a field does, of an object on which
-- one of these frames runs.
use Rattle.std.proofs.Common.{Bool, List, Some, ap, inl, inr, length, sym, true≢false, ℕ, ◌+◌, ◌∙◌, ◌∷◌, ◌≡◌, ◌≤◌, ◌⊎◌, true}
use Rattle.std.specs.FinSet as set
use Rattle.std.specs.List.{All}
use Rattle.program_model.specs.declared.kinds.FieldId.{FieldId}
use Rattle.program_model.specs.declared.program.Program.{Program}
use Rattle.ledger_obligations.specs.MustCallSets.{is_heavy_class, must_of}
use Rattle.ledger_state.specs.Contents.{HeapContents}
use Rattle.ledger_state.specs.Heaps.{object_at}
use Rattle.ledger_state.specs.declared.entry.Owner.TheVariants as owners
use Rattle.ledger_state.specs.declared.object.Object.{Object}
use Rattle.content_laws.specs.Accept.{Accept}
use Rattle.content_laws.specs.Agreement.{AllStand, IsAwaited, IsCalledFrom}
use Rattle.content_laws.specs.Chains.{HaveEnds}
use Rattle.content_laws.specs.Configuration.{Frame}
use Rattle.content_laws.specs.FieldContents.{AreUnfinished, FieldsOwn}
use Rattle.content_laws.specs.HeapAnew.{is_field_owner}
use Rattle.content_laws.specs.Heaps.{HasEarlierLinks}
use Rattle.content_laws.specs.Holders.{HoldersAreUnlinked, IsWithin}
use Rattle.content_laws.specs.Frames.{HaveTargets}
use Rattle.content_laws.specs.PlaceFacts.{AreWaiting, OwesOrHolds, RunsOn, may_owe}
use Rattle.content_laws.specs.PlainForms.{HasPlainForms}
use Rattle.content_laws.specs.Ranges.{LocalsInRange}
use Rattle.content_laws.specs.Renewing.{HasInHand, IsLentFrom}
use Rattle.content_laws.specs.Sight.{AllActInSight}
use Rattle.content_laws.specs.Steps.{RootsStay}
use Rattle.content_laws.proofs.SparingCalls.{made_open}
use Rattle.content_laws.proofs.AnewAtEnds.{field_owes}
use Rattle.content_laws.proofs.RootLaws.{one_object}
use Rattle.content_laws.proofs.WaysUp.{StepsUp, ends, goes, steps_up, top_is_last}
use Rattle.soundness_laws.proofs.LentTargets.{held_on, lent_awaited, lent_up, made_on}

-- where the object that is within another may owe a call, the target may, too
pub target_owes : (p : Program) (h : HeapContents) (u o : ℕ) (v x : Object) → object_at h u ≡ Some v → object_at h o ≡ Some x → IsWithin h u o → may_owe x ≡ true → OwesOrHolds p h u v
target_owes p h u o v x there at up owes = go (steps_up h u o up)
  where
    go : StepsUp h u o → OwesOrHolds p h u v
    go (ends same) = inl (ap may_owe (one_object v x (object_at h u) there (ap (object_at h) same ∙ at)) ∙ owes)
    go (goes w f y there' owns rest) = inl (field_owes v w f (ap (λ (z : Object). z.owner) (one_object v y (object_at h u) there there') ∙ owns))

-- it is there
pub target_there : (h : HeapContents) (u o : ℕ) (x : Object) → object_at h o ≡ Some x → IsWithin h u o → (v : Object) × (object_at h u ≡ Some v)
target_there h u o x at up = go (steps_up h u o up)
  where
    go : StepsUp h u o → (v : Object) × (object_at h u ≡ Some v)
    go (ends same) = (x, ap (object_at h) same ∙ at)
    go (goes w f y there owns rest) = (y, there)

module _ (p : Program) (ac : Accept p) (forms : HasPlainForms p) (h k : HeapContents) (have : HaveEnds h) (links : HasEarlierLinks h) (held : FieldsOwn p h) (holders : HoldersAreUnlinked (is_heavy_class p) h)
    (o : ℕ) (x y : Object) (at : object_at h o ≡ Some x) (heavy : is_heavy_class p x.class ≡ true) (done : x.finished ≡ true) (stay : RootsStay h k o) (class : y.class ≡ x.class) (bounded : set.is_subset y.must (must_of p y.class) ≡ true)
    (fr : Frame) (frs : List Frame) (standing : AllStand p frs) (targets : HaveTargets p frs) (lower : All (λ (f : Frame). LocalsInRange h f.locals) frs) (stacked : IsCalledFrom p h fr frs) (above : ℕ → Bool) (waiting : AreWaiting p h above frs)
    (unfinished : AreUnfinished p h (fr ∷ frs)) (sight : AllActInSight p h frs) where
  abbrev pub IsAnswered : ℕ → Type 0
  IsAnswered u =
      ((u ≡ o) × (x.owner ≡ owners.Frame (length frs + 1)))
      ⊎ (((j : ℕ) × (x.owner ≡ owners.Frame j) × (j ≤ length frs) × IsAwaited p k frs o y j) ⊎ ((w : ℕ) × (f : FieldId) × (x.owner ≡ owners.Field w f) × RunsOn w (fr ∷ frs)))

  lent : (u t : ℕ) (w : Object) → object_at h t ≡ Some w → IsWithin h t o → IsLentFrom p h frs t w.owner → IsAnswered u
  lent u t w there up lends = elim (lent_up p h have o x at done frs unfinished.1 t w there lends up) [
    | inl frame ↦ inr (inl (
      frame.0,
      frame.1,
      frame.2,
      lent_awaited p ac forms h k have links held holders o x y at heavy done stay class bounded frame.0 frame.1 fr frs standing targets stacked above waiting lower unfinished.1 sight t w there lends up,
    ))
    | inr field ↦ inr (inr (field.0, field.1, field.2, inr field.3))
  ]

  pub target_answered : (u : ℕ) (v : Object) → object_at h u ≡ Some v → IsWithin h u o → HasInHand p h (IsLentFrom p h frs) (length frs + 1) fr u v.owner → IsAnswered u
  target_answered u v there up (inl mine) =
      let same = top_is_last h u o v there (ap is_field_owner mine) up in
      inl (same, ap (λ (z : Object). z.owner) (one_object x v (object_at h u) (ap (object_at h) same ∙ at) there) ∙ mine)
  target_answered u v there up (inr (inl lends)) = lent u u v there up lends
  target_answered u v there up (inr (inr (inl made))) = inr (inr (made_on p h have o x at done fr frs unfinished u v there made up))
  target_answered u v there up (inr (inr (inr (inr made)))) =
      let same = top_is_last h u o v there (ap is_field_owner made.1) up in
      absurd (true≢false (sym done ∙ ap (λ (z : Object). z.finished) (one_object x v (object_at h u) (ap (object_at h) same ∙ at) there) ∙ made_open p h have fr frs unfinished u v there made.0))
  target_answered u v there up (inr (inr (inr (inl inside)))) =
      held_on p h have o x at done u inside.holder inside.field v there inside.owns up (λ owns. inr (inr (inside.holder, inside.field, owns, inl inside.runs))) (λ more. lent u inside.holder inside.object inside.at more inside.lends)

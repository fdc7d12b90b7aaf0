-- The target of the top frame's call, which the frame owns: it is in the fact that says so.
use Rattle.std.proofs.Common.{Bool, List, Some, false, inl, inr, length, slice_get, sym, true, true≢false, ℕ, ◌+◌, ◌∙◌, ◌≡◌, refl}
use Rattle.program_model.specs.declared.program.Program.{Program}
use Rattle.program_model.specs.Lookups.{method_at}
use Rattle.ledger_obligations.specs.MustCallSets.{is_heavy_class}
use Rattle.java_control.specs.Control.{Step}
use Rattle.java_control.specs.PlaceNumbers.{IsSmall}
use Rattle.control_actions.specs.declared.place.Place.TheVariants as places
use Rattle.ownership_rules.specs.Facts.{PlaceSet, has, is_own}
use Rattle.ledger_state.specs.Contents.{HeapContents}
use Rattle.ledger_state.specs.Heaps.{object_at, root_of}
use Rattle.ledger_state.specs.declared.entry.Owner.{Owner}
use Rattle.ledger_state.specs.declared.entry.Owner.TheVariants as owners
use Rattle.ledger_state.specs.declared.object.Object.{Object}
use Rattle.content_laws.specs.Accept.{Accept}
use Rattle.content_laws.specs.Agreement.{Stands}
use Rattle.content_laws.specs.Anew.{is_target}
use Rattle.content_laws.specs.Choosing.{frame_steps}
use Rattle.content_laws.specs.Configuration.{Frame}
use Rattle.content_laws.specs.Outcomes.{IsCallRow}
use Rattle.content_laws.specs.Places.{place_value}
use Rattle.content_laws.specs.PlaceFacts.{Covers, IsCovered, IsKeyed, IsOwned, OwesOrHolds, gives_none, owned, renews_none, unowned}
use Rattle.content_laws.specs.PlainForms.{HasPlainForms}
use Rattle.content_laws.specs.Renewing.{IsHeldBy, IsHeldByLent, IsLentFrom, renews}
use Rattle.content_laws.proofs.HeavyFields.{claims_by, claims_owned}
use Rattle.content_laws.proofs.Owners.{lent_not_from}
use Rattle.content_laws.proofs.OwnerSteps.{own_frame}
use Rattle.content_laws.proofs.RenewedOperands.{HoldsLent, IsHeldOrLent, step_renews}
use Rattle.content_laws.proofs.WaitingTargets.{target_mode, target_temp}

module _ (p : Program) (ac : Accept p) (forms : HasPlainForms p) (h : HeapContents) (fr : Frame) (old : ℕ → Bool) (frs : List Frame) (st : Stands p fr) (i : ℕ) (s : Step) (here : slice_get (frame_steps p fr) i ≡ Some s) (row : IsCallRow s.action)
    (covered : IsCovered p h gives_none renews_none old frs fr) (holds : HoldsLent p h old frs fr st) (o : ℕ) (x : Object) (at : object_at h o ≡ Some x) (heavy : is_heavy_class p x.class ≡ true) (owes : OwesOrHolds p h o x) (done : x.finished ≡ true)
    (renewed : renews p h fr.locals s.action o ≡ true) (mine : x.owner ≡ owners.Frame (length frs + 1)) where
  -- the fact says that the frame owns it, and has it for the target
  abbrev pub IsInOwned : Type 0
  IsInOwned = (c : Covers p h false false old frs fr o x) × IsOwned p h false false old frs fr o x c × (is_own c.fact.mode ≡ true) × (is_target p s.action c.fact.places ≡ true) × ((t : ℕ) × (has c.fact.places (places.Temp t) ≡ true))

  temp : (t : ℕ) × IsSmall (places.Temp t) × (root_of h (place_value p h fr.method fr.locals (places.Temp t)) ≡ Some o) × ((held : PlaceSet) → has held (places.Temp t) ≡ true → is_target p s.action held ≡ true)
  temp = target_temp p ac h fr old frs st i s here row o renewed

  not_lent : IsLentFrom p h frs o x.owner → ⊥
  not_lent lent = true≢false (sym (own_frame (length frs + 1) x.owner mine) ∙ lent_not_from p h frs o x.owner lent)

  not_held : IsHeldBy p fr x.owner → ⊥
  not_held held = let never : owners.Field (held.1).holder (held.1).field ≡ owners.Frame (length frs + 1) = sym (held.1).owns ∙ mine in cc

  not_inside : IsHeldByLent p h (IsLentFrom p h frs) fr x.owner → ⊥
  not_inside held = let never : owners.Field held.holder held.field ≡ owners.Frame (length frs + 1) = sym held.owns ∙ mine in cc

  pub owned_target : IsInOwned
  owned_target = by (covered (places.Temp temp.0) o x temp.1 refl temp.2 at heavy owes)
    where
      not_other : IsHeldOrLent p h frs fr o x.owner → ⊥
      not_other (inl lends) = not_lent lends
      not_other (inr (inl held)) = not_held held
      not_other (inr (inr (inl inside))) = not_inside inside
      not_other (inr (inr (inr made))) = let never : ◌≡◌ {A = Owner} owners.Unowned (owners.Frame (length frs + 1)) = sym made.1 ∙ mine in cc

      by : IsKeyed p h false false old frs fr (places.Temp temp.0) o x → IsInOwned
      by (owned c in' key) = elim (claims_by p (method_at p fr.method) c.origin c.fact key.owning) [
        | inl own ↦ (c, key, own, temp.3 c.fact.places in', (temp.0, in'))
        | inr held ↦ absurd (not_other (holds o x at heavy owes (inl done) (step_renews p h fr i s o here renewed) false false c held.0 held.1 (claims_owned p (method_at p fr.method) c.origin c.fact key.owning).0))
      ]
      by (unowned u) = absurd (elim (target_mode p ac h fr old frs st i s here row false false o x u.covers (temp.3 u.covers.fact.places u.here)) [
        | inl claimed ↦ true≢false (sym claimed ∙ u.unowned)
        | inr lends ↦ not_lent (u.covers.lends lends done).1
      ])

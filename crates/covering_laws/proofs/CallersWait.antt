-- A frame that calls a method of the program waits: its facts are read anew where the call creates the obligation of their object anew.
use Rattle.std.proofs.Common.{◌≡◌, inl, inr, ℕ, ◌+◌, Bool, true, false, Some, List, ◌∷◌, length, slice_get, refl, sym, ◌∙◌, true≢false}
use Rattle.program_model.specs.declared.program.Program.{Program}
use Rattle.ledger_obligations.specs.MustCallSets.{is_heavy_class}
use Rattle.java_control.specs.Control.{Step}
use Rattle.control_actions.specs.declared.place.Place.{Place}
use Rattle.value_laws.specs.Accept.{Accept}
use Rattle.ledger_state.specs.Contents.{HeapContents}
use Rattle.ledger_state.specs.Heaps.{object_at}
use Rattle.ledger_state.specs.declared.object.Object.{Object}
use Rattle.value_laws.specs.Chains.{HaveEnds}
use Rattle.value_laws.specs.Configuration.{Frame}
use Rattle.value_laws.specs.Choosing.{frame_steps}
use Rattle.value_laws.specs.Outcomes.{IsCallRow}
use Rattle.value_laws.specs.Agreement.{Stands}
use Rattle.value_laws.specs.FieldContents.{AreNew, AreUnfinished}
use Rattle.value_laws.specs.Frames.{KeepsTargets}
use Rattle.value_laws.specs.Holders.{itself}
use Rattle.value_laws.specs.PlainForms.{HasPlainForms}
use Rattle.value_laws.specs.PlaceFacts.{Covers, IsCovered, IsKeyed, IsOld, IsSpared, IsUnowned, OwesOrHolds, gives_none, is_frame_from, is_given, owned, renews_none, unowned}
use Rattle.covering_laws.specs.Sight.{MakesThis}
use Rattle.covering_laws.proofs.GivenArguments.{away_owner}
use Rattle.covering_laws.proofs.GivenAway.{given_at_step}
use Rattle.covering_laws.proofs.Owners.{lent_not_from}
use Rattle.covering_laws.proofs.OwnerSteps.{own_frame}
use Rattle.value_laws.specs.Renewing.{is_renewed, is_reread}
use Rattle.covering_laws.proofs.RenewedOperands.{HoldsLent, renewed_answered}
use Rattle.covering_laws.proofs.RenewedFacts.{true_as}
use Rattle.value_laws.proofs.Needs.{origin_needs_all}
use Rattle.value_laws.proofs.SparingCalls.{spared_apart}
use Rattle.covering_laws.proofs.InFields.{held_in_field, held_unowned}
use Rattle.covering_laws.proofs.WaitingTargets.{renewed_at_step}

module _ (p : Program) (ac : Accept p) (forms : HasPlainForms p) (h : HeapContents) (have : HaveEnds h) (fr : Frame) (st : Stands p fr) (old : ℕ → Bool) (frs : List Frame) (is : IsOld p h frs fr old) (new : AreNew p (fr ∷ frs))
    (unfinished : AreUnfinished p h (fr ∷ frs)) (i : ℕ) (s : Step) (here : slice_get (frame_steps p fr) i ≡ Some s) (row : IsCallRow s.action) (covered : IsCovered p h gives_none renews_none old frs fr) (holds : HoldsLent p h old frs fr st) (targets : KeepsTargets p fr) (makes : MakesThis p h fr) where
  -- what no frame from this one on owns is not given away
  known_kept : (o : ℕ) (x : Object) → object_at h o ≡ Some x → is_heavy_class p x.class ≡ true → OwesOrHolds p h o x → is_frame_from (length frs + 1) x.owner ≡ false → is_given p h fr o x.class ≡ false
  known_kept o x there heavy owes apart = go (is_given p h fr o x.class) refl
    where
      go : (b : Bool) → is_given p h fr o x.class ≡ b → is_given p h fr o x.class ≡ false
      go false none = none
      go true some =
          let gives = given_at_step p h fr st i s o x.class here row some in
          let owner = away_owner p ac h fr st old frs i s here row covered o x there heavy owes gives in
          absurd (true≢false (sym (own_frame (length frs + 1) x.owner owner) ∙ apart))

  module _ (o : ℕ) (x : Object) (there : object_at h o ≡ Some x) (heavy : is_heavy_class p x.class ≡ true) (owes : OwesOrHolds p h o x) where
    abbrev away : Bool
    away = is_given p h fr o x.class

    abbrev anew : Bool
    anew = is_reread p h fr o x.owner

    -- what was old, and is spared, is nothing whose obligation the call creates anew
    not_renewed : x.finished ≡ true → old o ≡ true → IsSpared p h frs o → is_renewed p h fr o ≡ false
    not_renewed done was spared = go (is_renewed p h fr o) refl
      where
        go : (b : Bool) → is_renewed p h fr o ≡ b → is_renewed p h fr o ≡ false
        go false none = none
        go true some = absurd (spared_apart p h have fr frs new unfinished o o x spared (is.ends o x there (done, heavy) was) there (inl done, heavy)
            (renewed_answered p ac h fr st old frs i s here row covered holds have targets makes o x there heavy owes (renewed_at_step p h fr st i s o here row some) (inl done)) (inl (itself o)))

    waiting : Covers p h false false old frs fr o x → Covers p h away anew old frs fr o x
    waiting c = record {
      body = c.body;
      id = c.id;
      origin = c.origin;
      fact = c.fact;
      reached = c.reached;
      alone = c.alone;
      places = c.places;
      true' = λ claimed spared kept. true_as p anew x c.origin c.fact (origin_needs_all p c.body c.origin fr.control c.fact c.reached) (c.true' claimed refl kept);
      lends = λ mode done. (let lent = (c.lends mode done).1 in (known_kept o x there heavy owes (lent_not_from p h frs o x.owner lent), lent));
      makes = c.makes;
      begun = λ mode other fields open'. (let lent = c.begun mode other fields open' in (known_kept o x there heavy owes (lent_not_from p h frs o x.owner lent.1), lent.1, lent.2));
      unrenewed = λ done tells apart. not_renewed done apart.0 apart.1;
      free = λ done held answers keeps claims'. (
        known_kept o x there heavy owes (held_unowned p h false false old frs fr o x c done held answers keeps claims' (length frs + 1)),
        held_in_field p h false false old frs fr o x c done held answers keeps claims',
      );
      lent = c.lent;
      known = λ done tells apart stays. c.known done tells apart refl;
      fields = c.fields;
      held = c.held;
      outside = c.outside;
    }

    unowned_waits : (q : Place) → IsUnowned p h false false old frs fr q o x → IsUnowned p h away anew old frs fr q o x
    unfolding waiting
    unowned_waits q u = record { covers = waiting u.covers; here = u.here; unowned = u.unowned }

    keyed_waits : (q : Place) → IsKeyed p h false false old frs fr q o x → IsKeyed p h away anew old frs fr q o x
    unfolding waiting
    keyed_waits q (unowned u) = unowned (unowned_waits q u)
    keyed_waits q (owned c there' own) = owned (waiting c) there' (record {
      owning = own.owning;
      owner = λ spared mine. own.owner refl mine;
      others = λ r small' keeps root'. elim (own.others r small' keeps root') [ inl in'' ↦ inl in'' | inr u ↦ inr (unowned_waits r u) ];
    })

  pub caller_waits : IsCovered p h (is_given p h fr) (is_reread p h fr) old frs fr
  caller_waits q o x small' keeps root at heavy owes = keyed_waits o x at heavy owes q (covered q o x small' keeps root at heavy owes)

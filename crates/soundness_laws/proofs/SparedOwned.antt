-- What the caller owns, as the frame above it ends: it was old when that frame began, and the call spares it, unless the call creates its obligation anew.
use Rattle.std.proofs.Common.{◌≡◌, inl, inr, ℕ, ◌+◌, Bool, true, false, Some, List, ◌∷◌, length, slice_get, ap}
use Rattle.program_model.specs.declared.program.Program.{Program}
use Rattle.ledger_obligations.specs.MustCallSets.{is_heavy_class}
use Rattle.ledger_obligations.specs.Obligations.{is_library_owner}
use Rattle.java_control.specs.Control.{Step}
use Rattle.ledger_state.specs.Contents.{HeapContents}
use Rattle.ledger_state.specs.Heaps.{object_at}
use Rattle.ledger_state.specs.declared.entry.Entry.{Entry}
use Rattle.ledger_state.specs.declared.entry.Owner.TheVariants as owners
use Rattle.ledger_state.specs.declared.object.Object.{Object}
use Rattle.content_laws.specs.Accept.{Accept}
use Rattle.content_laws.specs.Agreement.{Agrees, Stands, WaitsFor}
use Rattle.content_laws.specs.Chains.{HaveEnds}
use Rattle.content_laws.specs.Choosing.{frame_steps}
use Rattle.content_laws.specs.Configuration.{Frame}
use Rattle.content_laws.specs.FieldContents.{AreNew, AreUnfinished, FieldsHold, FieldsOwn}
use Rattle.content_laws.specs.Holders.{HoldersAreUnlinked, IsComparable, itself}
use Rattle.content_laws.specs.Outcomes.{IsCallRow}
use Rattle.content_laws.specs.Covering.{IsCountedOn}
use Rattle.content_laws.specs.PlaceFacts.{AreCovered, IsCovered, IsHeavyObject, IsOld, is_given, is_given_up}
use Rattle.content_laws.specs.Frames.{KeepsTargets}
use Rattle.content_laws.specs.HeapAnew.{is_field_owner}
use Rattle.content_laws.specs.PlainForms.{HasPlainForms}
use Rattle.content_laws.specs.Ranges.{LocalsInRange}
use Rattle.content_laws.specs.Renewing.{HasInHand, IsLentFrom, IsWholeObject, is_renewed, is_reread}
use Rattle.content_laws.specs.Sight.{MakesThis}
use Rattle.content_laws.proofs.ContentHolders.{contents_have_holders}
use Rattle.content_laws.proofs.Goes.{not_the_librarys_owes}
use Rattle.content_laws.proofs.LentHolders.{holds_lent}
use Rattle.content_laws.proofs.Unmet.{row_of}
use Rattle.content_laws.proofs.RenewedOperands.{HoldsLent}
use Rattle.content_laws.proofs.SparingEnds.{comparable_bears, counted_is_spared, counts_as_owned, owned_is_below}
use Rattle.content_laws.proofs.WaitingTargets.{owned_or_lent}

-- `old` and `older` are what was old for the frame that ends and for the caller when they began.
module _ (p : Program) (ac : Accept p) (forms : HasPlainForms p) (h : HeapContents) (ends : HaveEnds h) (unlinked : HoldersAreUnlinked (is_heavy_class p) h) (fr caller : Frame) (rest : List Frame) (below : Stands p caller) (i : ℕ) (t : Step)
    (here : slice_get (frame_steps p caller) i ≡ Some t) (row : IsCallRow t.action) (old older : ℕ → Bool) (aged : IsOld p h (caller ∷ rest) fr old) (waiting : IsCovered p h (is_given p h caller) (is_reread p h caller) older rest caller)
    (holds : HoldsLent p h older rest caller below) (news : AreNew p (caller ∷ rest)) (unready : AreUnfinished p h (caller ∷ rest)) (targets : KeepsTargets p caller) (making : MakesThis p h caller) where
  pub owned_apart_at_end : (o : ℕ) (x : Object) → object_at h o ≡ Some x → IsHeavyObject p x → x.owner ≡ owners.Frame (length rest + 1) → is_renewed p h caller o ≡ false → IsCountedOn p h old (caller ∷ rest) fr o x
  owned_apart_at_end o x at heavy mine unrenewed = (
    aged.below o x at heavy (owned_is_below p h ends caller rest news unready x.owner mine),
    counted_is_spared p h ends caller rest news unready o x at hands unrenewed (counts_as_owned mine),
    (o, record { within = itself o; object = x; at = at; unheld = ap is_field_owner mine }, ap is_given_up mine),
  )
    where
      -- what the caller creates anew on the way of the object is in its hands
      hands : (u : ℕ) (y : Object) → object_at h u ≡ Some y → IsWholeObject p y → IsComparable h u o → is_renewed p h caller u ≡ true → HasInHand p h (IsLentFrom p h rest) (length rest + 1) caller u y.owner
      hands u y there heavy' comes renewed =
          elim (owned_or_lent p ac h caller older rest below i t here row waiting holds ends targets making u y there heavy'.1
          (comparable_bears p h ends unlinked o u x y at there heavy.1 comes (inl (not_the_librarys_owes x (ap is_library_owner mine)))) heavy'.0 renewed) [
            | inl own ↦ inl (own.key.owner own.kept own.own)
            | inr other ↦ inr other
          ]

-- so it is where all that holds of a run holds of the frames and the heap
module _ (p : Program) (ac : Accept p) (forms : HasPlainForms p) (h : HeapContents) (es : List Entry) (fr caller : Frame) (rest : List Frame) (agrees : Agrees p (fr ∷ caller ∷ rest) h es) (fields : FieldsHold p (fr ∷ caller ∷ rest) h)
    (covered : AreCovered p h (fr ∷ caller ∷ rest)) (ranges : LocalsInRange h caller.locals) (owned : FieldsOwn p h) (targets : KeepsTargets p caller) (making : MakesThis p h caller) where
  holders : HoldersAreUnlinked (is_heavy_class p) h
  holders = contents_have_holders p ac (fr ∷ caller ∷ rest) h fields.contents

  abbrev waits : WaitsFor p h caller fr
  waits = agrees.stacked.0

  holds_here : HoldsLent p h covered.3.0 rest caller agrees.standing.1.0
  holds_here = holds_lent p ac forms h agrees.links owned caller ranges agrees.standing.1.0 covered.3.0 rest targets agrees.ends fields.unfinished.1 (is_given p h caller) (is_reread p h caller) covered.3.3 holders

  pub apart_at_end : (o : ℕ) (x : Object) → object_at h o ≡ Some x → IsHeavyObject p x → x.owner ≡ owners.Frame (length rest + 1) → is_renewed p h caller o ≡ false → IsCountedOn p h covered.0 (caller ∷ rest) fr o x
  apart_at_end = owned_apart_at_end p ac forms h agrees.ends holders fr caller rest agrees.standing.1.0 waits.index waits.step waits.here (row_of waits.step.action waits.named waits.calls) covered.0 covered.3.0 covered.1 covered.3.3 holds_here
      fields.new.1 fields.unfinished.1 targets making

-- The heap that the end of a call leaves: ways up end, what constructors make is not finished, and nobody owns what is not.
use Rattle.std.proofs.Common.{◌≡◌, inl, inr, ℕ, Bool, true, false, true≢false, Option, None, Some, List, [], ◌∷◌, refl, sym, ap, ◌∙◌}
use Rattle.std.proofs.lemmas.List.Elements.{All-head, All-tail}
use Rattle.program_model.specs.declared.kinds.ClassId.{ClassId}
use Rattle.program_model.specs.declared.program.Method.{Method}
use Rattle.program_model.specs.declared.program.Program.{Program}
use Rattle.program_model.specs.Lookups.{method_at}
use Rattle.ledger_obligations.specs.Bodies.{constructs}
use Rattle.control_actions.specs.declared.action.Action.{Action}
use Rattle.ledger_state.specs.Contents.{HeapContents}
use Rattle.ledger_state.specs.Heaps.{object_at, unfinished}
use Rattle.ledger_state.specs.Values.{number_of}
use Rattle.ledger_state.specs.declared.entry.Owner.{Owner}
use Rattle.ledger_state.specs.declared.entry.Owner.TheVariants as owners
use Rattle.ledger_state.specs.declared.locals.Locals.{Locals}
use Rattle.ledger_state.specs.declared.object.Object.{Object}
use Rattle.ledger_state.specs.declared.value.Value.{Value}
use Rattle.ledger_state.specs.declared.value.Value.TheVariants as values
use Rattle.ledger_steps.specs.Ends.{returned_heap}
use Rattle.ledger_steps.specs.LedgerCallsCalls.{reset_position}
use Rattle.value_laws.specs.Chains.{HaveEnds, IsLast}
use Rattle.value_laws.specs.Configuration.{Frame}
use Rattle.value_laws.specs.FieldContents.{AreUnfinished, DeclaresOwning, RunOnOthers, is_new}
use Rattle.value_laws.specs.HeapAnew.{is_field_owner}
use Rattle.value_laws.specs.Ranges.{LocalsInRange}
use Rattle.value_laws.proofs.Chains.{IsLastOwned, IsOwnedAs, ends_on, object_there}
use Rattle.value_laws.proofs.Growth.{returned_grows}
use Rattle.covering_laws.proofs.EndOwners.{end_owner}
use Rattle.covering_laws.proofs.LocalSteps.{LocalsIn}
use Rattle.covering_laws.proofs.StepWays.{end_births, end_unowned}
use Rattle.covering_laws.proofs.Waiting.{KeepsUnfinished}

-- what no field owns is the end of a way up
last_owner : (a : Owner) → is_field_owner a ≡ false → IsLast a
last_owner (owners.Field w f) none = absurd (true≢false none)
last_owner (owners.Frame i) none = tt
last_owner owners.Library none = tt
last_owner owners.Released none = tt
last_owner owners.Lost none = tt
last_owner owners.Unowned none = tt

-- Where the method that the call names creates no obligation anew.
module _ (p : Program) (at : ℕ) (self : Value) (l : Locals) (a : Action) (runs named : Option Method) (v : Value) (e : Option ClassId) (h : HeapContents) (no_reset : reset_position named ≡ None) (have : HaveEnds h)
    (making : (w : ℕ) (x : Object) → is_new a ≡ true → self ≡ values.Object w → object_at h w ≡ Some x → x.finished ≡ false) where
  abbrev ended : HeapContents
  ended = returned_heap p at self l a runs named v e h

  owned : (n : ℕ) (y : Object) → object_at ended n ≡ Some y → IsOwnedAs h ended n y
  owned n y now = by_done y.finished refl
    where
      last : y.finished ≡ true → is_field_owner y.owner ≡ false → IsLastOwned y
      last done none = (last_owner y.owner none, inl done)

      by_done : (b : Bool) → y.finished ≡ b → IsOwnedAs h ended n y
      by_done false open' = let nobody = end_unowned p at self l a runs named v e h no_reset have making n y now open' in inl (last_owner y.owner (ap is_field_owner nobody), inr nobody)
      by_done true done = elim (end_births p at self l a runs named v e h no_reset have making n y now done) [
        | inl before ↦ elim (end_owner p at self l a runs named v e h no_reset making n before.0 y before.1 now before.2) [
          | inl same ↦ inr (inl (before.0, before.1, (same, done ∙ sym before.2)))
          | inr none ↦ inl (last done none)
        ]
        | inr free ↦ inl (last done free.0)
      ]

  pub end_ends : HaveEnds ended
  end_ends = ends_on h ended have (returned_grows p at self l a runs named v e h).count owned

-- ---- what constructors make

-- a frame's constructor makes what it made, where none runs on an object that a step finishes
pub unfinished_but : (p : Program) (h k : HeapContents) (apart : ℕ → Type 0) → KeepsUnfinished h k apart → (frs : List Frame) → ((w : ℕ) → apart w → RunOnOthers w frs) → LocalsIn h frs → AreUnfinished p h frs → AreUnfinished p k frs
unfinished_but p h k apart stays [] others in' unready = tt
unfinished_but p h k apart stays (fr ∷ frs) others in' unready = (
  here,
  unfinished_but p h k apart stays frs (λ w is. (others w is).1) (All-tail (λ (u : Frame). LocalsInRange h u.locals) fr frs in') unready.1,
)
  where
    here : (w : ℕ) (y : Object) → DeclaresOwning p fr.method → constructs (method_at p fr.method) ≡ true → fr.locals.this ≡ values.Object w → object_at k w ≡ Some y → y.finished ≡ false
    here w y declares makes this now =
        let number = (All-head (λ (u : Frame). LocalsInRange h u.locals) fr frs in').this w (ap number_of this) in
        let class : ClassId = record { 0 = 0 } in
        let there = object_there h w (unfinished class) number.0 number.1 in
        stays w there.0 y (λ is. (others w is).0 this) there.1 now (unready.0 w there.0 declares makes this there.1)

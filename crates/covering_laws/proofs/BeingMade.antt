-- The objects that are being made stay unfinished.
use Rattle.std.proofs.Common.{◌≡◌, ℕ, Some, List, [], ◌∷◌, refl, sym, ap, ◌∙◌}
use Rattle.std.proofs.lemmas.List.Elements.{All-head, All-tail}
use Rattle.program_model.specs.declared.kinds.ClassId.{ClassId}
use Rattle.program_model.specs.declared.program.Program.{Program}
use Rattle.ledger_obligations.specs.MustCallSets.{is_heavy_class}
use Rattle.ledger_state.specs.Contents.{HeapContents}
use Rattle.ledger_state.specs.Heaps.{object_at, unfinished}
use Rattle.ledger_state.specs.Values.{number_of}
use Rattle.ledger_state.specs.declared.object.Object.{Object}
use Rattle.ledger_state.specs.declared.value.Value.TheVariants as values
use Rattle.value_laws.specs.Configuration.{Frame}
use Rattle.value_laws.proofs.Chains.{object_there}
use Rattle.value_laws.specs.FieldContents.{IsBeingMade, RunOnOthers}
use Rattle.value_laws.specs.Ranges.{LocalsInRange}
use Rattle.covering_laws.specs.Making.{AreBeingMade}
use Rattle.covering_laws.proofs.LocalSteps.{LocalsIn}
use Rattle.covering_laws.proofs.Waiting.{AllHeldBefore, KeepsUnfinished, none_held_on}

-- none of these frames runs on such an object
abbrev pub AreApart : (ℕ → Type 0) → List Frame → Type 0
AreApart apart [] = Unit {0}
AreApart apart (fr ∷ frs) = ((w : ℕ) → fr.locals.this ≡ values.Object w → apart w → ⊥) × AreApart apart frs

pub all_apart : (frs : List Frame) → AreApart (λ o. ⊥) frs
all_apart [] = tt
all_apart (fr ∷ frs) = ((λ w this never. never), all_apart frs)

-- objects stay of their classes
abbrev pub StayOfClass : HeapContents → HeapContents → Type 0
StayOfClass h k = (w : ℕ) (x y : Object) → object_at h w ≡ Some x → object_at k w ≡ Some y → y.class ≡ x.class

-- the frame above is another one on the same object
pub making_on : (p : Program) (h k : HeapContents) (apart : ℕ → Type 0) → KeepsUnfinished h k apart → StayOfClass h k → (fr fr' : Frame) (frs : List Frame) → fr'.locals.this ≡ fr.locals.this → LocalsIn h (fr ∷ frs) → AreApart apart (fr ∷ frs)
    → AllHeldBefore p h k frs → AreBeingMade p h (fr ∷ frs) → AreBeingMade p k (fr' ∷ frs)
making_on p h k apart keeps classes fr fr' [] same in' others before making = tt
making_on p h k apart keeps classes fr fr' (caller ∷ frs) same in' others before making = (
  here,
  (λ i s w y at new this now heavy. (let x = earlier w this in
      none_held_on p h k w y now heavy (here i s w y at new this now) (caller ∷ frs) before (making.1 i s w x.0 at new (sym same ∙ this) x.1 (ap (is_heavy_class p) (sym (classes w x.0 y x.1 now)) ∙ heavy)))),
  making_on p h k apart keeps classes caller caller frs refl (All-tail (λ (x : Frame). LocalsInRange h x.locals) fr (caller ∷ frs) in') others.1 before.1 making.2,
)
  where
    earlier : (w : ℕ) → fr'.locals.this ≡ values.Object w → (x : Object) × (object_at h w ≡ Some x)
    earlier w this =
        let number = (All-head (λ (x : Frame). LocalsInRange h x.locals) fr (caller ∷ frs) in').this w (ap number_of (sym same ∙ this)) in
        let class : ClassId = record { 0 = 0 } in
        object_there h w (unfinished class) number.0 number.1

    here : IsBeingMade p k fr' caller
    here i s w y at new this now =
        let x = earlier w this in
        keeps w x.0 y (others.0 w (sym same ∙ this)) x.1 now (making.0 i s w x.0 at new (sym same ∙ this) x.1)

-- where none of the frames runs on such an object
pub apart_from : (apart : ℕ → Type 0) (frs : List Frame) → ((w : ℕ) → apart w → RunOnOthers w frs) → AreApart apart frs
apart_from apart [] others = tt
apart_from apart (fr ∷ frs) others = ((λ w this is. (others w is).0 this), apart_from apart frs (λ w is. (others w is).1))

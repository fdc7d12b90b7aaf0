-- Two heaps whose objects differ in what was called on them and what must be called alone, as before and after obligations are created anew: ways up, ends, what was old and what is
-- spared are the same in both.
use Rattle.std.proofs.Common.{◌≡◌, inl, inr, ℕ, ◌+◌, Bool, Some, List, [], ◌∷◌, length, sym, ap, ◌∙◌, subst}
use Rattle.program_model.specs.declared.program.Program.{Program}
use Rattle.ledger_obligations.specs.MustCallSets.{is_heavy_class}
use Rattle.ledger_state.specs.Contents.{HeapContents}
use Rattle.ledger_state.specs.Heaps.{object_at}
use Rattle.ledger_state.specs.declared.object.Object.{Object}
use Rattle.value_laws.specs.Configuration.{Frame}
use Rattle.value_laws.specs.HeapAnew.{is_field_owner}
use Rattle.value_laws.specs.Holders.{FieldsGoOnOwning, HasTop, IsComparable, IsWithin}
use Rattle.value_laws.specs.PlaceFacts.{EndsBelow, IsAnswered, IsHeavyObject, IsOld, IsOwnedBelow, IsSpared, is_frame_from, is_given_up}
use Rattle.value_laws.specs.Renewing.{HasOwningField, IsWhole, IsWholeObject, is_renewed}
use Rattle.value_laws.proofs.WaysUp.{within_goes_on}
use Rattle.covering_laws.proofs.Owners.{HoldersStay, holders_stay}

-- the object is of the class that it was, linked, finished and owned as it was
pub record IsAlike (x y : Object) : Type 0 where
  pub class : y.class ≡ x.class
  pub link : y.link ≡ x.link
  pub finished : y.finished ≡ x.finished
  pub owner : y.owner ≡ x.owner

-- so it is with each object of the one heap and that of the other
pub record AreAlike (h k : HeapContents) : Type 0 where
  pub forth : (o : ℕ) (x : Object) → object_at h o ≡ Some x → (y : Object) × (object_at k o ≡ Some y) × IsAlike x y
  pub back : (o : ℕ) (y : Object) → object_at k o ≡ Some y → (x : Object) × (object_at h o ≡ Some x) × IsAlike x y

alike_back : (x y : Object) → IsAlike x y → IsAlike y x
alike_back x y same = record { class = sym same.class; link = sym same.link; finished = sym same.finished; owner = sym same.owner }

pub alike_turned : (h k : HeapContents) → AreAlike h k → AreAlike k h
alike_turned h k alike = record {
  forth = λ o y at. (let x = alike.back o y at in (x.0, x.1, alike_back x.0 y x.2));
  back = λ o x at. (let y = alike.forth o x at in (y.0, y.1, alike_back x y.0 y.2));
}

pub alike_holders : (p : Program) (h k : HeapContents) → AreAlike h k → HoldersStay p h k
alike_holders p h k alike = holders_stay p h k (λ o y now. let x = alike.back o y now in (x.0, x.1, x.2.class, x.2.finished, x.2.owner))

module _ (h k : HeapContents) (alike : AreAlike h k) where
  -- fields own what they owned
  fields_own : FieldsGoOnOwning h k
  fields_own o x w f at owned = let y = alike.forth o x at in (y.0, y.1, y.2.owner ∙ owned)

  pub within_alike : (a b : ℕ) → IsWithin h a b → IsWithin k a b
  within_alike a b up = within_goes_on h k a b fields_own up

  comparable_alike : (a b : ℕ) → IsComparable h a b → IsComparable k a b
  comparable_alike a b (inl up) = inl (within_alike a b up)
  comparable_alike a b (inr down) = inr (within_alike b a down)

  heavy_alike : (p : Program) (x y : Object) → IsAlike x y → IsHeavyObject p x → IsHeavyObject p y
  heavy_alike p x y same heavy = (same.finished ∙ heavy.0, ap (is_heavy_class p) same.class ∙ heavy.1)

  top_alike : (o e : ℕ) (top : HasTop h o e) → (now : HasTop k o e) × IsAlike top.object now.object
  top_alike o e top =
      let y = alike.forth e top.object top.at in
      (record { within = within_alike o e top.within; object = y.0; at = y.1; unheld = ap is_field_owner y.2.owner ∙ top.unheld }, y.2)

  ends_alike : (frs : List Frame) (o : ℕ) → EndsBelow h frs o → EndsBelow k frs o
  ends_alike frs o ends =
      let now = top_alike o ends.end ends.top in
      record { end = ends.end; top = now.0; below = ap (is_frame_from (length frs + 1)) now.1.owner ∙ ends.below; older = λ open'. ends.older (sym now.1.finished ∙ open') }

  -- ends that were not given up
  pub answered_alike : (o : ℕ) → IsAnswered h o → IsAnswered k o
  answered_alike o (e, top, kept) = let now = top_alike o e top in (e, now.0, ap is_given_up now.1.owner ∙ kept)

-- a whole object is whole
pub whole_alike : (p : Program) (x y : Object) → IsAlike x y → IsWhole p x → IsWhole p y
whole_alike p x y same (inl done) = inl (same.finished ∙ done)
whole_alike p x y same (inr fields) = inr (subst (HasOwningField p) (sym same.class) fields)

whole_object_alike : (p : Program) (x y : Object) → IsAlike x y → IsWholeObject p x → IsWholeObject p y
whole_object_alike p x y same whole = (whole_alike p x y same whole.0, ap (is_heavy_class p) same.class ∙ whole.1)

-- what the call that began the frame spares in the one heap it spares in the other, where it creates the same obligations anew
pub spared_alike : (p : Program) (h k : HeapContents) → AreAlike h k → ((fr : Frame) (o : ℕ) → is_renewed p k fr o ≡ is_renewed p h fr o) → (frs : List Frame) (o : ℕ) → IsSpared p h frs o → IsSpared p k frs o
spared_alike p h k alike same [] o spared = tt
spared_alike p h k alike same (fr ∷ frs) o spared = λ u y there heavy comes.
    let x = alike.back u y there in
    same fr u ∙ spared u x.0 x.1 (whole_object_alike p y x.0 (alike_back x.0 y x.2) heavy) (comparable_alike k h (alike_turned h k alike) u o comes)

-- what was old for a frame is so
pub old_alike : (p : Program) (h k : HeapContents) → AreAlike h k → (frs : List Frame) (fr : Frame) (old : ℕ → Bool) → IsOld p h frs fr old → IsOld p k frs fr old
old_alike p h k alike frs fr old is = record {
  there = λ o was. (let x = is.there o was in let y = alike.forth o x.0 x.1 in (y.0, y.1, y.2.finished ∙ x.2));
  ends = λ o y at heavy was. (let x = alike.back o y at in ends_alike h k alike frs o (is.ends o x.0 x.1 (before o y x.0 x.2 heavy) was));
  below = λ o y at heavy owned. (let x = alike.back o y at in is.below o x.0 x.1 (before o y x.0 x.2 heavy) (subst (IsOwnedBelow p frs) x.2.owner owned));
  contents = λ o y at heavy content takes.
      let x = alike.back o y at in
      is.contents o x.0 x.1 (before o y x.0 x.2 heavy) (record { holder = content.holder; field = content.field; runs = content.runs; owns = sym x.2.owner ∙ content.owns; method = content.method }) takes;
  self = λ w y this at heavy single settled. (let x = alike.back w y at in is.self w x.0 this x.1 (before w y x.0 x.2 heavy) (sym x.2.link ∙ single) settled);
}
  where
    before : (o : ℕ) (y x : Object) → IsAlike x y → IsHeavyObject p y → IsHeavyObject p x
    before o y x same heavy = heavy_alike k h (alike_turned h k alike) p y x (alike_back x y same) heavy

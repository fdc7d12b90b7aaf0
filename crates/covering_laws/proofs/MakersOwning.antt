-- What the fields of an object own that a constructor makes, over a step: the frames' constructors run on, so their objects' fields keep what they own.
use Rattle.std.proofs.Common.{◌≡◌, ◌⊎◌, inl, inr, ℕ, Bool, true, false, true≢false, Option, Some, None, List, [], ◌∷◌, nat_eq, eq-eqb, eqb-true, refl, sym, ap, ◌∙◌, subst}
use Rattle.program_model.specs.declared.kinds.FieldId.{FieldId}
use Rattle.program_model.specs.declared.program.Program.{Program}
use Rattle.ledger_obligations.specs.MustCallSets.{is_heavy_class}
use Rattle.java_control.specs.Owned.{is_owning}
use Rattle.ledger_state.specs.Contents.{HeapContents}
use Rattle.ledger_state.specs.Fields.{field_value}
use Rattle.ledger_state.specs.Heaps.{object_at, root, root_of}
use Rattle.ledger_state.specs.declared.entry.Owner.{Owner}
use Rattle.ledger_state.specs.declared.entry.Owner.TheVariants as owners
use Rattle.ledger_state.specs.declared.object.Object.{Object}
use Rattle.ledger_state.specs.declared.value.Value.{Value}
use Rattle.ledger_state.specs.declared.value.Value.TheVariants as values
use Rattle.value_laws.specs.Configuration.{Frame}
use Rattle.value_laws.specs.FieldContents.{MakerOwns, MakersOwn, RunOnOthers}
use Rattle.value_laws.specs.Heaps.{HasEarlierLinks}
use Rattle.value_laws.specs.Holders.{UnfinishedAreUnowned}
use Rattle.value_laws.specs.PlaceFacts.{OwesOrHolds, is_heavy_in}
use Rattle.value_laws.specs.Ranges.{FieldsInRange, IsNumber}
use Rattle.value_laws.specs.Renewing.{IsMadeBy}
use Rattle.covering_laws.proofs.FieldOwners.{AreAsBefore, LinksObject, held_in_range}
use Rattle.covering_laws.proofs.Owners.{OwnerGoes, OwnersGo, held_at, held_no_frame, left, passed, stays}
use Rattle.covering_laws.proofs.TextStores.{no_root}
use Rattle.covering_laws.proofs.Waiting.{KeepsFieldsButTexts, KeepsRoots, numbered, open_owes}

-- what the frame's constructor has in a field it goes on having
abbrev pub KeepsMade : Program → HeapContents → HeapContents → Frame → Type 0
KeepsMade p h k fr = (w : ℕ) (f : FieldId) (o : ℕ) (x y : Object) → IsMadeBy p fr w → object_at h o ≡ Some x → object_at k o ≡ Some y → is_heavy_class p x.class ≡ true → x.owner ≡ owners.Field w f → y.owner ≡ owners.Field w f

abbrev pub AllKeepMade : Program → HeapContents → HeapContents → List Frame → Type 0
AllKeepMade p h k [] = Unit {0}
AllKeepMade p h k (fr ∷ frs) = KeepsMade p h k fr × AllKeepMade p h k frs

-- ---- frames that go on

-- a field is left only where none of the frames below runs on its object
pub made_kept : (p : Program) (into : Option ℕ) (leaving : List Frame) (j : ℕ) (h k : HeapContents) → UnfinishedAreUnowned h → OwnersGo p into leaving j h k → (fr : Frame) → ((w : ℕ) → RunOnOthers w leaving → fr.locals.this ≡ values.Object w → ⊥)
    → KeepsMade p h k fr
made_kept p into leaving j h k nobody goes fr runs w f o x y made before now heavy own = by_done x.finished refl
  where
    by : OwnerGoes h into leaving j x.owner y.owner → y.owner ≡ owners.Field w f
    by (stays same) = same ∙ own
    by (passed from into' low) = absurd (true≢false (sym from ∙ held_no_frame j x.owner w (held_at x.owner w f own)))
    by (left none then' fields others) = absurd (runs w (others w (held_at x.owner w f own)).0 made.runs)

    by_done : (b : Bool) → x.finished ≡ b → y.owner ≡ owners.Field w f
    by_done true done = by (goes o x y before now done heavy)
    by_done false open' = absurd (let never : ◌≡◌ {A = Owner} owners.Unowned (owners.Field w f) = sym (nobody o x before open') ∙ own in cc)

pub all_made_kept : (p : Program) (into : Option ℕ) (leaving : List Frame) (j : ℕ) (h k : HeapContents) → UnfinishedAreUnowned h → OwnersGo p into leaving j h k → (frs : List Frame) → ((w : ℕ) → RunOnOthers w leaving → RunOnOthers w frs)
    → AllKeepMade p h k frs
all_made_kept p into leaving j h k nobody goes [] runs = tt
all_made_kept p into leaving j h k nobody goes (fr ∷ frs) runs =
    (made_kept p into leaving j h k nobody goes fr (λ w others this. (runs w others).0 this), all_made_kept p into leaving j h k nobody goes frs (λ w others. (runs w others).1))

-- ---- the step

module _ (p : Program) (h k : HeapContents) (links : HasEarlierLinks h) (ranges : FieldsInRange h) (nobody : UnfinishedAreUnowned h) (fields : KeepsFieldsButTexts p h k) (back : AreAsBefore p h k) (roots : KeepsRoots h k ⊎ LinksObject p h k) where
  module _ (fr : Frame) (kept : KeepsMade p h k fr) (owned : MakerOwns p h fr) where
    module _ (w : ℕ) (f : FieldId) (o : ℕ) (x : Object) (made : IsMadeBy p fr w) (owning : is_owning p f ≡ true) (heavy : is_heavy_in p (Some f) ≡ true) (at : object_at k o ≡ Some x) (wide : is_heavy_class p x.class ≡ true) (owes : OwesOrHolds p k o x) where
      -- the field holds object `n`, whose root stays
      module _ (n : ℕ) (value : field_value p h w f ≡ values.Object n) where
        number : IsNumber h n
        number = (held_in_range p h w f n ranges value).1

        stayed : root h n ≡ o → x.owner ≡ owners.Field w f
        stayed same =
            let before = back o x at (numbered h links (values.Object n) o (ap Some same) (λ j is. subst (IsNumber h) (let both : Some n ≡ Some j = is in (let one : n ≡ j = cc in one)) number)).1 in
            let was : is_heavy_class p before.0.class ≡ true = ap (is_heavy_class p) (sym before.2) ∙ wide in
            kept w f o before.0 x made before.1 at was (owned w f o before.0 made owning heavy (ap (root_of h) value ∙ ap Some same) before.1 was (before.3 owes))

        by_link : (l : LinksObject p h k) → root k n ≡ o → (b : Bool) → nat_eq (root h n) l.made ≡ b → x.owner ≡ owners.Field w f
        by_link l found true is =
            let own = owned w f l.made l.object made owning heavy (ap (root_of h) value ∙ ap Some (eqb-true (root h n) l.made is)) l.at l.heavy (inl (open_owes l.object l.unfinished)) in
            absurd (let never : ◌≡◌ {A = Owner} owners.Unowned (owners.Field w f) = sym (nobody l.made l.object l.at l.unfinished) ∙ own in cc)
        by_link l found false apart = stayed (sym (l.others n number (λ is. true≢false (sym (eq-eqb (root h n) l.made is) ∙ apart))) ∙ found)

        by_roots : root k n ≡ o → x.owner ≡ owners.Field w f
        by_roots found = elim roots [
          | inl keeps ↦ stayed (sym (keeps n number) ∙ found)
          | inr l ↦ by_link l found (nat_eq (root h n) l.made) refl
        ]

      by_value : (v : Value) → field_value p h w f ≡ v → root_of k v ≡ Some o → x.owner ≡ owners.Field w f
      by_value (values.Object n) value found = by_roots n value (let both : Some (root k n) ≡ Some o = found in (let one : root k n ≡ o = cc in one))
      by_value values.Nothing value found = absurd (let never : None ≡ Some o = found in cc)
      by_value v value found = absurd (let never : None ≡ Some o = found in cc)

      owns_still : root_of k (field_value p k w f) ≡ Some o → x.owner ≡ owners.Field w f
      owns_still found = elim (fields w f owning) [
        | inl same ↦ by_value (field_value p h w f) refl (ap (root_of k) (sym same) ∙ found)
        | inr text ↦ absurd (let never : None ≡ Some o = sym (no_root k (field_value p k w f) text.1) ∙ found in cc)
      ]

    pub maker_owns_on : MakerOwns p k fr
    maker_owns_on w f o x made owning heavy found at wide owes = owns_still w f o x made owning heavy at wide owes found

  pub makers_own_on : (frs : List Frame) → AllKeepMade p h k frs → MakersOwn p h frs → MakersOwn p k frs
  makers_own_on [] kept owned = tt
  makers_own_on (fr ∷ frs) kept owned = (maker_owns_on fr kept.0 owned.0, makers_own_on frs kept.1 owned.1)

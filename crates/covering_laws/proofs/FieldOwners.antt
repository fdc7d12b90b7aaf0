-- What owning fields hold they own, over a step.
use Rattle.std.specs.Prelude.{◌&&◌, if◌then◌else◌}
use Rattle.std.specs.List.{All, find}
use Rattle.std.specs.Option.{unwrap_or}
use Rattle.std.proofs.Common.{◌≡◌, ◌⊎◌, inl, inr, ℕ, ◌<◌, Bool, true, false, not, true≢false, Option, Some, None, List, [], ◌∷◌, nat_eq, eq-eqb, eqb-true, refl, sym, ap, ◌∙◌, subst}
use Rattle.std.proofs.lemmas.Bool.{and_parts}
use Rattle.std.proofs.lemmas.List.Elements.{All-head, All-tail}
use Rattle.program_model.specs.declared.kinds.FieldId.{FieldId}
use Rattle.program_model.specs.declared.kinds.VType.{VType}
use Rattle.program_model.specs.declared.kinds.VType.TheVariants as types
use Rattle.program_model.specs.declared.program.Field.{Field}
use Rattle.program_model.specs.declared.program.Program.{Program}
use Rattle.program_model.specs.Lookups.{field_at}
use Rattle.ledger_obligations.specs.MustCallSets.{is_heavy_class}
use Rattle.java_control.specs.Owned.{is_owning}
use Rattle.ledger_obligations.specs.Obligations.{is_library_owner}
use Rattle.ledger_state.specs.Contents.{HeapContents}
use Rattle.ledger_state.specs.Fields.{default_in, field_value}
use Rattle.ledger_state.specs.Heaps.{is_field_of, next_number, object_at, root, root_of, unfinished, value_stored}
use Rattle.ledger_state.specs.Values.{default_of, number_of}
use Rattle.ledger_state.specs.declared.entry.Owner.{Owner}
use Rattle.ledger_state.specs.declared.entry.Owner.TheVariants as owners
use Rattle.ledger_state.specs.declared.object.Object.{Object}
use Rattle.ledger_state.specs.declared.object.StoredField.{StoredField}
use Rattle.ledger_state.specs.declared.value.Value.{Value}
use Rattle.ledger_state.specs.declared.value.Value.TheVariants as values
use Rattle.value_laws.specs.Configuration.{Frame}
use Rattle.value_laws.specs.FieldContents.{FieldsOwn, IsFieldOfClass}
use Rattle.value_laws.specs.Heaps.{HasEarlierLinks}
use Rattle.value_laws.specs.Holders.{UnfinishedAreUnowned}
use Rattle.value_laws.specs.PlaceFacts.{MayStore, OwesOrHolds, is_frame_from, is_heavy_in}
use Rattle.value_laws.specs.Ranges.{FieldsInRange, IsNumber, IsStoredInRange}
use Rattle.covering_laws.specs.TextUpdates.{HoldsOrTakesText}
use Rattle.covering_laws.proofs.Owners.{HoldersStay, HoldersWere, OwnerGoes, OwnersGo, held_at, holders_stay, left, passed, stays}
use Rattle.covering_laws.proofs.TextStores.{no_root}
use Rattle.covering_laws.proofs.Waiting.{Carries, Continues, KeepsFields, KeepsFieldsButTexts, KeepsOtherRoots, KeepsRoots, KeepsUnfinished, bore_before, no_other, numbered, open_owes}

-- ---- what fields hold is there, and so are the fields' objects

default_none : (t : VType) (c : ℕ) → default_of t ≡ values.Object c → ⊥
default_none (types.Primitive t) c is = cc
default_none types.Str c is = cc
default_none (types.Arr e) c is = cc
default_none (types.Obj d) c is = cc
default_none types.NullType c is = cc

default_holds_none : (f : Option Field) (c : ℕ) → default_in f ≡ values.Object c → ⊥
default_holds_none None c is = cc
default_holds_none (Some f) c is = default_none f.vtype c is

found_in : (h : HeapContents) (w : ℕ) (f : FieldId) (c : ℕ) (xs : List StoredField) (d : Value) → All (IsStoredInRange h) xs → unwrap_or (value_stored (find (is_field_of w f) xs)) d ≡ values.Object c
    → (d ≡ values.Object c) ⊎ (IsNumber h w × IsNumber h c)
found_in h w f c [] d all is = inl is
found_in h w f c (s ∷ xs) d all is = go (is_field_of w f s) refl is (found_in h w f c xs d (All-tail (IsStoredInRange h) s xs all))
  where
    go : (b : Bool) → is_field_of w f s ≡ b → unwrap_or (value_stored (if b then Some s else find (is_field_of w f) xs)) d ≡ values.Object c
        → (unwrap_or (value_stored (find (is_field_of w f) xs)) d ≡ values.Object c → (d ≡ values.Object c) ⊎ (IsNumber h w × IsNumber h c)) → (d ≡ values.Object c) ⊎ (IsNumber h w × IsNumber h c)
    go true here found rest =
        let both = All-head (IsStoredInRange h) s xs all in
        let holder : s.holder ≡ w = eqb-true s.holder w (and_parts (nat_eq s.holder w) (nat_eq s.field.0 f.0) here).0 in
        inr (subst (IsNumber h) holder both.0, both.1 c (number found))
      where
        number : s.value ≡ values.Object c → number_of s.value ≡ Some c
        number same = ap number_of same
    go false other found rest = rest found

-- an object that a field holds, and the field's, are there
pub held_in_range : (p : Program) (h : HeapContents) (w : ℕ) (f : FieldId) (c : ℕ) → FieldsInRange h → field_value p h w f ≡ values.Object c → IsNumber h w × IsNumber h c
held_in_range p h w f c ranges is = elim (found_in h w f c h.fields (default_in (field_at p f)) ranges is) [ inl none ↦ absurd (default_holds_none (field_at p f) c none) | inr both ↦ both ]

-- ---- what a step keeps

-- an object that is not finished, and whose class has an obligation, is linked: what had it for a root has its new one, and all else the one that it had
pub record LinksObject (p : Program) (h k : HeapContents) : Type 0 where
  pub made : ℕ
  pub object : Object
  pub at : object_at h made ≡ Some object
  pub unfinished : object.finished ≡ false
  pub heavy : is_heavy_class p object.class ≡ true
  pub others : KeepsOtherRoots h k made
  pub mine : (n : ℕ) → IsNumber h n → root h n ≡ made → root k n ≡ root k made

-- an object that was there is of its class; it may owe a call, or a field of it owns something, or may come to own one, only if that was so; and where it was finished, it goes on
abbrev pub AreAsBefore : Program → HeapContents → HeapContents → Type 0
AreAsBefore p h k =
    (o : ℕ) (y : Object) → object_at k o ≡ Some y → o < next_number h → (x : Object) × (object_at h o ≡ Some x) × (y.class ≡ x.class) × (OwesOrHolds p k o y → OwesOrHolds p h o x) × (x.finished ≡ true → Continues x y)

-- what a field of a finished object owns it goes on owning
abbrev pub FinishedKeepOwning : Program → HeapContents → HeapContents → Type 0
FinishedKeepOwning p h k = (o : ℕ) (x y : Object) (w : ℕ) (z : Object) (f : FieldId) → object_at h o ≡ Some x → object_at k o ≡ Some y → is_heavy_class p x.class ≡ true → x.owner ≡ owners.Field w f → object_at h w ≡ Some z → z.finished ≡ true
    → y.owner ≡ owners.Field w f

-- the field owns object `o`, whose object this is; or its object `w` is linked to it, or is an alias of null that the library owns, and it is that object
abbrev pub OwnsOrIs : HeapContents → ℕ → Object → FieldId → ℕ → Object → Type 0
OwnsOrIs k w y f o x = (x.owner ≡ owners.Field w f) ⊎ ((root k w ≡ o) × (y.link ≡ None → is_library_owner y.owner ≡ true))

-- what the field holds it owns, where its type has an obligation
abbrev pub OwnsNow : Program → HeapContents → ℕ → Object → FieldId → Type 0
OwnsNow p k w y f = is_heavy_in p (Some f) ≡ true → (o : ℕ) (x : Object) → root_of k (field_value p k w f) ≡ Some o → object_at k o ≡ Some x → is_heavy_class p x.class ≡ true → OwesOrHolds p k o x → OwnsOrIs k w y f o x

-- what the field of a finished object owns it goes on owning
abbrev pub KeepsOwning : Program → HeapContents → HeapContents → ℕ → FieldId → Type 0
KeepsOwning p h k w f =
    (o : ℕ) (x y z : Object) → object_at h o ≡ Some x → object_at k o ≡ Some y → is_heavy_class p x.class ≡ true → x.owner ≡ owners.Field w f → object_at h w ≡ Some z → z.finished ≡ true → y.owner ≡ owners.Field w f

-- the field holds what it held, or a text in the place of one; or it is one of an object whose class declares it, and where this is finished, it owns what it holds
abbrev pub FieldGoes : Program → HeapContents → HeapContents → ℕ → FieldId → Type 0
FieldGoes p h k w f = (HoldsOrTakesText p h k w f × KeepsOwning p h k w f) ⊎ ((y : Object) → object_at k w ≡ Some y → IsFieldOfClass p f y.class × (y.finished ≡ true → OwnsNow p k w y f))

pub field_stays : (p : Program) (h k : HeapContents) → KeepsFieldsButTexts p h k → FinishedKeepOwning p h k → (w : ℕ) (f : FieldId) → is_owning p f ≡ true → FieldGoes p h k w f
field_stays p h k fields kept w f owning = inl (fields w f owning, λ o x y z before now heavy own there done. kept o x y w z f before now heavy own there done)

-- of an object that the step finishes: what its owning field holds, the field owns, or the object is linked to it
abbrev pub NewOwn : Program → HeapContents → HeapContents → Type 0
NewOwn p h k = (w : ℕ) (z y : Object) (f : FieldId) (o : ℕ) (x : Object) → object_at h w ≡ Some z → object_at k w ≡ Some y → z.finished ≡ false → y.finished ≡ true → is_owning p f ≡ true → is_heavy_in p (Some f) ≡ true → IsFieldOfClass p f z.class
    → root_of k (field_value p h w f) ≡ Some o → object_at k o ≡ Some x → is_heavy_class p x.class ≡ true → OwesOrHolds p k o x → OwnsOrIs k w y f o x

-- ---- the step

module _ (p : Program) (h k : HeapContents) (links : HasEarlierLinks h) (ranges : FieldsInRange h) (nobody : UnfinishedAreUnowned h) (fields : (w : ℕ) (f : FieldId) → is_owning p f ≡ true → FieldGoes p h k w f) (back : AreAsBefore p h k)
    (roots : KeepsRoots h k ⊎ LinksObject p h k) (made : NewOwn p h k) (owned : FieldsOwn p h) where
  module _ (w : ℕ) (y : Object) (f : FieldId) (o : ℕ) (x : Object) (now : object_at k w ≡ Some y) (owning : is_owning p f ≡ true) (heavy : is_heavy_in p (Some f) ≡ true) (at : object_at k o ≡ Some x) (wide : is_heavy_class p x.class ≡ true) where
    abbrev Owns : Type 0
    Owns = IsFieldOfClass p f y.class × (y.finished ≡ true → OwesOrHolds p k o x → OwnsOrIs k w y f o x)

    -- the field holds object `n`
    module _ (kept : KeepsOwning p h k w f) (n : ℕ) (value : field_value p h w f ≡ values.Object n) (found : root k n ≡ o) where
      numbers : IsNumber h w × IsNumber h n
      numbers = held_in_range p h w f n ranges value

      holder : (z : Object) × (object_at h w ≡ Some z) × (y.class ≡ z.class) × (OwesOrHolds p k w y → OwesOrHolds p h w z) × (z.finished ≡ true → Continues z y)
      holder = back w y now numbers.0.1

      abbrev z : Object
      z = holder.0

      -- an object in the heap before is the root
      was_held : (r : ℕ) → root h n ≡ r → root_of h (field_value p h w f) ≡ Some r
      was_held r is = ap (root_of h) value ∙ ap Some is

      -- of an object that was finished, or is so now
      own_by : IsFieldOfClass p f z.class → (z.finished ≡ true → OwesOrHolds p k o x → OwnsOrIs k w y f o x) → Owns
      own_by class own = (subst (IsFieldOfClass p f) (sym holder.2) class, λ done owes. go z.finished refl done owes)
        where
          go : (b : Bool) → z.finished ≡ b → y.finished ≡ true → OwesOrHolds p k o x → OwnsOrIs k w y f o x
          go true was done owes = own was owes
          go false was done owes = made w z y f o x holder.1 now was done owning heavy class (ap (root_of k) value ∙ ap Some found) at wide owes

      -- where it was linked to none, the library owned it, and does so still
      alias_stays : z.finished ≡ true → (z.link ≡ None → is_library_owner z.owner ≡ true) → y.link ≡ None → is_library_owner y.owner ≡ true
      alias_stays done was none = let goes = holder.4 done in goes.1 (was (sym goes.0.link ∙ none))

      -- the root stays
      module _ (same : root h n ≡ o) (holds : root h w ≡ o → root k w ≡ o) where
        before : (u : Object) × (object_at h o ≡ Some u) × (x.class ≡ u.class) × (OwesOrHolds p k o x → OwesOrHolds p h o u) × (u.finished ≡ true → Continues u x)
        before = back o x at (numbered h links (values.Object n) o (ap Some same) (λ j is. subst (IsNumber h) (let both : Some n ≡ Some j = is in (let one : n ≡ j = cc in one)) numbers.1)).1

        stayed : Owns
        stayed =
            let was : is_heavy_class p before.0.class ≡ true = ap (is_heavy_class p) (sym before.2) ∙ wide in
            let own = owned w z f o before.0 holder.1 owning heavy (was_held o same) before.1 was in
            own_by own.0 (λ done owes. elim (own.1 done (before.3 owes)) [
              | inl mine ↦ inl (kept o before.0 x z before.1 at was mine holder.1 done)
              | inr linked ↦ inr (holds linked.0, alias_stays done linked.1)
            ])

      -- it was an object that is linked
      through : (l : LinksObject p h k) → root h n ≡ l.made → Owns
      through l is =
          let own = owned w z f l.made l.object holder.1 owning heavy (was_held l.made is) l.at l.heavy in
          own_by own.0 (λ done owes. elim (own.1 done (inl (open_owes l.object l.unfinished))) [
            | inl mine ↦ absurd (let never : owners.Unowned ≡ owners.Field w f = sym (nobody l.made l.object l.at l.unfinished) ∙ mine in cc)
            | inr linked ↦ inr (l.mine w numbers.0 linked.0 ∙ sym (l.mine n numbers.1 is) ∙ found, alias_stays done linked.1)
          ])

      aside : (l : LinksObject p h k) → (root h n ≡ l.made → ⊥) → Owns
      aside l other =
          let same : root h n ≡ o = sym (l.others n numbers.1 other) ∙ found in
          stayed same (λ is. l.others w numbers.0 (λ also. other (same ∙ sym is ∙ also)) ∙ is)

      by_roots : Owns
      by_roots = elim roots [
        | inl keeps ↦ stayed (sym (keeps n numbers.1) ∙ found) (λ is. keeps w numbers.0 ∙ is)
        | inr l ↦ go l (nat_eq (root h n) l.made) refl
      ]
        where
          go : (l : LinksObject p h k) (b : Bool) → nat_eq (root h n) l.made ≡ b → Owns
          go l true is = through l (eqb-true (root h n) l.made is)
          go l false other = aside l (λ is. true≢false (sym (eq-eqb (root h n) l.made is) ∙ other))

    by_value : KeepsOwning p h k w f → (v : Value) → field_value p h w f ≡ v → root_of k v ≡ Some o → Owns
    by_value kept (values.Object n) value found = by_roots kept n value (let both : Some (root k n) ≡ Some o = found in (let one : root k n ≡ o = cc in one))
    by_value kept values.Nothing value found = absurd (let never : None ≡ Some o = found in cc)
    by_value kept v value found = absurd (let never : None ≡ Some o = found in cc)

    by_field : FieldGoes p h k w f → root_of k (field_value p k w f) ≡ Some o → Owns
    by_field (inl (inl same, kept)) found = by_value kept (field_value p h w f) refl (ap (root_of k) (sym same) ∙ found)
    by_field (inl (inr text, kept)) found = absurd (let never : None ≡ Some o = sym (no_root k (field_value p k w f) text.1) ∙ found in cc)
    by_field (inr new) found = let its = new y now in (its.0, λ done owes. its.1 done heavy o x found at wide owes)

  pub fields_own_on : FieldsOwn p k
  fields_own_on w y f o x now owning heavy found at wide = by_field w y f o x now owning heavy at wide (fields w f owning) found

-- ---- steps that finish nothing

-- what a step carries is as before
pub carried_as_before : (p : Program) (h k : HeapContents) → Carries h k → HoldersWere p h k → AreAsBefore p h k
carried_as_before p h k carries holders o y now below = let x = carries o y now below in (x.0, x.1, x.2, (λ owes. bore_before p h k holders o x.0 y x.1 x.3 owes), x.3)

-- so fields of finished objects keep what they own
pub finished_keep : (p : Program) (into : Option ℕ) (below : List Frame) (j : ℕ) (h k : HeapContents) → UnfinishedAreUnowned h → OwnersGo p into below j h k → FinishedKeepOwning p h k
finished_keep p into below j h k nobody goes o x y w z f before now heavy own there done = by_done x.finished refl
  where
    by : OwnerGoes h into below j x.owner y.owner → y.owner ≡ owners.Field w f
    by (stays same) = same ∙ own
    by (passed from into' low) = absurd (true≢false (sym from ∙ ap (is_frame_from j) own))
    by (left none then' fields others) = absurd (true≢false (sym done ∙ (others w (held_at x.owner w f own)).1 z there))

    by_done : (b : Bool) → x.finished ≡ b → y.owner ≡ owners.Field w f
    by_done true was = by (goes o x y before now was heavy)
    by_done false open' = absurd (let never : owners.Unowned ≡ owners.Field w f = sym (nobody o x before open') ∙ own in cc)

pub none_finished : (p : Program) (h k : HeapContents) → KeepsUnfinished h k no_other → NewOwn p h k
none_finished p h k keeps w z y f o x before now open' done owning heavy class found at wide owes = absurd (true≢false (sym done ∙ keeps w z y (λ never. never) before now open'))

-- a step that finishes and links nothing, and stores texts alone into owning fields
pub fields_own_by : (p : Program) (into : Option ℕ) (below : List Frame) (j : ℕ) (h k : HeapContents) → HasEarlierLinks h → FieldsInRange h → UnfinishedAreUnowned h → KeepsFieldsButTexts p h k → Carries h k → HoldersWere p h k → KeepsRoots h k
    → OwnersGo p into below j h k → KeepsUnfinished h k no_other → FieldsOwn p h → FieldsOwn p k
fields_own_by p into below j h k links ranges nobody fields carries holders roots goes unready owned = fields_own_on p h k links ranges nobody (field_stays p h k fields (finished_keep p into below j h k nobody goes)) (carried_as_before p h k carries holders) (inl roots)
    (none_finished p h k unready) owned

-- objects that differ in what was called on them, and in owners that are no fields, alone
pub fields_own_as : (p : Program) (h k : HeapContents) → ((w : ℕ) (f : FieldId) → is_owning p f ≡ true → field_value p k w f ≡ field_value p h w f) → ((v : Value) → root_of k v ≡ root_of h v)
    → ((o : ℕ) (y : Object) → object_at k o ≡ Some y → (x : Object) × (object_at h o ≡ Some x) × (y.class ≡ x.class) × (y.finished ≡ x.finished) × (OwesOrHolds p k o y → OwesOrHolds p h o x) × ((w : ℕ) (f : FieldId) → x.owner ≡ owners.Field w f → y.owner ≡ x.owner)
    × (y.link ≡ x.link) × (is_library_owner x.owner ≡ true → is_library_owner y.owner ≡ true))
    → FieldsOwn p h → FieldsOwn p k
fields_own_as p h k fields roots was owned w y f o x now owning heavy found at wide =
    let z = was w y now in
    let u = was o x at in
    let own = owned w z.0 f o u.0 z.1 owning heavy (sym (roots (field_value p h w f)) ∙ ap (root_of k) (sym (fields w f owning)) ∙ found) u.1 (ap (is_heavy_class p) (sym u.2) ∙ wide) in (
      subst (IsFieldOfClass p f) (sym z.2) own.0,
      λ done owes. elim (own.1 (sym z.3 ∙ done) (u.4 owes)) [
        | inl mine ↦ inl (u.5 w f mine ∙ mine)
        | inr linked ↦ inr ((let both : Some (root k w) ≡ Some (root h w) = roots (values.Object w) in (let one : root k w ≡ root h w = cc in one)) ∙ linked.0, λ none. z.7 (linked.1 (sym z.6 ∙ none)))
      ],
    )

-- an object of the same class, finished and owned as it was, may owe a call, or owns something by a field, only if that was so
bears_as : (p : Program) (h k : HeapContents) → HoldersStay p h k → (o : ℕ) (x y : Object) → y.class ≡ x.class → y.finished ≡ x.finished → y.owner ≡ x.owner → OwesOrHolds p k o y → OwesOrHolds p h o x
bears_as p h k stay o x y class finished owner (inl owes) =
    inl (ap (λ (b : Bool). not (b && is_library_owner x.owner)) (sym finished) ∙ ap (λ (u : Owner). not (y.finished && is_library_owner u)) (sym owner) ∙ owes)
bears_as p h k stay o x y class finished owner (inr (inl holds)) = inr (inl (stay o holds))
bears_as p h k stay o x y class finished owner (inr (inr may)) = inr (inr (subst (MayStore p) class may))

-- objects that differ in what was called on them, and what must be called, alone
pub fields_own_kept : (p : Program) (h k : HeapContents) → KeepsFields p h k → ((v : Value) → root_of k v ≡ root_of h v)
    → ((o : ℕ) (y : Object) → object_at k o ≡ Some y → (x : Object) × (object_at h o ≡ Some x) × (y.class ≡ x.class) × (y.link ≡ x.link) × (y.finished ≡ x.finished) × (y.owner ≡ x.owner)) → FieldsOwn p h → FieldsOwn p k
fields_own_kept p h k fields roots was = fields_own_as p h k fields roots
    (λ o y now. let x = was o y now in (x.0, x.1, x.2, x.4, (λ owes. bears_as p h k (holders_stay p h k (λ n z there. let u = was n z there in (u.0, u.1, u.2, u.4, u.5))) o x.0 y x.2 x.4 x.5 owes), (λ w f own. x.5), x.3, λ library. ap is_library_owner x.5 ∙ library))

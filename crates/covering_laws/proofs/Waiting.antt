-- A frame whose places stay as they are goes on to be covered, where the objects that they hold go on.
use Rattle.std.proofs.Common.{◌≡◌, ◌⊎◌, inl, inr, ℕ, ◌<◌, ◌≤◌, Bool, true, false, not, ◌&&◌, true≢false, Option, Some, None, List, [], ◌∷◌, refl, sym, ap, ◌∙◌, subst, arith, ◌||◌}
use Rattle.std.proofs.lemmas.Bool.{and_from, and_parts, or_left}
use Rattle.std.specs.FinSet as set
use Rattle.rlc_base.proofs.SetLaws.{within_trans}
use Rattle.program_model.specs.declared.kinds.ClassId.{ClassId}
use Rattle.program_model.specs.declared.kinds.FieldId.{FieldId}
use Rattle.program_model.specs.declared.kinds.MethodId.{MethodId}
use Rattle.program_model.specs.declared.program.Program.{Program}
use Rattle.ledger_obligations.specs.Bodies.{constructs}
use Rattle.ledger_obligations.specs.MustCallSets.{Names, fits, is_heavy_class, must_of}
use Rattle.java_control.specs.Owned.{is_owning}
use Rattle.java_control.specs.PlaceNumbers.{IsSmall}
use Rattle.control_actions.specs.declared.fact.Fact.{Fact}
use Rattle.control_actions.specs.declared.fact.Origin.{Origin}
use Rattle.control_actions.specs.declared.place.Place.{Place}
use Rattle.control_actions.specs.declared.place.Place.TheVariants as places
use Rattle.ownership_rules.specs.Facts.{has, need, is_held, is_own}
use Rattle.ledger_state.specs.Contents.{HeapContents}
use Rattle.ledger_state.specs.Fields.{field_of, field_value}
use Rattle.ledger_state.specs.Heaps.{next_number, object_at, root, root_of, same_root, unfinished}
use Rattle.ledger_state.specs.Values.{number_of}
use Rattle.ledger_state.specs.declared.locals.Locals.{Locals}
use Rattle.ledger_state.specs.declared.entry.Owner.{Owner}
use Rattle.ledger_state.specs.declared.object.Object.{Object}
use Rattle.ledger_state.specs.declared.value.Value.{Value}
use Rattle.ledger_state.specs.declared.value.Value.TheVariants as values
use Rattle.value_laws.specs.Places.{class_by, class_of_method, field_place_value, owning_field_beside, place_value}
use Rattle.value_laws.specs.Configuration.{Frame}
use Rattle.program_model.specs.Lookups.{method_at}
use Rattle.java_control.specs.Owned.{fields_in}
use Rattle.value_laws.specs.Heaps.{GoesOn, HasEarlierLinks, KeepsLinks}
use Rattle.value_laws.proofs.HeapLaws.{numbers_are_in_range, roots_go_on-number, roots_of_links-absent, roots_of_links-itself, roots_of_links-there}
use Rattle.ledger_obligations.specs.Obligations.{is_library_owner}
use Rattle.value_laws.specs.PlaceFacts.{AreWaiting, Covers, IsCovered, IsInField, IsKeyed, IsOld, IsOwned, IsTrueOf, IsUnowned, MayStore, OwesOrHolds, asked_of, is_field_place, is_given, is_idle, is_lent_place, is_owning_fact, is_settled, leaves_all, may_owe, owned, run_on_one, unowned}
use Rattle.covering_laws.proofs.HeavyFields.{claims_owned, known_on, owning_in_no_field}
use Rattle.covering_laws.proofs.InFields.{held_in_field, held_kept}
use Rattle.value_laws.specs.Renewing.{HasOwningField, fact_as, is_of_heavy_class, is_reread, lends_this, reopens}
use Rattle.value_laws.specs.Ranges.{IsInRange, IsNumber}
use Rattle.covering_laws.specs.Making.{HoldNone}
use Rattle.covering_laws.specs.TextUpdates.{HoldsOrTakesText, IsLight}
use Rattle.covering_laws.proofs.TextStores.{light_root, no_root}
use Rattle.covering_laws.proofs.Owners.{AllKeepGifts, AllKeepOwners, HoldersWere, KeepsGifts, KeepsOwners, ThisWas, WaysGo, apart_before, old_kept}
use Rattle.value_laws.proofs.Chains.{object_there}
use Rattle.value_laws.proofs.FieldPlaces.{passes}
use Rattle.control_actions.specs.declared.fact.Mode.{Mode}
use Rattle.control_actions.specs.declared.fact.Mode.TheVariants as modes

-- a finished object goes on, and what the library owns it goes on owning
abbrev pub Continues : Object → Object → Type 0
Continues x y = GoesOn x y × (is_library_owner x.owner ≡ true → is_library_owner y.owner ≡ true)

-- the object of this number was there: it is of its class, and where it was finished it goes on
abbrev pub IsCarried : HeapContents → ℕ → Object → Type 0
IsCarried h o y = (x : Object) × (object_at h o ≡ Some x) × (y.class ≡ x.class) × (x.finished ≡ true → Continues x y)

-- what may owe a call might before
pub owed_before : (x y : Object) → (x.finished ≡ true → Continues x y) → may_owe y ≡ true → may_owe x ≡ true
owed_before x y goes owes = go (x.finished && is_library_owner x.owner) refl
  where
    go : (b : Bool) → (x.finished && is_library_owner x.owner) ≡ b → not (x.finished && is_library_owner x.owner) ≡ true
    go false e = ap not e
    go true e =
        let parts = and_parts x.finished (is_library_owner x.owner) e in
        let on = goes parts.0 in
        absurd (true≢false (sym owes ∙ ap not (and_from y.finished (is_library_owner y.owner) (on.0.finished ∙ parts.0) (on.1 parts.1))))

-- what is not finished may
pub open_owes : (x : Object) → x.finished ≡ false → may_owe x ≡ true
open_owes x is = ap (λ (b : Bool). not (b && is_library_owner x.owner)) is

-- what may owe a call, or holds something, did so before
pub bore_before : (p : Program) (h k : HeapContents) → HoldersWere p h k → (o : ℕ) (x y : Object) → object_at h o ≡ Some x → (x.finished ≡ true → Continues x y) → OwesOrHolds p k o y → OwesOrHolds p h o x
bore_before p h k holders o x y before goes (inl owes) = inl (owed_before x y goes owes)
bore_before p h k holders o x y before goes (inr (inl holds)) = go x.finished refl
  where
    go : (b : Bool) → x.finished ≡ b → OwesOrHolds p h o x
    go true done = elim (holders o (λ z there. ap (λ (u : Object). u.finished) (let both : Some x ≡ Some z = sym before ∙ there in (let one : z ≡ x = cc in one)) ∙ done) holds) [
      | inl held ↦ inr (inl held)
      | inr may ↦ inr (inr (may x before))
    ]
    go false is = inl (open_owes x is)
bore_before p h k holders o x y before goes (inr (inr may)) = go x.finished refl
  where
    go : (b : Bool) → x.finished ≡ b → OwesOrHolds p h o x
    go true done = inr (inr (subst (MayStore p) (goes done).0.class may))
    go false is = inl (open_owes x is)

-- so is each object of the heap `k` that the heap `h` had
abbrev pub Carries : HeapContents → HeapContents → Type 0
Carries h k = (o : ℕ) (y : Object) → object_at k o ≡ Some y → o < next_number h → IsCarried h o y

-- an object that was not finished is not, but for these
abbrev pub KeepsUnfinished : HeapContents → HeapContents → (ℕ → Type 0) → Type 0
KeepsUnfinished h k apart = (o : ℕ) (x y : Object) → (apart o → ⊥) → object_at h o ≡ Some x → object_at k o ≡ Some y → x.finished ≡ false → y.finished ≡ false

abbrev pub no_other : ℕ → Type 0
no_other o = ⊥

-- nor does one that says that the frame owns it say that a field does
pub own_not_held : (m : Mode) (b : Bool) → is_own m ≡ true → (is_held m && b) ≡ false
own_not_held modes.Own b is = refl
own_not_held modes.None b is = refl
own_not_held modes.Held b is = absurd (true≢false (sym is))
own_not_held modes.Lent b is = refl
own_not_held modes.Alias b is = refl

-- what is finished only if it was is not finished where it was not
pub still_unfinished : (x y : Object) → (y.finished ≡ true → x.finished ≡ true) → x.finished ≡ false → y.finished ≡ false
still_unfinished x y was none = go y.finished refl
  where
    go : (b : Bool) → y.finished ≡ b → y.finished ≡ false
    go false is = is
    go true is = absurd (true≢false (sym (was is) ∙ none))

-- what is not finished was not
pub was_open : (x y : Object) → (x.finished ≡ true → Continues x y) → y.finished ≡ false → x.finished ≡ false
was_open x y goes open' = go x.finished refl
  where
    go : (b : Bool) → x.finished ≡ b → x.finished ≡ false
    go false is = is
    go true is = absurd (true≢false (sym is ∙ sym (goes is).0.finished ∙ open'))

-- what is true of an object stays so as it goes on
pub still_true : (p : Program) (x y : Object) (o : Origin) (f : Fact) → GoesOn x y → IsTrueOf p x o f → IsTrueOf p y o f
still_true p x y o f goes truth = record {
  finished = goes.finished ∙ truth.finished;
  class = ap (λ (c : ClassId). fits p c o.class) goes.class ∙ truth.class;
  bounded = ap (λ (s : Names). set.is_subset s (must_of p y.class)) goes.must ∙ ap (λ (c : ClassId). set.is_subset x.must (must_of p c)) goes.class ∙ truth.bounded;
  need = ap (λ (s : Names). set.is_subset s (need o f)) goes.must ∙ truth.need;
  called = within_trans f.called x.called y.called truth.called goes.called;
}

-- ---- roots

-- what was there has the root that it had
abbrev pub KeepsRoots : HeapContents → HeapContents → Type 0
KeepsRoots h k = (n : ℕ) → IsNumber h n → root k n ≡ root h n

pub value_root : (h k : HeapContents) → KeepsRoots h k → (v : Value) → IsInRange h v → root_of k v ≡ root_of h v
value_root h k roots values.Nothing in' = refl
value_root h k roots (values.Object n) in' = ap Some (roots n (in' n refl))
value_root h k roots v in' = refl

-- the root of a value is there
pub root_there : (h : HeapContents) → HasEarlierLinks h → (v : Value) (o : ℕ) → IsInRange h v → root_of h v ≡ Some o → (x : Object) × (object_at h o ≡ Some x)
root_there h links values.Nothing o in' is = absurd (let never : None ≡ Some o = is in cc)
root_there h links (values.Object n) o in' is =
    let number = in' n refl in
    let class : ClassId = record { 0 = 0 } in
    let x = object_there h n (unfinished class) number.0 number.1 in
    let y = roots_of_links-there h n x.0 links x.1 in
    (y.0, ap (object_at h) (let both : Some o ≡ Some (root h n) = sym is in (let one : o ≡ root h n = cc in one)) ∙ y.1)
root_there h links v o in' is = absurd (let never : None ≡ Some o = is in cc)

pub numbered : (h : HeapContents) → HasEarlierLinks h → (v : Value) (o : ℕ) → root_of h v ≡ Some o → IsInRange h v → IsNumber h o
numbered h links v o is in' = let x = root_there h links v o in' is in numbers_are_in_range h o x.0 x.1

-- the next object has itself for its root, where it is not linked
pub new_root : (h k : HeapContents) → ((y : Object) → object_at k (next_number h) ≡ Some y → y.link ≡ None) → root k (next_number h) ≡ next_number h
new_root h k unlinked = go (object_at k (next_number h)) refl
  where
    go : (x : Option Object) → object_at k (next_number h) ≡ x → root k (next_number h) ≡ next_number h
    go None at = roots_of_links-absent k (next_number h) at
    go (Some y) at = roots_of_links-itself k (next_number h) y at (unlinked y at)

-- where all objects keep their links, no root changes
pub linked_roots : (h k : HeapContents) → HasEarlierLinks h → KeepsLinks h k → KeepsRoots h k
linked_roots h k links keeps n number =
    let class : ClassId = record { 0 = 0 } in
    let x = object_there h n (unfinished class) number.0 number.1 in
    roots_go_on-number h k n x.0 links keeps x.1

-- the objects that were there are linked as they were
abbrev pub AreLinked : HeapContents → HeapContents → Type 0
AreLinked h k = (n : ℕ) (y : Object) → object_at k n ≡ Some y → n < next_number h → (x : Object) × (object_at h n ≡ Some x) × (y.link ≡ x.link)

pub carried_roots : (h k : HeapContents) → HasEarlierLinks h → next_number h ≤ next_number k → AreLinked h k → KeepsRoots h k
carried_roots h k links count linked = linked_roots h k links keeps
  where
    keeps : KeepsLinks h k
    keeps m x at =
        let range = numbers_are_in_range h m x at in
        let some = range.0 in
        let below = range.1 in
        let y = object_there k m x some (omega (arith, below, count)) in
        let c = linked m y.0 y.1 below in
        (y.0, y.1, c.2 ∙ ap (λ (z : Object). z.link) (let both : Some c.0 ≡ Some x = sym c.1 ∙ at in (let one : c.0 ≡ x = cc in one)))

-- all that had another root than object `w` has the root that it had
abbrev pub KeepsOtherRoots : HeapContents → HeapContents → ℕ → Type 0
KeepsOtherRoots h k w = (n : ℕ) → IsNumber h n → (root h n ≡ w → ⊥) → root k n ≡ root h n

pub other_value_root : (h k : HeapContents) (w : ℕ) → KeepsOtherRoots h k w → (v : Value) → IsInRange h v → (root_of h v ≡ Some w → ⊥) → root_of k v ≡ root_of h v
other_value_root h k w roots values.Nothing in' other = refl
other_value_root h k w roots (values.Object n) in' other = ap Some (roots n (in' n refl) (λ is. other (ap Some is)))
other_value_root h k w roots v in' other = refl

-- ---- fields

-- the fields of all objects that are owning hold what they held
abbrev pub KeepsFields : Program → HeapContents → HeapContents → Type 0
KeepsFields p h k = (w : ℕ) (f : FieldId) → is_owning p f ≡ true → field_value p k w f ≡ field_value p h w f

-- or a text in the place of one
abbrev pub KeepsFieldsButTexts : Program → HeapContents → HeapContents → Type 0
KeepsFieldsButTexts p h k = (w : ℕ) (f : FieldId) → is_owning p f ≡ true → HoldsOrTakesText p h k w f

pub but_texts : (p : Program) (h k : HeapContents) → KeepsFields p h k → KeepsFieldsButTexts p h k
but_texts p h k fields w f own = inl (fields w f own)

-- the place holds what it held, or no object in the place of none that has an obligation
abbrev pub KeepsValue : Program → HeapContents → HeapContents → Value → Value → Type 0
KeepsValue p h k before now = (now ≡ before) ⊎ (IsLight p h before × (number_of now ≡ None))

module _ (p : Program) (h k : HeapContents) (fields : KeepsFieldsButTexts p h k) where
  kept_field_of : (v : Value) (f : FieldId) → is_owning p f ≡ true → KeepsValue p h k (field_of p h v f) (field_of p k v f)
  kept_field_of (values.Object w) f own = fields w f own
  kept_field_of v f own = inl refl

  kept_beside : (m : MethodId) (this : Value) (n : ℕ) → KeepsValue p h k (field_place_value p h this (owning_field_beside p m n)) (field_place_value p k this (owning_field_beside p m n))
  kept_beside m this n = go (owning_field_beside p m n) refl
    where
      go : (x : Option FieldId) → owning_field_beside p m n ≡ x → KeepsValue p h k (field_place_value p h this x) (field_place_value p k this x)
      go None is = inl refl
      go (Some f) is = kept_field_of this f (passes (is_owning p) (fields_in (class_by p (class_of_method (method_at p m)))) n f is)

  -- so do the places of a frame
  pub kept_place : (m : MethodId) (l : Locals) (q : Place) → KeepsValue p h k (place_value p h m l q) (place_value p k m l q)
  kept_place m l (places.Var i) = inl refl
  kept_place m l places.This = inl refl
  kept_place m l (places.Field n) = kept_beside m l.this n
  kept_place m l (places.Temp d) = inl refl
  kept_place m l places.Super = inl refl

module _ (p : Program) (h k : HeapContents) (fields : KeepsFields p h k) where
  same_field_of : (v : Value) (f : FieldId) → is_owning p f ≡ true → field_of p k v f ≡ field_of p h v f
  same_field_of (values.Object w) f own = fields w f own
  same_field_of v f own = refl

  same_beside : (m : MethodId) (this : Value) (n : ℕ) → field_place_value p k this (owning_field_beside p m n) ≡ field_place_value p h this (owning_field_beside p m n)
  same_beside m this n = go (owning_field_beside p m n) refl
    where
      go : (x : Option FieldId) → owning_field_beside p m n ≡ x → field_place_value p k this x ≡ field_place_value p h this x
      go None is = refl
      go (Some f) is = same_field_of this f (passes (is_owning p) (fields_in (class_by p (class_of_method (method_at p m)))) n f is)

  -- so the places of a frame hold what they held
  pub same_place : (m : MethodId) (l : Locals) (q : Place) → place_value p k m l q ≡ place_value p h m l q
  same_place m l (places.Var i) = refl
  same_place m l places.This = refl
  same_place m l (places.Field n) = same_beside m l.this n
  same_place m l (places.Temp d) = refl
  same_place m l places.Super = refl

-- the places of the frame hold what they held, or a text in the place of one
abbrev pub KeepsPlaces : Program → HeapContents → HeapContents → Frame → Type 0
KeepsPlaces p h k fr = (q : Place) → IsSmall q → KeepsValue p h k (place_value p h fr.method fr.locals q) (place_value p k fr.method fr.locals q)

-- a value that holds an object of a class with an obligation stays, and one that is there held it
pub kept_root : (p : Program) (h k : HeapContents) (before now : Value) (o : ℕ) → KeepsValue p h k before now → root_of k now ≡ Some o → now ≡ before
kept_root p h k before now o (inl same) is = same
kept_root p h k before now o (inr text) is = absurd (let never : None ≡ Some o = sym (no_root k now text.1) ∙ is in cc)

pub heavy_stays : (p : Program) (h k : HeapContents) (before now : Value) (o : ℕ) (x : Object) → KeepsValue p h k before now → root_of h before ≡ Some o → object_at h o ≡ Some x → is_heavy_class p x.class ≡ true → now ≡ before
heavy_stays p h k before now o x (inl same) is at heavy = same
heavy_stays p h k before now o x (inr text) is at heavy = absurd (true≢false (sym heavy ∙ light_root p h before o x text.0 is at))

-- what a place of the frame held, and has an obligation, is finished only if it was
abbrev pub KeepsReady : Program → HeapContents → HeapContents → Frame → Type 0
KeepsReady p h k fr = (q : Place) (o : ℕ) (x y : Object) → IsSmall q → root_of h (place_value p h fr.method fr.locals q) ≡ Some o → object_at h o ≡ Some x → object_at k o ≡ Some y → is_heavy_class p x.class ≡ true
    → y.finished ≡ true → x.finished ≡ true

pub was_ready : (x y : Object) → (x.finished ≡ false → y.finished ≡ false) → y.finished ≡ true → x.finished ≡ true
was_ready x y keeps done = go x.finished refl
  where
    go : (b : Bool) → x.finished ≡ b → x.finished ≡ true
    go true is = is
    go false is = absurd (true≢false (sym done ∙ keeps is))

pub ready_but : (p : Program) (h k : HeapContents) (apart : ℕ → Type 0) → KeepsUnfinished h k apart → (fr : Frame)
    → ((q : Place) (o : ℕ) (x : Object) → IsSmall q → root_of h (place_value p h fr.method fr.locals q) ≡ Some o → object_at h o ≡ Some x → is_heavy_class p x.class ≡ true → apart o → ⊥) → KeepsReady p h k fr
ready_but p h k apart keeps fr others q o x y small root before at heavy done = was_ready x y (keeps o x y (others q o x small root before heavy) before at) done

pub all_ready : (p : Program) (h k : HeapContents) → KeepsUnfinished h k no_other → (fr : Frame) → KeepsReady p h k fr
all_ready p h k keeps fr = ready_but p h k no_other keeps fr (λ q o x small root before heavy never. never)

-- what the places of the frame hold is there
abbrev pub HoldsThere : Program → HeapContents → Frame → Type 0
HoldsThere p h fr = (q : Place) → IsSmall q → IsInRange h (place_value p h fr.method fr.locals q)

-- and has the root that it had
abbrev pub KeepsRootsOf : Program → HeapContents → HeapContents → Frame → Type 0
KeepsRootsOf p h k fr = (q : Place) → IsSmall q → root_of k (place_value p h fr.method fr.locals q) ≡ root_of h (place_value p h fr.method fr.locals q)

-- The place is that of a field, in a method of which nothing is said of what fields hold: whatever object with an obligation is there now, it is in a fact that claims nothing.
pub record IsIdlePlace (p : Program) (k : HeapContents) (frs : List Frame) (fr : Frame) (q : Place) : Type 0 where
  pub aside : is_field_place q ≡ true
  pub plain : constructs (method_at p fr.method) ≡ false
  pub closed : reopens (method_at p fr.method) ≡ false
  pub idle : (f : Fact) → f.mode ≡ modes.Held → is_idle p frs fr f ≡ true
  pub keyed : (old : ℕ → Bool) (away anew : Bool) (o : ℕ) (y : Object) → root_of k (place_value p k fr.method fr.locals q) ≡ Some o → object_at k o ≡ Some y → is_heavy_class p y.class ≡ true
      → IsUnowned p k away anew old frs fr q o y

-- the places of the frame of which something is said hold what they held, or a text in the place of one; the others are lent, or such places
abbrev pub KeepsSaidPlaces : Program → HeapContents → HeapContents → List Frame → Frame → Type 0
KeepsSaidPlaces p h k frs fr =
    (q : Place) → IsSmall q → is_lent_place p fr q ≡ false → KeepsValue p h k (place_value p h fr.method fr.locals q) (place_value p k fr.method fr.locals q) ⊎ IsIdlePlace p k frs fr q

pub keeps_said : (p : Program) (h k : HeapContents) (frs : List Frame) (fr : Frame) → KeepsPlaces p h k fr → KeepsSaidPlaces p h k frs fr
keeps_said p h k frs fr same q small kept = inl (same q small)

module _ (p : Program) (h k : HeapContents) (gives : ℕ → ClassId → Bool) (renewed renewed' : ℕ → Owner → Bool) (old : ℕ → Bool) (frs : List Frame) (fr : Frame) (roots : KeepsRootsOf p h k fr) (same : KeepsSaidPlaces p h k frs fr)
    (was : (q : Place) (o : ℕ) (y : Object) → IsSmall q → root_of h (place_value p h fr.method fr.locals q) ≡ Some o → object_at k o ≡ Some y → IsCarried h o y) (ready : KeepsReady p h k fr)
    (keeps : KeepsOwners p h k gives frs fr) (aged : IsOld p h frs fr old)
    (alike : (o : ℕ) (x y : Object) → object_at h o ≡ Some x → object_at k o ≡ Some y → is_heavy_class p x.class ≡ true → renewed' o y.owner ≡ renewed o x.owner) where
  abbrev Keeps : Place → Type 0
  Keeps q = KeepsValue p h k (place_value p h fr.method fr.locals q) (place_value p k fr.method fr.locals q)

  root_before : (q : Place) (o : ℕ) → IsSmall q → Keeps q → root_of k (place_value p k fr.method fr.locals q) ≡ Some o → root_of h (place_value p h fr.method fr.locals q) ≡ Some o
  root_before q o small keeps' is = sym (roots q small) ∙ ap (root_of k) (sym (kept_root p h k _ _ o keeps' is)) ∙ is

  root_after : (q : Place) (o : ℕ) (x : Object) → IsSmall q → Keeps q → root_of h (place_value p h fr.method fr.locals q) ≡ Some o → object_at h o ≡ Some x → is_heavy_class p x.class ≡ true
      → root_of k (place_value p k fr.method fr.locals q) ≡ Some o
  root_after q o x small keeps' is at heavy = ap (root_of k) (heavy_stays p h k _ _ o x keeps' is at heavy) ∙ roots q small ∙ is

  -- a finished object goes on
  module _ (o : ℕ) (x y : Object) (before : object_at h o ≡ Some x) (at : object_at k o ≡ Some y) (class : y.class ≡ x.class) (heavy : is_heavy_class p x.class ≡ true) (goes : x.finished ≡ true → Continues x y)
      (done : y.finished ≡ true → x.finished ≡ true) (away anew : Bool) (spared : away ≡ false → gives o x.class ≡ false) where
    pub covers_after : Covers p h away anew old frs fr o x → Covers p k away anew old frs fr o y
    covers_after c = record {
      body = c.body;
      id = c.id;
      origin = c.origin;
      fact = c.fact;
      reached = c.reached;
      alone = c.alone;
      places = λ said z small' kept is. by_place said z small' kept is (same z small' kept);
      true' = λ claimed spared mine. still_true p x y c.origin (fact_as anew c.fact) (goes (c.true' claimed spared mine).finished).0 (c.true' claimed spared mine);
      lent = c.lent;
      free = λ finished held answers mine claims.
          let was = held_in_field p h away anew old frs fr o x c (done finished) held answers mine claims in (
            held_kept p h away anew old frs fr o x c (done finished) held answers mine claims,
            subst (IsInField p fr c.fact.places) (sym (keeps.held o x y before at (done finished) heavy answers mine was.0)) was,
          );
      lends = λ is finished. (let was = c.lends is (done finished) in (was.0, (keeps.others.keeps o x y before at (inl (done finished), heavy) was.1).1));
      makes = λ constructor this. still_unfinished x y done (c.makes constructor this);
      begun = λ lent other fields open'.
          let declares = subst (HasOwningField p) class fields in
          let was = c.begun lent other declares (was_open x y goes open') in
          (was.0, (keeps.others.keeps o x y before at (inr declares, heavy) was.1).1, was.2);
      unrenewed = λ finished tells is. c.unrenewed (done finished) tells (apart_before p h k old frs fr fr o x y c.fact c.fact keeps.others aged before at (done finished) heavy is.3 is);
      known = λ finished tells is stays.
          let was_done = done finished in
          known_on c.fact.called (asked_of p (method_at p fr.method) c.origin.kind) x.called y.called
          (c.known was_done tells (apart_before p h k old frs fr fr o x y c.fact c.fact keeps.others aged before at was_done heavy is.3 is) stays) (goes was_done).0.called;
      fields = c.fields;
      held = c.held;
      outside = c.outside;
    }
      where
        by_place : is_idle p frs fr c.fact ≡ false → (z : Place) → IsSmall z → is_lent_place p fr z ≡ false → has c.fact.places z ≡ true → Keeps z ⊎ IsIdlePlace p k frs fr z → root_of k (place_value p k fr.method fr.locals z) ≡ Some o
        by_place said z small' kept is (inl keeps') = root_after z o x small' keeps' (c.places said z small' kept is) before heavy
        by_place said z small' kept is (inr idle) = absurd (idle_place z small' is idle.aside)
          where
            idle_place : (z' : Place) → IsSmall z' → has c.fact.places z' ≡ true → is_field_place z' ≡ true → ⊥
            idle_place (places.Field n) less there aside = true≢false (sym (idle.idle c.fact (c.outside idle.plain idle.closed n less there)) ∙ said)
            idle_place (places.Var i) less there aside = true≢false (sym aside)
            idle_place places.This less there aside = true≢false (sym aside)
            idle_place (places.Temp d) less there aside = true≢false (sym aside)
            idle_place places.Super less there aside = true≢false (sym aside)

    unowned_after : (q : Place) → IsUnowned p h away anew old frs fr q o x → IsUnowned p k away anew old frs fr q o y
    unfolding covers_after
    unowned_after q u = record { covers = covers_after u.covers; here = u.here; unowned = u.unowned }

    owned_after : (q : Place) → IsSmall q → root_of h (place_value p h fr.method fr.locals q) ≡ Some o → (c : Covers p h away anew old frs fr o x) → has c.fact.places q ≡ true → IsOwned p h away anew old frs fr o x c
        → IsOwned p k away anew old frs fr o y (covers_after c)
    unfolding covers_after
    owned_after q small held c here key = record {
      owning = key.owning;
      owner = λ stays own. keeps.own q o x y small (part own q small here) held before at
          (c.true' key.owning (ap (λ (b : Bool). b && is_own c.fact.mode) stays) (own_not_held c.fact.mode (lends_this p fr) own)).finished heavy (spared stays) (key.owner stays own);
      others = λ z small' kept is. elim (same z small' kept) [
        | inl keeps' ↦ elim (key.others z small' kept (root_before z o small' keeps' is)) [ inl in' ↦ inl in' | inr u ↦ inr (unowned_after z u) ]
        | inr idle ↦ inr (idle.keyed old away anew o y is at (ap (is_heavy_class p) class ∙ heavy))
      ];
    }
      where
        part : is_own c.fact.mode ≡ true → (z : Place) → IsSmall z → has c.fact.places z ≡ true → is_field_place z ≡ false
        part own (places.Field n) inside there = absurd (owning_in_no_field p h away anew old frs fr o x c (and_from (is_heavy_class p c.origin.class) (is_own c.fact.mode) (claims_owned p (method_at p fr.method) c.origin c.fact key.owning).0 own) n inside there)
        part own (places.Var i) inside there = refl
        part own places.This inside there = refl
        part own (places.Temp d) inside there = refl
        part own places.Super inside there = refl

    pub keyed_after : (q : Place) → IsSmall q → root_of h (place_value p h fr.method fr.locals q) ≡ Some o → IsKeyed p h away anew old frs fr q o x → IsKeyed p k away anew old frs fr q o y
    unfolding covers_after
    keyed_after q small held (owned c here key) = owned (covers_after c) here (owned_after q small held c here key)
    keyed_after q small held (unowned u) = unowned (unowned_after q u)

  pub stays_covered : IsCovered p h gives renewed old frs fr → IsCovered p k gives renewed' old frs fr
  stays_covered covered q o y small kept root at heavy owes = elim (same q small kept) [
    | inl keeps' ↦ by keeps' (was q o y small (root_before q o small keeps' root) at)
    | inr idle ↦ unowned (idle.keyed old (gives o y.class) (renewed' o y.owner) o y root at heavy)
  ]
    where
      by : Keeps q → IsCarried h o y → IsKeyed p k (gives o y.class) (renewed' o y.owner) old frs fr q o y
      by keeps' (x, before, class, goes) =
          let heavy' : is_heavy_class p x.class ≡ true = ap (is_heavy_class p) (sym class) ∙ heavy in
          let root' = root_before q o small keeps' root in
          subst (λ (b : Bool). IsKeyed p k (gives o y.class) b old frs fr q o y) (sym (alike o x y before at heavy'))
          (subst (λ (c : ClassId). IsKeyed p k (gives o c) (renewed o x.owner) old frs fr q o y) (sym class)
          (keyed_after o x y before at class heavy' goes (ready q o x y small root' before at heavy') (gives o x.class) (renewed o x.owner) (λ none. none) q small root' (covered q o x small kept root' before heavy' (bore_before p h k keeps.others.holders o x y before goes owes))))

-- what is covered where these objects are given away, and of these the obligations created anew, is so where the same ones are
pub given_alike : (p : Program) (h : HeapContents) (f g : ℕ → ClassId → Bool) (d e : ℕ → Owner → Bool) (old : ℕ → Bool) (frs : List Frame) (fr : Frame) → ((o : ℕ) (c : ClassId) → g o c ≡ f o c) → ((o : ℕ) (x : Object) → object_at h o ≡ Some x → e o x.owner ≡ d o x.owner)
    → IsCovered p h f d old frs fr → IsCovered p h g e old frs fr
given_alike p h f g d e old frs fr same alike covered q o x small kept root at heavy owes =
    subst (λ (b : Bool). IsKeyed p h (g o x.class) b old frs fr q o x) (sym (alike o x at)) (subst (λ (b : Bool). IsKeyed p h b (d o x.owner) old frs fr q o x) (sym (same o x.class)) (covered q o x small kept root at heavy owes))

abbrev pub AllKeep : Program → HeapContents → HeapContents → List Frame → Type 0
AllKeep p h k [] = Unit {0}
AllKeep p h k (fr ∷ frs) = KeepsPlaces p h k fr × AllKeep p h k frs

abbrev pub AllKeepSaid : Program → HeapContents → HeapContents → List Frame → Type 0
AllKeepSaid p h k [] = Unit {0}
AllKeepSaid p h k (fr ∷ frs) = KeepsSaidPlaces p h k frs fr × AllKeepSaid p h k frs

pub all_keep_said : (p : Program) (h k : HeapContents) (frs : List Frame) → AllKeep p h k frs → AllKeepSaid p h k frs
all_keep_said p h k [] same = tt
all_keep_said p h k (fr ∷ frs) same = (keeps_said p h k frs fr same.0, all_keep_said p h k frs same.1)

abbrev pub AllReady : Program → HeapContents → HeapContents → List Frame → Type 0
AllReady p h k [] = Unit {0}
AllReady p h k (fr ∷ frs) = KeepsReady p h k fr × AllReady p h k frs

pub frames_ready : (p : Program) (h k : HeapContents) → KeepsUnfinished h k no_other → (frs : List Frame) → AllReady p h k frs
frames_ready p h k keeps [] = tt
frames_ready p h k keeps (fr ∷ frs) = (all_ready p h k keeps fr, frames_ready p h k keeps frs)

abbrev pub AllThere : Program → HeapContents → List Frame → Type 0
AllThere p h [] = Unit {0}
AllThere p h (fr ∷ frs) = HoldsThere p h fr × AllThere p h frs

-- the places of all frames have the roots that they had
abbrev pub AllKeepRoots : Program → HeapContents → HeapContents → List Frame → Type 0
AllKeepRoots p h k [] = Unit {0}
AllKeepRoots p h k (fr ∷ frs) = KeepsRootsOf p h k fr × AllKeepRoots p h k frs

pub keeps_roots : (p : Program) (h k : HeapContents) → KeepsRoots h k → (fr : Frame) → HoldsThere p h fr → KeepsRootsOf p h k fr
keeps_roots p h k roots fr inside q small = value_root h k roots (place_value p h fr.method fr.locals q) (inside q small)

pub all_keep_roots : (p : Program) (h k : HeapContents) → KeepsRoots h k → (frs : List Frame) → AllThere p h frs → AllKeepRoots p h k frs
all_keep_roots p h k roots [] inside = tt
all_keep_roots p h k roots (fr ∷ frs) inside = (keeps_roots p h k roots fr inside.0, all_keep_roots p h k roots frs inside.1)

-- so have those of frames that do not hold object `w`
pub all_keep_other_roots : (p : Program) (h k : HeapContents) (w : ℕ) → KeepsOtherRoots h k w → (frs : List Frame) → AllThere p h frs → HoldNone p h w frs → AllKeepRoots p h k frs
all_keep_other_roots p h k w roots [] inside none = tt
all_keep_other_roots p h k w roots (fr ∷ frs) inside none = (
  (λ q small. other_value_root h k w roots (place_value p h fr.method fr.locals q) (inside.0 q small) (none.0 q small)),
  all_keep_other_roots p h k w roots frs inside.1 none.1,
)

-- each object goes on, of its class, and finished if it was
abbrev pub AllGoOn : Program → HeapContents → HeapContents → Type 0
AllGoOn p h k = (o : ℕ) (x : Object) → object_at h o ≡ Some x → (y : Object) × (object_at k o ≡ Some y) × (y.class ≡ x.class) × (x.finished ≡ true → y.finished ≡ true)

pub ways_go_on : (p : Program) (into : Option ℕ) (below : List Frame) (j : ℕ) (h k : HeapContents) → WaysGo p into below j h k → AllGoOn p h k
ways_go_on p into below j h k ways o x at = let y = ways.objects o x at in (y.0, y.1, y.2, λ done. (y.3 done).0)

-- the frame is settled as it goes on where it was, and the same facts are idle
pub settled_as : (p : Program) (fr after : Frame) (frs : List Frame) → after.locals.this ≡ fr.locals.this → after.method ≡ fr.method → is_settled p after frs ≡ is_settled p fr frs
settled_as p fr after [] this method = ap (λ (m : MethodId). leaves_all p (method_at p m)) method
settled_as p fr after (caller ∷ frs) this method =
    ap (λ (m : MethodId). leaves_all p (method_at p m) || run_on_one after caller && not (lends_this p caller) && (constructs (method_at p caller.method) || (reopens (method_at p caller.method) || is_settled p caller frs))) method
    ∙ ap (λ (v : Value). leaves_all p (method_at p fr.method) || same_root (number_of v) (number_of caller.locals.this) && not (lends_this p caller) && (constructs (method_at p caller.method) || (reopens (method_at p caller.method) || is_settled p caller frs))) this

pub idle_as : (p : Program) (fr after : Frame) (frs : List Frame) (f : Fact) → after.locals.this ≡ fr.locals.this → after.method ≡ fr.method → is_idle p frs after f ≡ is_idle p frs fr f
idle_as p fr after frs f this method =
    ap (λ (b : Bool). is_held f.mode && not (constructs (method_at p after.method)) && not (reopens (method_at p after.method)) && is_of_heavy_class p (method_at p after.method) && not b) (settled_as p fr after frs this method)
    ∙ ap (λ (m : MethodId). is_held f.mode && not (constructs (method_at p m)) && not (reopens (method_at p m)) && is_of_heavy_class p (method_at p m) && not (is_settled p fr frs)) method

-- `this` of the frame was finished, of a class with an obligation and linked to none, where it is
pub this_was : (p : Program) (h k : HeapContents) (fr : Frame) → KeepsRootsOf p h k fr → HoldsThere p h fr → KeepsReady p h k fr → Carries h k → ThisWas p h k fr
this_was p h k fr roots inside ready carries w y this at heavy single =
    let number = inside places.This tt w (ap number_of this) in
    let x = carries w y at number.1 in
    let root' : root_of h fr.locals.this ≡ Some w = sym (roots places.This tt) ∙ ap (root_of k) this ∙ ap Some (roots_of_links-itself k w y at single) in
    let done = ready places.This w x.0 y tt root' x.1 at (ap (is_heavy_class p) (sym x.2) ∙ heavy.1) heavy.0 in
    let goes = x.3 done in
    (x.0, x.1, ((done, ap (is_heavy_class p) (sym x.2) ∙ heavy.1), sym goes.0.link ∙ single))

-- what is old is so for the frame as it goes on
pub old_as : (p : Program) (k : HeapContents) (old : ℕ → Bool) (frs : List Frame) (fr after : Frame) → after.locals.this ≡ fr.locals.this → after.method ≡ fr.method → IsOld p k frs fr old → IsOld p k frs after old
old_as p k old frs fr after this method is = record {
  there = is.there;
  ends = is.ends;
  below = is.below;
  contents = λ o x at heavy content leaves.
      is.contents o x at heavy (record {
        holder = content.holder;
        field = content.field;
        runs = sym this ∙ content.runs;
        owns = content.owns;
        method = ap (λ (m : MethodId). constructs (method_at p m)) (sym method) ∙ content.method;
      }) (ap (λ (m : MethodId). leaves_all p (method_at p m)) (sym method) ∙ leaves);
  self = λ w y runs at heavy single settled. is.self w y (sym this ∙ runs) at heavy single (sym (settled_as p fr after frs this method) ∙ settled);
}

-- the frame reads the same facts anew
pub reread_alike : (p : Program) (h k : HeapContents) (fr : Frame) → KeepsGifts p h k fr → (o : ℕ) (x y : Object) → object_at h o ≡ Some x → object_at k o ≡ Some y → is_heavy_class p x.class ≡ true → is_reread p k fr o y.owner ≡ is_reread p h fr o x.owner
reread_alike p h k fr gifts o x y before at heavy = (gifts o).1

module _ (p : Program) (h k : HeapContents) (links : HasEarlierLinks h) (carries : Carries h k) (goes : AllGoOn p h k) where
  waits_on : (old : ℕ → Bool) (frs : List Frame) (fr : Frame) → KeepsRootsOf p h k fr → KeepsSaidPlaces p h k frs fr → HoldsThere p h fr → KeepsReady p h k fr → KeepsGifts p h k fr → KeepsOwners p h k (is_given p h fr) frs fr → IsOld p h frs fr old
      → IsCovered p h (is_given p h fr) (is_reread p h fr) old frs fr → IsCovered p k (is_given p k fr) (is_reread p k fr) old frs fr
  waits_on old frs fr roots same inside ready mine keeps aged covered = given_alike p k (is_given p h fr) (is_given p k fr) (is_reread p k fr) (is_reread p k fr) old frs fr (λ o. (mine o).0) (λ o x at. refl)
      (stays_covered p h k (is_given p h fr) (is_reread p h fr) (is_reread p k fr) old frs fr roots same
      (λ q o y small root at. carries o y at (numbered h links (place_value p h fr.method fr.locals q) o root (inside q small)).1) ready keeps aged (reread_alike p h k fr mine) covered)

  -- frames that wait stay covered
  pub all_wait_said : (above : ℕ → Bool) (frs : List Frame) → AllKeepRoots p h k frs → AllKeepSaid p h k frs → AllThere p h frs → AllReady p h k frs → AllKeepGifts p h k frs → AllKeepOwners p h k frs → AreWaiting p h above frs
      → AreWaiting p k above frs
  all_wait_said above [] roots same inside ready gifts keeps covered = tt
  all_wait_said above (fr ∷ frs) roots same inside ready gifts keeps (old, up, is, covered, rest) = (
    old,
    up,
    old_kept p h k old frs fr keeps.0.others goes is (this_was p h k fr roots.0 inside.0 ready.0 carries),
    waits_on old frs fr roots.0 same.0 inside.0 ready.0 gifts.0 keeps.0 is covered,
    all_wait_said old frs roots.1 same.1 inside.1 ready.1 gifts.1 keeps.1 rest,
  )

  pub all_wait_on : (above : ℕ → Bool) (frs : List Frame) → AllKeepRoots p h k frs → AllKeep p h k frs → AllThere p h frs → AllReady p h k frs → AllKeepGifts p h k frs → AllKeepOwners p h k frs → AreWaiting p h above frs
      → AreWaiting p k above frs
  all_wait_on above frs roots same = all_wait_said above frs roots (all_keep_said p h k frs same)

module _ (p : Program) (h k : HeapContents) (links : HasEarlierLinks h) (roots : KeepsRoots h k) (carries : Carries h k) (goes : AllGoOn p h k) where
  -- where all roots stay
  pub all_wait : (above : ℕ → Bool) (frs : List Frame) → AllKeep p h k frs → AllThere p h frs → AllReady p h k frs → AllKeepGifts p h k frs → AllKeepOwners p h k frs → AreWaiting p h above frs → AreWaiting p k above frs
  all_wait above frs same inside = all_wait_on p h k links carries goes above frs (all_keep_roots p h k roots frs inside) same inside

-- all frames keep their places where owning fields hold what they held
pub all_keep_but_texts : (p : Program) (h k : HeapContents) → KeepsFieldsButTexts p h k → (frs : List Frame) → AllKeep p h k frs
all_keep_but_texts p h k fields [] = tt
all_keep_but_texts p h k fields (fr ∷ frs) = ((λ q small. kept_place p h k fields fr.method fr.locals q), all_keep_but_texts p h k fields frs)

pub all_keep : (p : Program) (h k : HeapContents) → KeepsFields p h k → (frs : List Frame) → AllKeep p h k frs
all_keep p h k fields frs = all_keep_but_texts p h k (but_texts p h k fields) frs

-- ---- lent facts

-- a fact that goes on in its mode, where it says that the object is owned, does not say that the frame owns it where it did not
pub stays_unowned : (p : Program) (o : Origin) (f g : Fact) → ((is_own g.mode || is_held g.mode) ≡ true → g.mode ≡ f.mode) → is_owning_fact p o f ≡ false → is_owning_fact p o g ≡ false
stays_unowned p o f g same none = go (is_owning_fact p o g) refl
  where
    go : (b : Bool) → is_owning_fact p o g ≡ b → is_owning_fact p o g ≡ false
    go true is =
        let parts = and_parts (is_heavy_class p o.class) (is_own g.mode) is in
        absurd (true≢false (sym (and_from (is_heavy_class p o.class) (is_own f.mode) parts.0 (ap is_own (sym (same (or_left (is_own g.mode) (is_held g.mode) parts.1))) ∙ parts.1)) ∙ none))
    go false is = is

-- ---- objects that no place of a frame holds

-- what a place of the frame holds it held before
abbrev pub HeldBefore : Program → HeapContents → HeapContents → Frame → Type 0
HeldBefore p h k fr = (q : Place) (w : ℕ) (y : Object) → IsSmall q → root_of k (place_value p k fr.method fr.locals q) ≡ Some w → object_at k w ≡ Some y → is_heavy_class p y.class ≡ true → y.finished ≡ false
    → root_of h (place_value p h fr.method fr.locals q) ≡ Some w

abbrev pub AllHeldBefore : Program → HeapContents → HeapContents → List Frame → Type 0
AllHeldBefore p h k [] = Unit {0}
AllHeldBefore p h k (fr ∷ frs) = HeldBefore p h k fr × AllHeldBefore p h k frs

pub all_held_before_on : (p : Program) (h k : HeapContents) → (frs : List Frame) → AllKeepRoots p h k frs → AllKeep p h k frs → AllHeldBefore p h k frs
all_held_before_on p h k [] roots same = tt
all_held_before_on p h k (fr ∷ frs) roots same = ((λ q w y small is now heavy open'. sym (roots.0 q small) ∙ ap (root_of k) (sym (kept_root p h k _ _ w (same.0 q small) is)) ∙ is), all_held_before_on p h k frs roots.1 same.1)

pub all_held_before : (p : Program) (h k : HeapContents) → KeepsRoots h k → (frs : List Frame) → AllKeep p h k frs → AllThere p h frs → AllHeldBefore p h k frs
all_held_before p h k roots frs same inside = all_held_before_on p h k frs (all_keep_roots p h k roots frs inside) same

pub held_before_further : (p : Program) (h k j : HeapContents) → ((w : ℕ) (y : Object) → object_at j w ≡ Some y → (x : Object) × (object_at k w ≡ Some x) × (y.class ≡ x.class) × (y.finished ≡ x.finished)) → (frs : List Frame) → AllHeldBefore p h k frs → AllHeldBefore p k j frs → AllHeldBefore p h j frs
held_before_further p h k j was [] first then' = tt
held_before_further p h k j was (fr ∷ frs) first then' = (
  (λ q w y small is now heavy open'. (let x = was w y now in first.0 q w x.0 small (then'.0 q w y small is now heavy open') x.1 (ap (is_heavy_class p) (sym x.2) ∙ heavy) (sym x.3 ∙ open'))),
  held_before_further p h k j was frs first.1 then'.1,
)

pub none_held_on : (p : Program) (h k : HeapContents) (w : ℕ) (y : Object) → object_at k w ≡ Some y → is_heavy_class p y.class ≡ true → y.finished ≡ false → (frs : List Frame) → AllHeldBefore p h k frs → HoldNone p h w frs → HoldNone p k w frs
none_held_on p h k w y now heavy open' [] before none = tt
none_held_on p h k w y now heavy open' (fr ∷ frs) before none = ((λ q small is. none.0 q small (before.0 q w y small is now heavy open')), none_held_on p h k w y now heavy open' frs before.1 none.1)

-- what is there is not the next object
pub next_not_held : (p : Program) (h : HeapContents) → HasEarlierLinks h → (frs : List Frame) → AllThere p h frs → HoldNone p h (next_number h) frs
next_not_held p h links [] inside = tt
next_not_held p h links (fr ∷ frs) inside = (
  (λ q small is. (let range = numbered h links (place_value p h fr.method fr.locals q) (next_number h) is (inside.0 q small) in let below = range.1 in omega (arith, below))),
  next_not_held p h links frs inside.1,
)

-- no frame holds what was finished since
pub frames_ready_but : (p : Program) (h k : HeapContents) (apart : ℕ → Type 0) → KeepsUnfinished h k apart → (frs : List Frame) → ((w : ℕ) (x : Object) → object_at h w ≡ Some x → is_heavy_class p x.class ≡ true → apart w → HoldNone p h w frs) → AllReady p h k frs
frames_ready_but p h k apart keeps [] others = tt
frames_ready_but p h k apart keeps (fr ∷ frs) others =
    (ready_but p h k apart keeps fr (λ q o x small root before heavy is. (others o x before heavy is).0 q small root), frames_ready_but p h k apart keeps frs (λ w x before heavy is. (others w x before heavy is).1))

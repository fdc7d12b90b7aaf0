-- Who owns objects as a step goes, and what the frames were given.
use Rattle.std.specs.Prelude.{nat_lt}
use Rattle.std.proofs.Common.{◌≡◌, ◌⊎◌, eq-eqb, ℕ, ◌+◌, ◌<◌, ◌≤◌, Bool, true, false, not, ◌&&◌, Option, Some, None, List, [], ◌∷◌, length, lt-ltb, ltb-true, refl, sym, ap, ◌∙◌, subst, inl, inr, true≢false, arith}
use Rattle.std.proofs.lemmas.Bool.{and_parts, not-true}
use Rattle.std.proofs.lemmas.Bool.Decides.{nat_tests}
use Rattle.program_model.specs.declared.kinds.ClassId.{ClassId}
use Rattle.program_model.specs.declared.kinds.FieldId.{FieldId}
use Rattle.program_model.specs.declared.program.Method.{Method}
use Rattle.program_model.specs.declared.program.Program.{Program}
use Rattle.program_model.specs.Lookups.{method_at}
use Rattle.ledger_obligations.specs.Bodies.{constructs, reset_in}
use Rattle.ledger_obligations.specs.MustCallSets.{is_heavy_class}
use Rattle.ownership_rules.specs.Signatures.{is_present}
use Rattle.java_control.specs.PlaceNumbers.{IsSmall}
use Rattle.control_actions.specs.declared.fact.Fact.{Fact}
use Rattle.control_actions.specs.declared.place.Place.{Place}
use Rattle.ledger_state.specs.Contents.{HeapContents}
use Rattle.ledger_state.specs.Heaps.{object_at, root_of}
use Rattle.ledger_state.specs.declared.entry.Owner.{Owner}
use Rattle.ledger_state.specs.declared.entry.Owner.TheVariants as owners
use Rattle.ledger_state.specs.declared.object.Object.{Object}
use Rattle.ledger_state.specs.declared.value.Value.{Value}
use Rattle.ledger_state.specs.declared.value.Value.TheVariants as values
use Rattle.ledger_obligations.specs.Obligations.{finished_in, is_held_by}
use Rattle.value_laws.specs.Places.{place_value}
use Rattle.value_laws.specs.Configuration.{Frame}
use Rattle.value_laws.specs.FieldContents.{RunOnOthers}
use Rattle.value_laws.specs.Chains.{HaveEnds}
use Rattle.value_laws.specs.HeapAnew.{is_field_owner}
use Rattle.value_laws.specs.Holders.{HoldersAreUnlinked}
use Rattle.value_laws.specs.PlaceFacts.{EndsBelow, IsAnswered, IsApart, IsHeavyObject, IsHolder, IsOld, IsOwnedBelow, IsSpared, MayStore, RunsOn, is_field_place, is_frame_below, is_frame_from, is_given, is_given_up, is_idle, leaves_all, takes_nothing}
use Rattle.value_laws.specs.Renewing.{HasOwningField, IsLentFrom, IsMadeBy, IsOwnedByThis, IsWhole, IsWholeObject, answers_for_fields, is_renewed, lends_this}
use Rattle.value_laws.proofs.RootLaws.{one_object}
use Rattle.value_laws.proofs.WaysOverSteps.{KeepsWays, answered_before, below_before, comparable_below, ends_below_still}

-- ---- the owner of an object, before a step and after it

-- The object is not finished in this heap, and none of these frames runs on it.
abbrev pub IsNewTo : HeapContents → List Frame → ℕ → Type 0
IsNewTo h frs w = RunOnOthers w frs × ((z : Object) → object_at h w ≡ Some z → z.finished ≡ false)

-- The owner stays. Or it was a frame at position `j` or above, and where a field owns the object then, it is one of object `into`. Or it was a field,
-- and then neither a frame nor a field owns the object; the field's object is not finished, and none of the frames `below` runs on it.
pub data OwnerGoes (h : HeapContents) (into : Option ℕ) (below : List Frame) (j : ℕ) (a b : Owner) : Type 0 where
  stays : b ≡ a → OwnerGoes h into below j a b
  passed : is_frame_from j a ≡ true → ((w : ℕ) → is_held_by b w ≡ true → into ≡ Some w) → ((n : ℕ) → b ≡ owners.Frame n → j ≤ n) → OwnerGoes h into below j a b
  left : is_field_owner a ≡ true → is_frame_from 0 b ≡ false → ((w : ℕ) → is_held_by b w ≡ false) → ((w : ℕ) → is_held_by a w ≡ true → IsNewTo h below w) → OwnerGoes h into below j a b

-- so do the owners of all finished objects whose class has an obligation
abbrev pub OwnersGo : Program → Option ℕ → List Frame → ℕ → HeapContents → HeapContents → Type 0
OwnersGo p into below j h k = (o : ℕ) (x y : Object) → object_at h o ≡ Some x → object_at k o ≡ Some y → x.finished ≡ true → is_heavy_class p x.class ≡ true → OwnerGoes h into below j x.owner y.owner

-- what was finished is so
abbrev pub KeepsFinished : HeapContents → HeapContents → Type 0
KeepsFinished h k = (w : ℕ) → finished_in (object_at h w) ≡ true → finished_in (object_at k w) ≡ true

pub keeps_finished : (h k : HeapContents) → ((n : ℕ) (x : Object) → object_at h n ≡ Some x → x.finished ≡ true → (y : Object) × (object_at k n ≡ Some y) × (y.finished ≡ true)) → KeepsFinished h k
keeps_finished h k goes n done = by (object_at h n) refl done
  where
    by : (z : Option Object) → object_at h n ≡ z → finished_in z ≡ true → finished_in (object_at k n) ≡ true
    by None none never = absurd (true≢false (sym never))
    by (Some x) some is = (let y = goes n x some is in ap finished_in y.1 ∙ y.2)

-- so is what has owning fields
pub whole_still : (p : Program) (x y : Object) → y.class ≡ x.class → (x.finished ≡ true → y.finished ≡ true) → IsWhole p x → IsWhole p y
whole_still p x y class goes (inl done) = inl (goes done)
whole_still p x y class goes (inr fields) = inr (subst (HasOwningField p) (sym class) fields)

-- ---- what fields own

-- what a field of an object, but for one that was not finished, owns after a step, a field of it owned before, or its methods may store into it
abbrev pub HoldersWere : Program → HeapContents → HeapContents → Type 0
HoldersWere p h k = (w : ℕ) → ((z : Object) → object_at h w ≡ Some z → z.finished ≡ true) → IsHolder p k w → IsHolder p h w ⊎ ((z : Object) → object_at h w ≡ Some z → MayStore p z.class)

-- what a field of an object owns it owned
abbrev pub HoldersStay : Program → HeapContents → HeapContents → Type 0
HoldersStay p h k = (w : ℕ) → IsHolder p k w → IsHolder p h w

-- objects that are of the class that they were, finished if they were, and owned as they were
pub holders_stay : (p : Program) (h k : HeapContents) → ((o : ℕ) (y : Object) → object_at k o ≡ Some y → (x : Object) × (object_at h o ≡ Some x) × (y.class ≡ x.class) × (y.finished ≡ x.finished) × (y.owner ≡ x.owner)) → HoldersStay p h k
holders_stay p h k was w (c, y, now, done, heavy, held) =
    let x = was c y now in (c, x.0, x.1, sym x.3 ∙ done, ap (is_heavy_class p) (sym x.2) ∙ heavy, ap (λ (a : Owner). is_held_by a w) (sym x.4) ∙ held)

-- What else a step makes of objects: the ways up from owned ones end, and those of objects with obligations lead through unlinked ones that have some; objects stay, of the class and linked as they were,
-- and finished if they were. One that is not finished stays so, and nobody owns it; or none of the frames `below` runs on it, and neither a field owns it nor a frame below position `j`, as with what is made.
-- Object `into` is not finished.
pub record WaysGo (p : Program) (into : Option ℕ) (below : List Frame) (j : ℕ) (h k : HeapContents) : Type 0 where
  pub have : HaveEnds h
  pub unlinked : HoldersAreUnlinked (is_heavy_class p) h
  pub objects : (o : ℕ) (x : Object) → object_at h o ≡ Some x → (y : Object) × (object_at k o ≡ Some y) × (y.class ≡ x.class) × (x.finished ≡ true → (y.finished ≡ true) × (y.link ≡ x.link))
  pub unmade : (o : ℕ) (x y : Object) → object_at h o ≡ Some x → object_at k o ≡ Some y → x.finished ≡ false → ((y.finished ≡ false) × (y.owner ≡ owners.Unowned)) ⊎ (RunOnOthers o below × (is_field_owner y.owner ≡ false) × ((n : ℕ) → n ≤ j → is_frame_below n y.owner ≡ false))
  pub fresh : (o : ℕ) (y : Object) → object_at h o ≡ None → object_at k o ≡ Some y → (is_field_owner y.owner ≡ false) × ((n : ℕ) → n ≤ j → is_frame_below n y.owner ≡ false)
  pub unready : (w : ℕ) → into ≡ Some w → (z : Object) × (object_at h w ≡ Some z) × (z.finished ≡ false)

-- ---- what frames own

-- What is not owned by the frame above these or one above it does not come to be, nor does what no frame owns, nor does a field of `this`, in a frame
-- that leaves all as it is, come to own anything; what is lent to the frame keeps its owner, and is lent; what ends below this frame does so still, what is
-- owned below was so, and what was made or finished by the step no field owns, nor a frame below; what is spared, and was not given up, was so; and what fields own is as said above.
pub record StaysApart (p : Program) (h k : HeapContents) (frs : List Frame) (fr : Frame) : Type 0 where
  pub apart : (o : ℕ) (x y : Object) → object_at h o ≡ Some x → object_at k o ≡ Some y → x.finished ≡ true → is_heavy_class p x.class ≡ true → is_frame_from (length frs + 1) x.owner ≡ false → is_frame_from (length frs + 1) y.owner ≡ false
  pub free : (o : ℕ) (x y : Object) → object_at h o ≡ Some x → object_at k o ≡ Some y → x.finished ≡ true → is_heavy_class p x.class ≡ true → is_frame_from 0 x.owner ≡ false → is_frame_from 0 y.owner ≡ false
  pub content : (o : ℕ) (x y : Object) (w : ℕ) (f : FieldId) → object_at h o ≡ Some x → object_at k o ≡ Some y → x.finished ≡ true → is_heavy_class p x.class ≡ true → leaves_all p (method_at p fr.method) ≡ true
      → fr.locals.this ≡ values.Object w → y.owner ≡ owners.Field w f → x.owner ≡ owners.Field w f
  pub keeps : (o : ℕ) (x y : Object) → object_at h o ≡ Some x → object_at k o ≡ Some y → IsWholeObject p x → IsLentFrom p h frs o x.owner → (y.owner ≡ x.owner) × IsLentFrom p k frs o y.owner
  pub ends : (o : ℕ) (x : Object) → object_at h o ≡ Some x → is_heavy_class p x.class ≡ true → EndsBelow h frs o → EndsBelow k frs o
  pub below : (o : ℕ) (x y : Object) → object_at h o ≡ Some x → object_at k o ≡ Some y → IsHeavyObject p x → IsOwnedBelow p frs y.owner → IsOwnedBelow p frs x.owner
  pub late : (o : ℕ) (y : Object) → object_at k o ≡ Some y → ((x : Object) → object_at h o ≡ Some x → x.finished ≡ true → ⊥) → (is_field_owner y.owner ≡ false) × (is_frame_below (length frs + 1) y.owner ≡ false)
  pub spared : (o : ℕ) (x : Object) → object_at h o ≡ Some x → IsHeavyObject p x → EndsBelow h frs o → IsAnswered k o → IsSpared p k frs o → IsSpared p h frs o
  pub answered : (o : ℕ) (x : Object) → object_at h o ≡ Some x → is_heavy_class p x.class ≡ true → IsAnswered k o → IsAnswered h o
  pub holders : HoldersWere p h k

-- what an owning field of `this` owns it goes on owning, where the frame answers for it, and does not lend `this`
abbrev pub KeepsHeld : Program → HeapContents → HeapContents → Frame → Type 0
KeepsHeld p h k fr = (o : ℕ) (x y : Object) → object_at h o ≡ Some x → object_at k o ≡ Some y → x.finished ≡ true → is_heavy_class p x.class ≡ true → answers_for_fields (method_at p fr.method) ≡ true → lends_this p fr ≡ false → IsOwnedByThis p fr x.owner
    → y.owner ≡ x.owner

-- what the frame at this position owns, and a variable, a temp or `this` of it holds, it goes on owning, where it is not given away
abbrev pub KeepsOwn : Program → HeapContents → HeapContents → (ℕ → ClassId → Bool) → ℕ → Frame → Type 0
KeepsOwn p h k gives i fr = (q : Place) (o : ℕ) (x y : Object) → IsSmall q → is_field_place q ≡ false → root_of h (place_value p h fr.method fr.locals q) ≡ Some o → object_at h o ≡ Some x → object_at k o ≡ Some y
    → x.finished ≡ true → is_heavy_class p x.class ≡ true → gives o x.class ≡ false → x.owner ≡ owners.Frame i → y.owner ≡ owners.Frame i

pub record KeepsOwners (p : Program) (h k : HeapContents) (gives : ℕ → ClassId → Bool) (frs : List Frame) (fr : Frame) : Type 0 where
  pub own : KeepsOwn p h k gives (length frs + 1) fr
  pub others : StaysApart p h k frs fr
  pub held : KeepsHeld p h k fr

abbrev pub AllKeepOwners : Program → HeapContents → HeapContents → List Frame → Type 0
AllKeepOwners p h k [] = Unit {0}
AllKeepOwners p h k (fr ∷ frs) = KeepsOwners p h k (is_given p h fr) frs fr × AllKeepOwners p h k frs

-- ---- positions of frames

-- a field of the object owns it
pub held_at : (a : Owner) (w : ℕ) (f : FieldId) → a ≡ owners.Field w f → is_held_by a w ≡ true
held_at a w f is = ap (λ (b : Owner). is_held_by b w) is ∙ eq-eqb w w refl

frame_from : (j i : ℕ) → is_frame_from j (owners.Frame i) ≡ true → j ≤ i
frame_from j i is = go (nat_lt i j) refl is
  where
    go : (b : Bool) → nat_lt i j ≡ b → not b ≡ true → j ≤ i
    go true e one = absurd (true≢false (sym one))
    go false e one = grind (arith, nat_tests, e)

pub from_frame : (j i : ℕ) → j ≤ i → is_frame_from j (owners.Frame i) ≡ true
from_frame j i above = go (nat_lt i j) refl
  where
    go : (b : Bool) → nat_lt i j ≡ b → not b ≡ true
    go true e = absurd (grind (arith, nat_tests, e, above))
    go false e = refl

-- what is given up no frame owns, nor a field
given_up_free : (j : ℕ) (a : Owner) → is_given_up a ≡ true → is_frame_from j a ≡ false
given_up_free j owners.Released is = refl
given_up_free j owners.Lost is = refl
given_up_free j (owners.Frame i) is = absurd (true≢false (sym is))
given_up_free j (owners.Field w f) is = absurd (true≢false (sym is))
given_up_free j owners.Library is = absurd (true≢false (sym is))
given_up_free j owners.Unowned is = absurd (true≢false (sym is))

given_up_unheld : (a : Owner) → is_given_up a ≡ true → is_field_owner a ≡ false
given_up_unheld owners.Released is = refl
given_up_unheld owners.Lost is = refl
given_up_unheld (owners.Frame i) is = absurd (true≢false (sym is))
given_up_unheld (owners.Field w f) is = absurd (true≢false (sym is))
given_up_unheld owners.Library is = absurd (true≢false (sym is))
given_up_unheld owners.Unowned is = absurd (true≢false (sym is))

-- a method that leaves all as it is is no constructor
leaves_no_constructor : (p : Program) (m : Option Method) → leaves_all p m ≡ true → constructs m ≡ false
leaves_no_constructor p m leaves = not-true (constructs m) (and_parts (not (constructs m)) (takes_nothing p m) (and_parts (not (constructs m) && takes_nothing p m) (not (is_present (reset_in m))) leaves).0).0

-- what a frame from a position on owns, one from a lower position on does
pub frame_from_lower : (i j : ℕ) (a : Owner) → i ≤ j → is_frame_from j a ≡ true → is_frame_from i a ≡ true
frame_from_lower i j (owners.Frame n) below is = let above = frame_from j n is in from_frame i n (omega (arith, above, below))
frame_from_lower i j (owners.Field w f) below is = absurd (true≢false (sym is))
frame_from_lower i j owners.Library below is = absurd (true≢false (sym is))
frame_from_lower i j owners.Released below is = absurd (true≢false (sym is))
frame_from_lower i j owners.Lost below is = absurd (true≢false (sym is))
frame_from_lower i j owners.Unowned below is = absurd (true≢false (sym is))

pub no_frame_from : (i j : ℕ) (a : Owner) → i ≤ j → is_frame_from i a ≡ false → is_frame_from j a ≡ false
no_frame_from i j a below none = go (is_frame_from j a) refl
  where
    go : (b : Bool) → is_frame_from j a ≡ b → is_frame_from j a ≡ false
    go true is = absurd (true≢false (sym (frame_from_lower i j a below is) ∙ none))
    go false is = is

-- what a frame owns is not owned by one above
pub owned_below : (i j : ℕ) (a : Owner) → a ≡ owners.Frame i → i < j → is_frame_from j a ≡ true → ⊥
owned_below i j a own below is = let above = frame_from j i (ap (is_frame_from j) (sym own) ∙ is) in omega (arith, above, below)

-- a frame below a position
frame_below : (i : ℕ) (a : Owner) → is_frame_below i a ≡ true → (n : ℕ) × (a ≡ owners.Frame n) × (n < i)
frame_below i (owners.Frame n) is = (n, refl, ltb-true n i is)
frame_below i (owners.Field w f) is = absurd (true≢false (sym is))
frame_below i owners.Library is = absurd (true≢false (sym is))
frame_below i owners.Released is = absurd (true≢false (sym is))
frame_below i owners.Lost is = absurd (true≢false (sym is))
frame_below i owners.Unowned is = absurd (true≢false (sym is))

-- a field of an object on which one of these frames runs owns what has this owner
pub record IsHeldAmong (frs : List Frame) (owner : Owner) : Type 0 where
  pub holder : ℕ
  pub held : is_held_by owner holder ≡ true
  pub runs : RunsOn holder frs

-- one of these frames makes the object
abbrev pub IsMadeAmong : Program → List Frame → ℕ → Type 0
IsMadeAmong p [] o = ⊥
IsMadeAmong p (fr ∷ frs) o = IsMadeBy p fr o ⊎ IsMadeAmong p frs o

made_runs : (p : Program) (frs : List Frame) (o : ℕ) → IsMadeAmong p frs o → RunsOn o frs
made_runs p [] o made = made
made_runs p (fr ∷ frs) o (inl made) = inl made.runs
made_runs p (fr ∷ frs) o (inr made) = inr (made_runs p frs o made)

-- what is lent is owned by a frame below, or by such a field, or one of the frames makes it, and nobody owns it
pub lent_owner : (p : Program) (h : HeapContents) (frs : List Frame) (o : ℕ) (owner : Owner) → IsLentFrom p h frs o owner
    → (is_frame_below (length frs + 1) owner ≡ true) ⊎ (IsHeldAmong frs owner ⊎ (IsMadeAmong p frs o × (owner ≡ owners.Unowned)))
lent_owner p h [] o owner is = absurd is
lent_owner p h (fr ∷ frs) o owner (renews, inl own) = inl (as_next frs fr owner (ap (is_frame_below (length frs + 1 + 1)) own ∙ lt-ltb (length frs + 1) (length frs + 1 + 1) (omega arith)))
  where
    as_next : (frs : List Frame) (fr : Frame) (owner : Owner) → is_frame_below (length frs + 1 + 1) owner ≡ true → is_frame_below (length (fr ∷ frs) + 1) owner ≡ true
    as_next frs fr owner is' = ap (λ (n : ℕ). is_frame_below n owner) (let number : length (fr ∷ frs) + 1 ≡ length frs + 1 + 1 = omega arith in number) ∙ is'
lent_owner p h (fr ∷ frs) o owner (renews, inr (inl on)) = go (lent_owner p h frs o owner on)
  where
    higher : (n : ℕ) (a : Owner) → is_frame_below n a ≡ true → is_frame_below (n + 1) a ≡ true
    higher n a low = (let low' = frame_below n a low in ap (is_frame_below (n + 1)) low'.1 ∙ lt-ltb low'.0 (n + 1) (let less = low'.2 in omega (arith, less)))

    go : (is_frame_below (length frs + 1) owner ≡ true) ⊎ (IsHeldAmong frs owner ⊎ (IsMadeAmong p frs o × (owner ≡ owners.Unowned)))
        → (is_frame_below (length (fr ∷ frs) + 1) owner ≡ true) ⊎ (IsHeldAmong (fr ∷ frs) owner ⊎ (IsMadeAmong p (fr ∷ frs) o × (owner ≡ owners.Unowned)))
    go (inl low) = inl (ap (λ (n : ℕ). is_frame_below n owner) (let number : length (fr ∷ frs) + 1 ≡ length frs + 1 + 1 = omega arith in number) ∙ higher (length frs + 1) owner low)
    go (inr (inl held)) = inr (inl (record { holder = held.holder; held = held.held; runs = inr held.runs }))
    go (inr (inr made)) = inr (inr (inr made.0, made.1))
lent_owner p h (fr ∷ frs) o owner (renews, inr (inr (inl held))) = inr (inl (record { holder = held.1.holder; held = held_at owner held.1.holder held.1.field held.1.owns; runs = inl held.1.runs }))
lent_owner p h (fr ∷ frs) o owner (renews, inr (inr (inr (inl held)))) = inr (inl (record { holder = held.holder; held = held_at owner held.holder held.field held.owns; runs = inl held.runs }))
lent_owner p h (fr ∷ frs) o owner (renews, inr (inr (inr (inr made)))) = inr (inr (inl made.0, made.1))

-- a frame owns it no more than a field does
pub held_no_frame : (i : ℕ) (owner : Owner) (w : ℕ) → is_held_by owner w ≡ true → is_frame_from i owner ≡ false
held_no_frame i (owners.Field v f) w held = refl
held_no_frame i (owners.Frame n) w held = absurd (true≢false (sym held))
held_no_frame i owners.Library w held = refl
held_no_frame i owners.Released w held = refl
held_no_frame i owners.Lost w held = refl
held_no_frame i owners.Unowned w held = refl

-- so no frame from here on owns what is lent
pub lent_not_from : (p : Program) (h : HeapContents) (frs : List Frame) (o : ℕ) (owner : Owner) → IsLentFrom p h frs o owner → is_frame_from (length frs + 1) owner ≡ false
lent_not_from p h frs o owner lent = elim (lent_owner p h frs o owner lent) [
  | inl low ↦ (let it = frame_below (length frs + 1) owner low in no_frame_at (length frs + 1) owner it.0 it.1 it.2)
  | inr (inl held) ↦ held_no_frame (length frs + 1) owner held.holder held.held
  | inr (inr made) ↦ ap (is_frame_from (length frs + 1)) made.1
]
  where
    no_frame_at : (i : ℕ) (a : Owner) (n : ℕ) → a ≡ owners.Frame n → n < i → is_frame_from i a ≡ false
    no_frame_at i a n same less = ap (is_frame_from i) same ∙ ap not (lt-ltb n i less)

-- none of the frames that run on no such object runs on it
pub runs_on_none : (w : ℕ) (frs : List Frame) → RunOnOthers w frs → RunsOn w frs → ⊥
runs_on_none w [] others is = is
runs_on_none w (fr ∷ frs) others (inl here) = others.0 here
runs_on_none w (fr ∷ frs) others (inr on) = runs_on_none w frs others.1 on

-- ---- what frames were given, and which obligations the calls that began them create anew

-- the call at which the frame waits gives away what it gave, and it creates those obligations anew that it did
abbrev pub KeepsGifts : Program → HeapContents → HeapContents → Frame → Type 0
KeepsGifts p h k fr = (o : ℕ) → ((c : ClassId) → is_given p k fr o c ≡ is_given p h fr o c) × (is_renewed p k fr o ≡ is_renewed p h fr o)

abbrev pub AllKeepGifts : Program → HeapContents → HeapContents → List Frame → Type 0
AllKeepGifts p h k [] = Unit {0}
AllKeepGifts p h k (fr ∷ frs) = KeepsGifts p h k fr × AllKeepGifts p h k frs

-- ---- the frames below the position from which owners change

-- no frame of these runs on that object
abbrev pub RunsNoneOn : Option ℕ → List Frame → Type 0
RunsNoneOn None frs = Unit {0}
RunsNoneOn (Some w) frs = RunOnOthers w frs

abbrev pub IsNotInto : Option ℕ → Value → Type 0
IsNotInto into v = (w : ℕ) → into ≡ Some w → v ≡ values.Object w → ⊥

none_on : (into : Option ℕ) (fr : Frame) (frs : List Frame) → RunsNoneOn into (fr ∷ frs) → IsNotInto into fr.locals.this × RunsNoneOn into frs
none_on None fr frs others = ((λ w is this. (let never : None ≡ Some w = is in cc)), tt)
none_on (Some u) fr frs others = ((λ w is this. others.0 (this ∙ ap values.Object (let both : Some u ≡ Some w = is in (let one : w ≡ u = cc in one)))), others.1)

module _ (p : Program) (into : Option ℕ) (leaving : List Frame) (j : ℕ) (h k : HeapContents) (ways : WaysGo p into leaving j h k) (go_on : OwnersGo p into leaving j h k) where
  -- what a field owns, but one of an object that was not finished, it owned
  holder_before : (w : ℕ) → ((z : Object) → object_at h w ≡ Some z → z.finished ≡ true) → IsHolder p k w → IsHolder p h w
  holder_before w ready (c, y, now, done, heavy, held) = go (object_at h c) refl
    where
      unheld : is_field_owner y.owner ≡ false → ⊥
      unheld none = true≢false (sym (held_field y.owner held) ∙ none)
        where
          held_field : (a : Owner) → is_held_by a w ≡ true → is_field_owner a ≡ true
          held_field (owners.Field v f) is = refl
          held_field (owners.Frame n) is = absurd (true≢false (sym is))
          held_field owners.Library is = absurd (true≢false (sym is))
          held_field owners.Released is = absurd (true≢false (sym is))
          held_field owners.Lost is = absurd (true≢false (sym is))
          held_field owners.Unowned is = absurd (true≢false (sym is))

      by : (x : Object) → object_at h c ≡ Some x → x.finished ≡ true → is_heavy_class p x.class ≡ true → OwnerGoes h into leaving j x.owner y.owner → IsHolder p h w
      by x before was heavy' (stays same) = (c, x, before, was, heavy', ap (λ (a : Owner). is_held_by a w) (sym same) ∙ held)
      by x before was heavy' (passed from goes low) = let z = ways.unready w (goes w held) in absurd (true≢false (sym (ready z.0 z.1) ∙ z.2))
      by x before was heavy' (left none then' fields others) = absurd (true≢false (sym held ∙ fields w))

      old_one : (x : Object) → object_at h c ≡ Some x → (b : Bool) → x.finished ≡ b → IsHolder p h w
      old_one x before true was =
          let next = ways.objects c x before in
          let wide : is_heavy_class p x.class ≡ true = ap (is_heavy_class p) (sym next.2 ∙ ap (λ (u : Object). u.class) (one_object next.0 y (object_at k c) next.1 now)) ∙ heavy in
          by x before was wide (go_on c x y before now was wide)
      old_one x before false open' = elim (ways.unmade c x y before now open') [
        | inl still ↦ absurd (true≢false (sym done ∙ still.0))
        | inr away ↦ absurd (unheld away.1)
      ]

      go : (x : Option Object) → object_at h c ≡ x → IsHolder p h w
      go None before = absurd (unheld (ways.fresh c y before now).0)
      go (Some x) before = old_one x before x.finished refl

  pub holders_were : HoldersWere p h k
  holders_were w ready holds = inl (holder_before w ready holds)

  -- what no frame from a position on owns stays so
  apart_by : (i : ℕ) (a b : Owner) → i ≤ j → OwnerGoes h into leaving j a b → is_frame_from i a ≡ false → is_frame_from i b ≡ false
  apart_by i a b below (stays same) none = ap (is_frame_from i) same ∙ none
  apart_by i a b below (passed from goes low) none = absurd (true≢false (sym (frame_from_lower i j a below from) ∙ none))
  apart_by i a b below (left none' then' fields others) none = no_frame_from 0 i b (omega arith) then'

  -- what is lent to frames keeps its owner, where what a field gives up is one of an object on which none of these runs
  owner_kept : (frs : List Frame) → length frs + 1 ≤ j → ((w : ℕ) → RunOnOthers w leaving → RunOnOthers w frs) → (o : ℕ) (x y : Object) → object_at h o ≡ Some x → object_at k o ≡ Some y → is_heavy_class p x.class ≡ true
      → IsLentFrom p h frs o x.owner → y.owner ≡ x.owner
  owner_kept frs below spared o x y before at heavy lent = go x.finished refl (lent_owner p h frs o x.owner lent)
    where
      of_none : (a b : Owner) → OwnerGoes h into leaving j a b → a ≡ owners.Unowned → b ≡ a
      of_none a b (stays same) none = same
      of_none a b (passed from goes low') none = absurd (true≢false (sym from ∙ ap (is_frame_from j) none))
      of_none a b (left field then' fields others) none = absurd (true≢false (sym field ∙ ap is_field_owner none))

      -- nobody owns what is not finished: a frame makes it, so it stays so
      unmade_kept : x.finished ≡ false → IsMadeAmong p frs o → x.owner ≡ owners.Unowned → y.owner ≡ x.owner
      unmade_kept open' made none = elim (ways.unmade o x y before at open') [
        | inl still ↦ still.1 ∙ sym none
        | inr away ↦ absurd (runs_on_none o frs (spared o away.0) (made_runs p frs o made))
      ]

      by : (a b : Owner) → OwnerGoes h into leaving j a b → (n : ℕ) × (a ≡ owners.Frame n) × (n < length frs + 1) → b ≡ a
      by a b (stays same) (n, is, less) = same
      by a b (passed from goes low') (n, is, less) = absurd (owned_below n j a is (omega (arith, below, less)) from)
      by a b (left none then' fields others) (n, is, less) = absurd (true≢false (sym none ∙ ap is_field_owner is))

      of_field : (a b : Owner) → OwnerGoes h into leaving j a b → (w : ℕ) → is_held_by a w ≡ true → RunsOn w frs → b ≡ a
      of_field a b (stays same) w held runs = same
      of_field a b (passed from goes low') w held runs = absurd (true≢false (sym from ∙ held_no_frame j a w held))
      of_field a b (left none then' fields others) w held runs = absurd (runs_on_none w frs (spared w (others w held).0) runs)

      go : (b : Bool) → x.finished ≡ b → (is_frame_below (length frs + 1) x.owner ≡ true) ⊎ (IsHeldAmong frs x.owner ⊎ (IsMadeAmong p frs o × (x.owner ≡ owners.Unowned))) → y.owner ≡ x.owner
      go true done (inl low) = by x.owner y.owner (go_on o x y before at done heavy) (frame_below (length frs + 1) x.owner low)
      go true done (inr (inl held)) = of_field x.owner y.owner (go_on o x y before at done heavy) held.holder held.held held.runs
      go true done (inr (inr made)) = of_none x.owner y.owner (go_on o x y before at done heavy) made.1
      go false open' (inl low) = absurd (true≢false (sym low ∙ ap (is_frame_below (length frs + 1)) (ways.have.unfinished o x before open')))
      go false open' (inr (inl held)) = absurd (true≢false (sym held.held ∙ ap (λ (a : Owner). is_held_by a held.holder) (ways.have.unfinished o x before open')))
      go false open' (inr (inr made)) = unmade_kept open' made.0 made.1

  -- what is lent, and finished then, was so
  finished_still : (frs : List Frame) → ((w : ℕ) → RunOnOthers w leaving → RunOnOthers w frs) → (o : ℕ) (x y : Object) → object_at h o ≡ Some x → object_at k o ≡ Some y → IsLentFrom p h frs o x.owner → y.finished ≡ true → x.finished ≡ true
  finished_still frs spared o x y before at lent done = go x.finished refl (lent_owner p h frs o x.owner lent)
    where
      go : (b : Bool) → x.finished ≡ b → (is_frame_below (length frs + 1) x.owner ≡ true) ⊎ (IsHeldAmong frs x.owner ⊎ (IsMadeAmong p frs o × (x.owner ≡ owners.Unowned))) → x.finished ≡ true
      go true was owner = was
      go false open' (inl low) = absurd (true≢false (sym low ∙ ap (is_frame_below (length frs + 1)) (ways.have.unfinished o x before open')))
      go false open' (inr (inl held)) = absurd (true≢false (sym held.held ∙ ap (λ (a : Owner). is_held_by a held.holder) (ways.have.unfinished o x before open')))
      go false open' (inr (inr made)) = elim (ways.unmade o x y before at open') [
        | inl still ↦ absurd (true≢false (sym done ∙ still.0))
        | inr away ↦ absurd (runs_on_none o frs (spared o away.0) (made_runs p frs o made.0))
      ]

  -- and it is lent still
  lent_still : (frs : List Frame) → length frs + 1 ≤ j → ((w : ℕ) → RunOnOthers w leaving → RunOnOthers w frs) → AllKeepGifts p h k frs → (o : ℕ) (owner : Owner) → IsLentFrom p h frs o owner → IsLentFrom p k frs o owner
  lent_still [] below spared gifts o owner lent = lent
  lent_still (fr ∷ frs) below spared gifts o owner (renews, inl own) = ((gifts.0 o).1 ∙ renews, inl own)
  lent_still (fr ∷ frs) below spared gifts o owner (renews, inr (inl on)) = ((gifts.0 o).1 ∙ renews, inr (inl (lent_still frs (omega (arith, below)) (λ w none. (spared w none).1) gifts.1 o owner on)))
  lent_still (fr ∷ frs) below spared gifts o owner (renews, inr (inr (inl held))) = ((gifts.0 o).1 ∙ renews, inr (inr (inl held)))
  lent_still (fr ∷ frs) below spared gifts o owner (renews, inr (inr (inr (inr made)))) = ((gifts.0 o).1 ∙ renews, inr (inr (inr (inr made))))
  lent_still (fr ∷ frs) below spared gifts o owner (renews, inr (inr (inr (inl held)))) =
      let y = ways.objects held.holder held.object held.at in
      let same = owner_kept frs (omega (arith, below)) (λ w none. (spared w none).1) held.holder held.object y.0 held.at y.1 held.heavy held.lends in (
        (gifts.0 o).1 ∙ renews,
        inr (inr (inr (inl (record {
          holder = held.holder;
          field = held.field;
          owns = held.owns;
          runs = held.runs;
          method = held.method;
          object = y.0;
          at = y.1;
          whole = whole_still p held.object y.0 y.2 (λ done. (y.3 done).0) held.whole;
          unlinked = λ done. (
              let was = finished_still frs (λ w none. (spared w none).1) held.holder held.object y.0 held.at y.1 held.lends done in
              (y.3 was).1 ∙ held.unlinked was);
          heavy = ap (is_heavy_class p) y.2 ∙ held.heavy;
          lends = subst (IsLentFrom p k frs held.holder) (sym same) (lent_still frs (omega (arith, below)) (λ w none. (spared w none).1) gifts.1 held.holder held.object.owner held.lends);
        })))),
      )

  -- the ways up from what ends below a frame at this position or below
  ways_kept : (frs : List Frame) → length frs + 1 ≤ j → RunsNoneOn into frs → ((w : ℕ) → RunOnOthers w leaving → RunOnOthers w frs) → KeepsWays p h k frs (λ w. RunOnOthers w leaving)
  ways_kept frs below nowhere spared = record {
    none = λ w away runs. runs_on_none w frs (spared w away) runs;
    objects = λ o x at. (let y = ways.objects o x at in (y.0, y.1, y.2, λ done. (y.3 done).0));
    kept = λ o x y w f before at heavy owned. by_field' x.owner y.owner w f (go_on o x y before at heavy.0 heavy.1) owned;
    free = λ o x y before at heavy unheld none. (by_free x.owner y.owner (go_on o x y before at heavy.0 heavy.1) unheld none, apart_by (length frs + 1) x.owner y.owner below (go_on o x y before at heavy.0 heavy.1) none);
    low = λ o x y before at heavy low. by_low x.owner y.owner (go_on o x y before at heavy.0 heavy.1) (frame_below (length frs + 1) y.owner low);
    unmade = λ o x y before at open'. elim (ways.unmade o x y before at open') [ inl still ↦ inl still | inr away ↦ inr (away.0, away.1, away.2 (length frs + 1) below) ];
    new = λ o x y w f before at heavy owned. by_new x.owner y.owner w f (go_on o x y before at heavy.0 heavy.1) owned;
    gone = λ o x y before at heavy gone. by_gone x.owner y.owner (go_on o x y before at heavy.0 heavy.1) gone;
  }
    where
      by_gone : (a b : Owner) → OwnerGoes h into leaving j a b → is_given_up a ≡ true → is_given_up b ≡ true
      by_gone a b (stays same) gone = ap is_given_up same ∙ gone
      by_gone a b (passed from goes low) gone = absurd (true≢false (sym from ∙ given_up_free j a gone))
      by_gone a b (left field then' fields others) gone = absurd (true≢false (sym field ∙ given_up_unheld a gone))

      by_field' : (a b : Owner) (w : ℕ) (f : FieldId) → OwnerGoes h into leaving j a b → a ≡ owners.Field w f → (b ≡ owners.Field w f) ⊎ IsNewTo h leaving w
      by_field' a b w f (stays same) owned = inl (same ∙ owned)
      by_field' a b w f (passed from goes low) owned = absurd (true≢false (sym from ∙ ap (is_frame_from j) owned))
      by_field' a b w f (left none then' fields others) owned = inr (others w (held_at a w f owned))

      by_low : (a b : Owner) → OwnerGoes h into leaving j a b → (n : ℕ) × (b ≡ owners.Frame n) × (n < length frs + 1) → is_frame_below (length frs + 1) a ≡ true
      by_low a b (stays same) (n, is, less) = ap (is_frame_below (length frs + 1)) (sym same ∙ is) ∙ lt-ltb n (length frs + 1) less
      by_low a b (passed from goes low') (n, is, less) = absurd (let high = low' n is in omega (arith, below, high, less))
      by_low a b (left none then' fields others) (n, is, less) = absurd (true≢false (sym (ap (is_frame_from 0) is ∙ from_frame 0 n (omega arith)) ∙ then'))

      nobody_on : (i : Option ℕ) (w : ℕ) → i ≡ Some w → RunsNoneOn i frs → RunsOn w frs → ⊥
      nobody_on None w is none runs = let never : None ≡ Some w = is in cc
      nobody_on (Some u) w is none runs = runs_on_none u frs none (subst (λ (n : ℕ). RunsOn n frs) (let both : Some u ≡ Some w = is in (let one : w ≡ u = cc in one)) runs)

      by_new : (a b : Owner) (w : ℕ) (f : FieldId) → OwnerGoes h into leaving j a b → b ≡ owners.Field w f → (a ≡ owners.Field w f) ⊎ (((z : Object) × (object_at h w ≡ Some z) × (z.finished ≡ false)) × (RunsOn w frs → ⊥))
      by_new a b w f (stays same) owned = inl (sym same ∙ owned)
      by_new a b w f (passed from goes low) owned = inr (ways.unready w (goes w (held_at b w f owned)), λ runs. nobody_on into w (goes w (held_at b w f owned)) nowhere runs)
      by_new a b w f (left none then' fields others) owned = absurd (true≢false (sym (held_at b w f owned) ∙ fields w))

      no_field : (b : Owner) → ((w : ℕ) → is_held_by b w ≡ false) → is_field_owner b ≡ false
      no_field (owners.Field w f) none = absurd (true≢false (sym (held_at (owners.Field w f) w f refl) ∙ none w))
      no_field (owners.Frame i) none = refl
      no_field owners.Library none = refl
      no_field owners.Released none = refl
      no_field owners.Lost none = refl
      no_field owners.Unowned none = refl

      by_free : (a b : Owner) → OwnerGoes h into leaving j a b → is_field_owner a ≡ false → is_frame_from (length frs + 1) a ≡ false → is_field_owner b ≡ false
      by_free a b (stays same) unheld none = ap is_field_owner same ∙ unheld
      by_free a b (passed from goes low) unheld none = absurd (true≢false (sym (frame_from_lower (length frs + 1) j a below from) ∙ none))
      by_free a b (left none' then' fields others) unheld none = no_field b fields

  -- what is spared was so
  spared_then : (frs : List Frame) → length frs + 1 ≤ j → RunsNoneOn into frs → ((w : ℕ) → RunOnOthers w leaving → RunOnOthers w frs) → AllKeepGifts p h k frs → (o : ℕ) (x : Object) → object_at h o ≡ Some x → IsHeavyObject p x → EndsBelow h frs o → IsSpared p k frs o → IsSpared p h frs o
  spared_then [] below nowhere others gifts o x at heavy ends spared = tt
  spared_then (fr ∷ frs) below nowhere others gifts o x at heavy ends spared = λ u z there heavy' comes.
      let y = ways.objects u z there in
      let comes' = comparable_below p h k ways.have ways.unlinked (fr ∷ frs) (λ w. RunOnOthers w leaving) (ways_kept (fr ∷ frs) below nowhere others) u o z x there at heavy'.1 heavy ends comes in
      let none = spared u y.0 y.1 (whole_still p z y.0 y.2 (λ done. (y.3 done).0) heavy'.0, ap (is_heavy_class p) y.2 ∙ heavy'.1) comes' in
      sym (gifts.0 u).1 ∙ none

  module _ (frs : List Frame) (fr : Frame) (below : length frs + 1 ≤ j) (gifts : AllKeepGifts p h k frs) where
    apart_here : (n : ℕ) → n ≤ length frs + 1 → (o : ℕ) (x y : Object) → object_at h o ≡ Some x → object_at k o ≡ Some y → x.finished ≡ true → is_heavy_class p x.class ≡ true → is_frame_from n x.owner ≡ false → is_frame_from n y.owner ≡ false
    apart_here n under o x y before at done heavy none = apart_by n x.owner y.owner (omega (arith, below, under)) (go_on o x y before at done heavy) none

    -- what a field of `this` owns stays so
    pub held_here : ((w : ℕ) → RunOnOthers w leaving → fr.locals.this ≡ values.Object w → ⊥) → KeepsHeld p h k fr
    held_here spared o x y before at done heavy answers keeps own = by x.owner y.owner (go_on o x y before at done heavy) own.holder (held_at x.owner own.holder own.field own.owns) own.runs
      where
        by : (a b : Owner) → OwnerGoes h into leaving j a b → (w : ℕ) → is_held_by a w ≡ true → fr.locals.this ≡ values.Object w → b ≡ a
        by a b (stays same) w held runs = same
        by a b (passed from goes low) w held runs = absurd (true≢false (sym from ∙ held_no_frame j a w held))
        by a b (left none then' fields others) w held runs = absurd (spared w (others w held).0 runs)

    module _ (nowhere : RunsNoneOn into frs) (spared : (w : ℕ) → RunOnOthers w leaving → RunOnOthers w frs) where
      keeps_lent : (o : ℕ) (x y : Object) → object_at h o ≡ Some x → object_at k o ≡ Some y → IsWholeObject p x → IsLentFrom p h frs o x.owner → (y.owner ≡ x.owner) × IsLentFrom p k frs o y.owner
      keeps_lent o x y before at whole lent =
          let same = owner_kept frs below spared o x y before at whole.1 lent in
          (same, subst (IsLentFrom p k frs o) (sym same) (lent_still frs below spared gifts o x.owner lent))

      -- what the step made, or finished
      late_here : (o : ℕ) (y : Object) → object_at k o ≡ Some y → ((x : Object) → object_at h o ≡ Some x → x.finished ≡ true → ⊥) → (is_field_owner y.owner ≡ false) × (is_frame_below (length frs + 1) y.owner ≡ false)
      late_here o y at none = go (object_at h o) refl
        where
          old_one : (x : Object) → object_at h o ≡ Some x → (c : Bool) → x.finished ≡ c → (is_field_owner y.owner ≡ false) × (is_frame_below (length frs + 1) y.owner ≡ false)
          old_one x before true done = absurd (none x before done)
          old_one x before false open' = elim (ways.unmade o x y before at open') [
            | inl still ↦ (ap is_field_owner still.1, ap (is_frame_below (length frs + 1)) still.1)
            | inr away ↦ (away.1, away.2 (length frs + 1) below)
          ]

          go : (x : Option Object) → object_at h o ≡ x → (is_field_owner y.owner ≡ false) × (is_frame_below (length frs + 1) y.owner ≡ false)
          go None before = let made = ways.fresh o y before at in (made.0, made.1 (length frs + 1) below)
          go (Some x) before = old_one x before x.finished refl

      apart_as : ((o : ℕ) (x y : Object) (w : ℕ) (f : FieldId) → object_at h o ≡ Some x → object_at k o ≡ Some y → x.finished ≡ true → is_heavy_class p x.class ≡ true → leaves_all p (method_at p fr.method) ≡ true
          → fr.locals.this ≡ values.Object w → y.owner ≡ owners.Field w f → x.owner ≡ owners.Field w f) → StaysApart p h k frs fr
      apart_as content = record {
        apart = apart_here (length frs + 1) (omega arith);
        free = apart_here 0 (omega arith);
        content = content;
        keeps = keeps_lent;
        ends = λ o x at heavy ends'. ends_below_still p h k ways.have ways.unlinked frs (λ w. RunOnOthers w leaving) (ways_kept frs below nowhere spared) o x at heavy ends';
        below = λ o x y before at heavy owned. below_before p h k ways.have ways.unlinked frs (λ w. RunOnOthers w leaving) (ways_kept frs below nowhere spared) o x y before at heavy owned;
        late = λ o y at none. late_here o y at none;
        spared = λ o x at heavy ends' answered is. spared_then frs below nowhere spared gifts o x at heavy ends' is;
        answered = λ o x at heavy answers. answered_before p h k ways.have ways.unlinked frs (λ w. RunOnOthers w leaving) (ways_kept frs below nowhere spared) o x at heavy answers;
        holders = holders_were;
      }

      -- a frame at this position or below
      pub stays_apart : IsNotInto into fr.locals.this → StaysApart p h k frs fr
      stays_apart other = apart_as (λ o x y w f before at done heavy plain this owned. by x.owner y.owner w f (go_on o x y before at done heavy) this owned)
        where
          by : (a b : Owner) (w : ℕ) (f : FieldId) → OwnerGoes h into leaving j a b → fr.locals.this ≡ values.Object w → b ≡ owners.Field w f → a ≡ owners.Field w f
          by a b w f (stays same) this owned = sym same ∙ owned
          by a b w f (passed from goes low) this owned = absurd (other w (goes w (held_at b w f owned)) this)
          by a b w f (left none then' fields others) this owned = absurd (true≢false (sym (held_at b w f owned) ∙ fields w))

      -- so does one that runs a constructor
      pub constructor_apart : constructs (method_at p fr.method) ≡ true → StaysApart p h k frs fr
      constructor_apart makes = apart_as (λ o x y w f before at done heavy leaves this owned. absurd (true≢false (sym makes ∙ leaves_no_constructor p (method_at p fr.method) leaves)))

  -- a frame below it keeps what it owns
  pub keeps_own : (gives : ℕ → ClassId → Bool) (i : ℕ) (fr : Frame) → i < j → KeepsOwn p h k gives i fr
  keeps_own gives i fr below q o x y small part root before at done heavy spared own = by x.owner y.owner (go_on o x y before at done heavy) own
    where
      by : (a b : Owner) → OwnerGoes h into leaving j a b → a ≡ owners.Frame i → b ≡ owners.Frame i
      by a b (stays same) mine = same ∙ mine
      by a b (passed from goes low) mine = absurd (owned_below i j a mine below from)
      by a b (left none then' fields others) mine = absurd (true≢false (sym none ∙ ap is_field_owner mine))

  pub owners_kept : (frs : List Frame) → length frs < j → AllKeepGifts p h k frs → RunsNoneOn into frs → ((w : ℕ) → RunOnOthers w leaving → RunOnOthers w frs) → AllKeepOwners p h k frs
  owners_kept [] below gifts others spared = tt
  owners_kept (fr ∷ frs) below gifts others spared =
      let rest = none_on into fr frs others in (
        record {
          own = keeps_own (is_given p h fr) (length frs + 1) fr (omega (arith, below));
          others = stays_apart frs fr (omega (arith, below)) gifts.1 rest.1 (λ w none. (spared w none).1) rest.0;
          held = held_here frs fr (omega (arith, below)) gifts.1 (λ w none. (spared w none).0);
        },
        owners_kept frs (omega (arith, below)) gifts.1 rest.1 (λ w none. (spared w none).1),
      )

-- ---- what is held apart

-- what is held apart after a step was before it
pub apart_before : (p : Program) (h k : HeapContents) (old : ℕ → Bool) (frs : List Frame) (fr after : Frame) (o : ℕ) (x y : Object) (f g : Fact) → StaysApart p h k frs fr → IsOld p h frs fr old → object_at h o ≡ Some x → object_at k o ≡ Some y
    → x.finished ≡ true → is_heavy_class p x.class ≡ true → is_idle p frs fr f ≡ false → IsApart p k old frs after o g → IsApart p h old frs fr o f
apart_before p h k old frs fr after o x y f g others aged before at done heavy said (was, spared, answered, idle) =
    (was, others.spared o x before (done, heavy) (aged.ends o x before (done, heavy) was) answered spared, others.answered o x before heavy answered, said)

-- ---- what was old

-- `this`, where it is finished, of a class with an obligation, and linked to none, was so
abbrev pub ThisWas : Program → HeapContents → HeapContents → Frame → Type 0
ThisWas p h k fr = (w : ℕ) (y : Object) → fr.locals.this ≡ values.Object w → object_at k w ≡ Some y → IsHeavyObject p y → y.link ≡ None → (x : Object) × (object_at h w ≡ Some x) × (IsHeavyObject p x × (x.link ≡ None))

-- it was so over a step of this frame or one above
module _ (p : Program) (h k : HeapContents) (old : ℕ → Bool) (frs : List Frame) (fr : Frame) (others : StaysApart p h k frs fr)
    (objects : (o : ℕ) (x : Object) → object_at h o ≡ Some x → (y : Object) × (object_at k o ≡ Some y) × (y.class ≡ x.class) × (x.finished ≡ true → y.finished ≡ true)) (is : IsOld p h frs fr old) (self_was : ThisWas p h k fr) where
  -- an object that was finished, or one that the step made or finished
  was_heavy : (o : ℕ) (y : Object) → object_at k o ≡ Some y → IsHeavyObject p y → ((x : Object) × (object_at h o ≡ Some x) × IsHeavyObject p x) ⊎ ((is_field_owner y.owner ≡ false) × (is_frame_below (length frs + 1) y.owner ≡ false))
  was_heavy o y at heavy = go (object_at h o) refl
    where
      by_done : (x : Object) → object_at h o ≡ Some x → (c : Bool) → x.finished ≡ c → ((x : Object) × (object_at h o ≡ Some x) × IsHeavyObject p x) ⊎ ((is_field_owner y.owner ≡ false) × (is_frame_below (length frs + 1) y.owner ≡ false))
      by_done x before true done =
          let now = objects o x before in
          inl (x, before, (done, ap (is_heavy_class p) (sym now.2 ∙ ap (λ (u : Object). u.class) (one_object now.0 y (object_at k o) now.1 at)) ∙ heavy.1))
      by_done x before false open' = inr (others.late o y at (λ z there done. true≢false (sym done ∙ ap (λ (u : Object). u.finished) (one_object z x (object_at h o) there before) ∙ open')))

      go : (x : Option Object) → object_at h o ≡ x → ((x : Object) × (object_at h o ≡ Some x) × IsHeavyObject p x) ⊎ ((is_field_owner y.owner ≡ false) × (is_frame_below (length frs + 1) y.owner ≡ false))
      go None before = inr (others.late o y at (λ z there done. let never : None ≡ Some z = sym before ∙ there in cc))
      go (Some x) before = by_done x before x.finished refl

  pub old_kept : IsOld p k frs fr old
  old_kept = record {
    there = λ o was. (let x = is.there o was in let now = objects o x.0 x.1 in (now.0, now.1, now.3 x.2));
    ends = λ o y at heavy was.
        let x = is.there o was in
        let now = objects o x.0 x.1 in
        let wide : is_heavy_class p x.0.class ≡ true = ap (is_heavy_class p) (sym now.2 ∙ ap (λ (u : Object). u.class) (one_object now.0 y (object_at k o) now.1 at)) ∙ heavy.1 in
        others.ends o x.0 x.1 wide (is.ends o x.0 x.1 (x.2, wide) was);
    below = λ o y at heavy owned. elim (was_heavy o y at heavy) [
      | inl was ↦ is.below o was.0 was.1 was.2 (others.below o was.0 y was.1 at was.2 owned)
      | inr late ↦ absurd (not_below frs y.owner late owned)
    ];
    contents = λ o y at heavy content leaves. elim (was_heavy o y at heavy) [
      | inl was ↦ is.contents o was.0 was.1 was.2 (record {
        holder = content.holder;
        field = content.field;
        runs = content.runs;
        owns = others.content o was.0 y content.holder content.field was.1 at was.2.0 was.2.1 leaves content.runs content.owns;
        method = content.method;
      }) leaves
      | inr late ↦ absurd (true≢false (sym (ap is_field_owner content.owns) ∙ late.0))
    ];
    self = λ w y this at heavy single settled. (let x = self_was w y this at heavy single in is.self w x.0 this x.1 x.2.0 x.2.1 settled);
  }
    where
      not_below : (gs : List Frame) (a : Owner) → (is_field_owner a ≡ false) × (is_frame_below (length gs + 1) a ≡ false) → IsOwnedBelow p gs a → ⊥
      not_below gs a late (inl low) = true≢false (sym low ∙ late.1)
      not_below [] a late (inr never) = never
      not_below (g ∷ gs) a late (inr held) = true≢false (sym (ap is_field_owner (held.2).owns) ∙ late.0)

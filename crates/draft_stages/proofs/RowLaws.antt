-- What became of the objects that a stage saved.
use Rattle.std.proofs.Common.{◌≡◌, ◌∙◌, ap, sym, refl, subst, ℕ, ◌<◌, ◌≤◌, Bool, true, false, ◌&&◌, ◌||◌, nat_eq, Option, Some, None, option_map, List, [], ◌∷◌, ◌++◌, length, arith}
use Rattle.std.proofs.lemmas.Grind.{common_steps}
use Rattle.std.specs.Prelude.{nat_lt}
use Rattle.std.specs.List.{flat_map}
use Rattle.program_model.specs.Lookups.{optional}
use Rattle.ledger_state.specs.declared.object.Object.{Object}
use Rattle.ledger_state.specs.Contents.{HeapContents}
use Rattle.ledger_state.specs.Heaps.{has_number, is_reached, object_at}
use Rattle.object_index.specs.declared.index.ObjectIndex.{ObjectIndex}
use Rattle.draft_lines.specs.declared.change.ObjectChange.{ObjectChange}
use Rattle.draft_lines.specs.DraftLines.{AllBetween, AllReset, Changes, IsReset, ResetBy, has_change, rises_beyond}
use Rattle.draft_lines.proofs.RisingLines.{first_beyond, still_beyond}
use Rattle.heap_drafts.specs.declared.saved.SavedObject.{SavedObject}
use Rattle.heap_drafts.specs.Drafts.{ChangesAmong, Drafted, as_it_is, is_saved, numbers_rise, renewed_by, saved_as, snapshots}
use Rattle.heap_drafts.proofs.PlacedLaws.{object_there}
use Rattle.draft_stages.specs.Stages.{AllWithRoots, IndexedRest, change_of, change_since, changes_since}

-- what became of the objects with these numbers
abbrev pub rows : HeapContents → HeapContents → List ℕ → List ObjectChange
rows h g ks = changes_since g (snapshots h ks)

abbrev row : ℕ → Option Object → Option Object → List ObjectChange
row k None q = []
row k (Some x) None = []
row k (Some x) (Some y) = change_of (saved_as k x) y ∷ []

rows_one : (h g : HeapContents) (k : ℕ) (ks : List ℕ) (o q : Option Object) → object_at h k ≡ o → object_at g k ≡ q → rows h g (k ∷ ks) ≡ row k o q ++ rows h g ks
rows_one h g k ks None q e f = ap (λ z. flat_map (change_since g) (optional (option_map (renewed_by as_it_is k) z) ++ snapshots h ks)) e
rows_one h g k ks (Some x) None e f =
    ap (λ z. flat_map (change_since g) (optional (option_map (renewed_by as_it_is k) z) ++ snapshots h ks)) e
    ∙ ap (λ z. optional (option_map (change_of (saved_as k x)) z) ++ rows h g ks) f
rows_one h g k ks (Some x) (Some y) e f =
    ap (λ z. flat_map (change_since g) (optional (option_map (renewed_by as_it_is k) z) ++ snapshots h ks)) e
    ∙ ap (λ z. optional (option_map (change_of (saved_as k x)) z) ++ rows h g ks) f

and_left : (a b : Bool) → (a && b) ≡ true → a ≡ true
and_left true b e = refl
and_left false b e = e

and_right : (a b : Bool) → (a && b) ≡ true → b ≡ true
and_right true b e = e
and_right false b e = absurd (cc)

or_true : (a : Bool) → (a || true) ≡ true
or_true true = refl
or_true false = refl

-- Their numbers rise

rise_from : (j k : ℕ) (cs : List ObjectChange) → j < k → rises_beyond k cs ≡ true → rises_beyond j cs ≡ true
rise_from j k [] less rise = refl
rise_from j k (c ∷ cs) less rise =
    let first : k < c.number = first_beyond k c cs rise in
    still_beyond k j c cs rise (omega (arith, less, first))

rise_one : (j k : ℕ) (o q : Option Object) (cs : List ObjectChange) → nat_lt j k ≡ true → rises_beyond k cs ≡ true → rises_beyond j (row k o q ++ cs) ≡ true
rise_one j k None q cs less rise = rise_from j k cs (grind (arith, common_steps, less)) rise
rise_one j k (Some x) None cs less rise = rise_from j k cs (grind (arith, common_steps, less)) rise
rise_one j k (Some x) (Some y) cs less rise = ap (λ b. b && rises_beyond k cs) less ∙ rise

rows_rise : (h g : HeapContents) (j : ℕ) (ks : List ℕ) → numbers_rise j ks ≡ true → rises_beyond j (rows h g ks) ≡ true
rows_rise h g j [] rise = refl
rows_rise h g j (k ∷ ks) rise =
    ap (rises_beyond j) (rows_one h g k ks (object_at h k) (object_at g k) refl refl)
    ∙ rise_one j k (object_at h k) (object_at g k) (rows h g ks) (and_left (nat_lt j k) (numbers_rise k ks) rise) (rows_rise h g k ks (and_right (nat_lt j k) (numbers_rise k ks) rise))

-- They are the changes from one heap to the other

between_one : (h g : HeapContents) (k : ℕ) (o q : Option Object) (cs : List ObjectChange) → object_at h k ≡ o → object_at g k ≡ q → AllBetween h g cs → AllBetween h g (row k o q ++ cs)
between_one h g k None q cs e f all = all
between_one h g k (Some x) None cs e f all = all
between_one h g k (Some x) (Some y) cs e f all = ((e, f), all)

all_between : (h g : HeapContents) (ks : List ℕ) → AllBetween h g (rows h g ks)
all_between h g [] = tt
all_between h g (k ∷ ks) =
    subst (λ (cs : List ObjectChange). AllBetween h g cs) (sym (rows_one h g k ks (object_at h k) (object_at g k) refl refl))
    (between_one h g k (object_at h k) (object_at g k) (rows h g ks) refl refl (all_between h g ks))

has_one : (j k : ℕ) (o q : Option Object) (x y : Object) (cs : List ObjectChange) → o ≡ Some x → q ≡ Some y → nat_eq j k ≡ true → has_change (row j o q ++ cs) k ≡ true
has_one j k None q x y cs e f same = absurd (cc)
has_one j k (Some a) None x y cs e f same = absurd (cc)
has_one j k (Some a) (Some b) x y cs e f same = ap (λ t. t || has_change cs k) same

has_rest : (j k : ℕ) (o q : Option Object) (cs : List ObjectChange) → has_change cs k ≡ true → has_change (row j o q ++ cs) k ≡ true
has_rest j k None q cs has = has
has_rest j k (Some a) None cs has = has
has_rest j k (Some a) (Some b) cs has = ap (λ t. nat_eq j k || t) has ∙ or_true (nat_eq j k)

rows_have : (h g : HeapContents) (ks : List ℕ) (k : ℕ) (x y : Object) → object_at h k ≡ Some x → object_at g k ≡ Some y → has_number ks k ≡ true → has_change (rows h g ks) k ≡ true
rows_have h g [] k x y e f has = absurd (cc)
rows_have h g (j ∷ js) k x y e f has =
    ap (λ cs. has_change cs k) (rows_one h g j js (object_at h j) (object_at g j) refl refl)
    ∙ go (nat_eq j k) refl has (rows_have h g js k x y e f)
  where
    go : (b : Bool) → nat_eq j k ≡ b → (b || has_number js k) ≡ true → (has_number js k ≡ true → has_change (rows h g js) k ≡ true) → has_change (row j (object_at h j) (object_at g j) ++ rows h g js) k ≡ true
    go true same any further =
        let at : j ≡ k = grind (arith, common_steps, same) in
        has_one j k (object_at h j) (object_at g j) x y (rows h g js) (ap (object_at h) at ∙ e) (ap (object_at g) at ∙ f) same
    go false same any further = has_rest j k (object_at h j) (object_at g j) (rows h g js) (further any)

pub rows_between : (h g : HeapContents) (ks : List ℕ) → numbers_rise 0 ks ≡ true → ChangesAmong ks h g → Changes h g (rows h g ks)
rows_between h g ks rise among = record {
  rises = rows_rise h g 0 ks rise;
  between = all_between h g ks;
  others = λ k y there none. go k y there none (has_number ks k) refl;
}
  where
    longer : length g.objects ≤ length h.objects
    longer = let count = among.count in omega (arith, count)

    go : (k : ℕ) (y : Object) → object_at g k ≡ Some y → has_change (rows h g ks) k ≡ false → (b : Bool) → has_number ks k ≡ b → object_at h k ≡ Some y
    go k y there none false apart = sym (among.others k apart) ∙ there
    go k y there none true has =
        let was = object_there g h k y there longer in
        let bad : true ≡ false = sym (rows_have h g ks k was.0 y was.1 there has) ∙ none in
        absurd (cc)

-- Resets

reset_one : (h g : HeapContents) (roots : List ℕ) (k : ℕ) (o q : Option Object) (cs : List ObjectChange) → object_at h k ≡ o → object_at g k ≡ q → is_reached h roots k ≡ true → ((x y : Object) → o ≡ Some x → q ≡ Some y → x.class ≡ y.class) → AllReset h roots cs → AllReset h roots (row k o q ++ cs)
reset_one h g roots k None q cs e f reached same all = all
reset_one h g roots k (Some x) None cs e f reached same all = all
reset_one h g roots k (Some x) (Some y) cs e f reached same all =
    (subst (λ (o : Option Object). IsReset h roots (change_of (saved_as k x) y) o) (sym e) (same x y refl refl, reached), all)

all_reset : (h g : HeapContents) (roots ks : List ℕ) → ((k : ℕ) → has_number ks k ≡ true → is_reached h roots k ≡ true) → ((k : ℕ) (x y : Object) → object_at h k ≡ Some x → object_at g k ≡ Some y → x.class ≡ y.class) → AllReset h roots (rows h g ks)
all_reset h g roots [] only same = tt
all_reset h g roots (k ∷ ks) only same =
    let own : nat_eq k k ≡ true = grind (arith, common_steps) in
    subst (λ (cs : List ObjectChange). AllReset h roots cs) (sym (rows_one h g k ks (object_at h k) (object_at g k) refl refl))
    (reset_one h g roots k (object_at h k) (object_at g k) (rows h g ks) refl refl (only k (ap (λ t. t || has_number ks k) own)) (same k)
    (all_reset h g roots ks (λ j has. only j (ap (λ t. nat_eq k j || t) has ∙ or_true (nat_eq k j))) same))

pub rows_reset : (h g : HeapContents) (roots ks : List ℕ) → AllWithRoots h roots ks → ChangesAmong ks h g → ((k : ℕ) (x y : Object) → object_at h k ≡ Some x → object_at g k ≡ Some y → x.class ≡ y.class) → ResetBy h roots (rows h g ks)
rows_reset h g roots ks with among same = record {
  rises = rows_rise h g 0 ks with.rise;
  reset = all_reset h g roots ks with.only same;
  others = λ k x there none. go k x there none (is_reached h roots k) refl;
}
  where
    longer : length h.objects ≤ length g.objects
    longer = let count = among.count in omega (arith, count)

    go : (k : ℕ) (x : Object) → object_at h k ≡ Some x → has_change (rows h g ks) k ≡ false → (b : Bool) → is_reached h roots k ≡ b → is_reached h roots k ≡ false
    go k x there none false e = e
    go k x there none true e =
        let is = object_there h g k x there longer in
        let bad : true ≡ false = sym (rows_have h g ks k x is.0 there is.1 (with.all k x there e)) ∙ none in
        absurd (cc)

-- What was not saved stays in the index

not_saved : (bs cs : List SavedObject) (k : ℕ) → (is_saved bs k ≡ true → is_saved cs k ≡ true) → is_saved cs k ≡ false → is_saved bs k ≡ false
not_saved bs cs k more none = go (is_saved bs k) refl
  where
    go : (b : Bool) → is_saved bs k ≡ b → is_saved bs k ≡ false
    go false e = e
    go true e = let bad : true ≡ false = sym (more e) ∙ none in absurd (cc)

pub indexed_on : (index : ObjectIndex) (bs cs : List SavedObject) (h g : HeapContents) → Drafted bs h cs g → IndexedRest index bs h → IndexedRest index cs g
indexed_on index bs cs h g drafted indexed k x there none =
    indexed k x (sym (drafted.others k none) ∙ there) (not_saved bs cs k (drafted.more k) none)

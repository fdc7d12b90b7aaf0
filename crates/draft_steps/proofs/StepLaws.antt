-- What a step changes of the heap.
use Rattle.std.proofs.Common.{◌≡◌, ◌∙◌, ap, sym, refl, subst, ℕ, zero, suc, ◌+◌, ◌<◌, ◌≤◌, Bool, true, false, ◌||◌, nat_eq, Option, Some, None, option_map, List, [], ◌∷◌, ◌++◌, length, length-append, arith}
use Rattle.std.proofs.lemmas.Grind.{common_steps}
use Rattle.std.specs.Prelude.{Err, IfOk, IfSome, Ok, Result, Vec, nat_le, slice_get}
use Rattle.std.specs.Global.{Global}
use Rattle.rlc_base.specs.declared.faults.NoMemory.{NoMemory}
use Rattle.ledger_state.specs.declared.entry.Entry.{Entry}
use Rattle.ledger_state.specs.declared.value.Value.{Value}
use Rattle.ledger_steps.specs.Effects.{Effect}
use Rattle.heap_drafts.specs.Settled.{Settled}
use Rattle.draft_steps.specs.declared.steps.DraftStep.{DraftStep}
use Rattle.program_model.specs.Lookups.{optional}
use Rattle.ledger_state.specs.declared.object.Object.{Object}
use Rattle.ledger_state.specs.Contents.{HeapContents}
use Rattle.ledger_state.specs.Heaps.{has_number, object_at}
use Rattle.spread_notes.specs.declared.numbered.Numbered.{Numbered}
use Rattle.spread_notes.specs.SpreadNotes.{add_made, has_object, numbered, put_each, put_numbered}
use Rattle.spread_notes.proofs.PlacedLaws.{AllAre, placed, placed_at, placed_found, placed_other}
use Rattle.draft_lines.specs.DraftLines.{Changes}
use Rattle.heap_drafts.specs.declared.saved.SavedObject.{SavedObject}
use Rattle.heap_drafts.specs.Drafts.{Drafted, HasNumbers, is_saved}
use Rattle.heap_drafts.proofs.PlacedLaws.{object_there, object_within, same_heaps}
use Rattle.draft_stages.specs.Stages.{saved_numbers}
use Rattle.draft_stages.proofs.AliasLaws.{saved_has}
use Rattle.draft_steps.specs.Steps.{IsDraft, IsDraftedBy, numbered_in, numbered_one, put_stored}

-- Objects with their numbers

are_joined : (k : ℕ) (z : Object) (bs cs : List Numbered) → AllAre k z bs → AllAre k z cs → AllAre k z (bs ++ cs)
are_joined k z [] cs are more = more
are_joined k z (b ∷ bs) cs are more = (are.0, are_joined k z bs cs are.1 more)

one_are : (k j : ℕ) (x : Object) (o : Option Object) → (nat_eq j k ≡ true → o ≡ Some x) → AllAre k x (optional (option_map (numbered j) o))
one_are k j x None found = tt
one_are k j x (Some y) found = (
  λ e. let both : Some y ≡ Some x = found e in let is : y ≡ x = cc in is,
  tt,
)

all_are : (g : HeapContents) (ks : List ℕ) (k : ℕ) (x : Object) → object_at g k ≡ Some x → AllAre k x (numbered_in g ks)
all_are g [] k x found = tt
all_are g (j ∷ js) k x found =
    are_joined k x (numbered_one g j) (numbered_in g js)
    (one_are k j x (object_at g j) (λ e. let same : j ≡ k = grind (arith, common_steps, e) in ap (object_at g) same ∙ found))
    (all_are g js k x found)

or_assoc : (a b c : Bool) → (a || (b || c)) ≡ ((a || b) || c)
or_assoc true b c = refl
or_assoc false b c = refl

objects_joined : (bs cs : List Numbered) (k : ℕ) → has_object (bs ++ cs) k ≡ (has_object bs k || has_object cs k)
objects_joined [] cs k = refl
objects_joined (b ∷ bs) cs k = ap (λ t. nat_eq b.number k || t) (objects_joined bs cs k) ∙ or_assoc (nat_eq b.number k) (has_object bs k) (has_object cs k)

is_one : (g : HeapContents) (j k : ℕ) (x : Object) → object_at g k ≡ Some x → has_object (numbered_one g j) k ≡ nat_eq j k
is_one g j k x found = go (nat_eq j k) refl (object_at g j) refl
  where
    alone : (a : Bool) → (a || false) ≡ a
    alone true = refl
    alone false = refl

    go : (t : Bool) → nat_eq j k ≡ t → (o : Option Object) → object_at g j ≡ o → has_object (optional (option_map (numbered j) o)) k ≡ nat_eq j k
    go t e (Some y) there = alone (nat_eq j k)
    go true e None there =
        let same : j ≡ k = grind (arith, common_steps, e) in
        let both : None ≡ Some x = sym there ∙ ap (object_at g) same ∙ found in
        absurd (cc)
    go false e None there = sym e

numbered_has : (g : HeapContents) (ks : List ℕ) (k : ℕ) (x : Object) → object_at g k ≡ Some x → has_object (numbered_in g ks) k ≡ has_number ks k
numbered_has g [] k x found = refl
numbered_has g (j ∷ js) k x found =
    objects_joined (numbered_one g j) (numbered_in g js) k
    ∙ (λ i. is_one g j k x found i || numbered_has g js k x found i)

-- One object more

made_fields : (o : Option Object) (h : HeapContents) → (add_made o h).fields ≡ h.fields
made_fields None h = refl
made_fields (Some z) h = refl

get_made : (xs : List Object) (z : Object) (i : ℕ) → nat_eq (length xs) i ≡ false → slice_get (xs ++ z ∷ []) i ≡ slice_get xs i
get_made [] z zero e = absurd (cc)
get_made [] z (suc i) e = refl
get_made (x ∷ xs) z zero e = refl
get_made (x ∷ xs) z (suc i) e = get_made xs z i (grind (arith, common_steps, e))

made_other : (o : Option Object) (h : HeapContents) (k : ℕ) → nat_eq (length h.objects + 1) k ≡ false → object_at (add_made o h) k ≡ object_at h k
made_other None h k e = refl
made_other (Some z) h zero e = refl
made_other (Some z) h (suc i) e = get_made h.objects z i (grind (arith, common_steps, e))

get_last : (xs : List Object) (z : Object) → slice_get (xs ++ z ∷ []) (length xs) ≡ Some z
get_last [] z = refl
get_last (x ∷ xs) z = get_last xs z

get_none : (xs : List Object) → slice_get xs (length xs) ≡ None
get_none [] = refl
get_none (x ∷ xs) = get_none xs

pub made_last : (o : Option Object) (h : HeapContents) → object_at (add_made o h) (suc (length h.objects)) ≡ o
made_last None h = get_none h.objects
made_last (Some z) h = get_last h.objects z

made_count : (o : Option Object) (h : HeapContents) → length h.objects ≤ length (add_made o h).objects
made_count None h = omega arith
made_count (Some z) h = let more = length-append h.objects (z ∷ []) in omega (arith, more)

-- no object changes
pub no_changes : (h : HeapContents) → Changes h h []
no_changes h = record { rises = refl; between = tt; others = λ k x found none. found }

-- The whole step

put_fields : (bs : List Numbered) (h : HeapContents) → (put_each bs h).fields ≡ h.fields
put_fields [] h = refl
put_fields (b ∷ bs) h = put_fields bs (put_numbered b h)

-- each object as it is after the step, in its place, makes the heap after the step of the one before it
pub step_made : (bs : List SavedObject) (h g : HeapContents) (ks : List ℕ) (o : Option Object) → Drafted [] h bs g → HasNumbers (saved_numbers bs) ks → length g.objects ≤ length h.objects + 1 → o ≡ object_at g (length h.objects + 1) → put_each (numbered_in g ks) (add_made o h) ≡ g
step_made bs h g ks o drafted has few made =
    same_heaps (put_each (numbered_in g ks) (add_made o h)) g each (put_fields (numbered_in g ks) (add_made o h) ∙ made_fields o h ∙ sym drafted.fields)
  where
    next : suc (length h.objects) ≡ length h.objects + 1
    next = omega arith

    -- at each number the heap that has one object more is like the one after the step, but for those that were saved
    alike : (k : ℕ) → is_saved bs k ≡ false → (t : Bool) → nat_eq (length h.objects + 1) k ≡ t → object_at (add_made o h) k ≡ object_at g k
    alike k none false e = made_other o h k e ∙ sym (drafted.others k none)
    alike k none true e =
        let here : suc (length h.objects) ≡ k = grind (arith, common_steps, e) in
        ap (object_at (add_made o h)) (sym here) ∙ made_last o h ∙ made ∙ ap (object_at g) (sym next ∙ here)

    above : (k : ℕ) (x : Object) → object_at g k ≡ Some x → 0 < k
    above zero x found = absurd (cc)
    above (suc i) x found = omega arith

    some : (k : ℕ) (x : Object) → object_at g k ≡ Some x → (w : Object) → object_at (add_made o h) k ≡ Some w → (t : Bool) → has_number ks k ≡ t → placed (numbered_in g ks) k (Some w) ≡ Some x
    some k x found w was true e = placed_found (numbered_in g ks) k w x (all_are g ks k x found) (numbered_has g ks k x found ∙ e)
    some k x found w was false e =
        placed_other (numbered_in g ks) k (Some w) (numbered_has g ks k x found ∙ e)
        ∙ sym was ∙ alike k (unsaved (is_saved bs k) refl) (nat_eq (length h.objects + 1) k) refl ∙ found
      where
        unsaved : (b : Bool) → is_saved bs k ≡ b → is_saved bs k ≡ false
        unsaved true s = let bad : true ≡ false = sym (has k (above k x found) (saved_has bs k ∙ s)) ∙ e in absurd (cc)
        unsaved false s = s

    placed_none : (cs : List Numbered) (k : ℕ) → placed cs k None ≡ None
    placed_none [] k = refl
    placed_none (c ∷ cs) k = placed_none cs k

    there : (k : ℕ) (x : Object) → object_at g k ≡ Some x → (t : Bool) → nat_le k (length h.objects) ≡ t → (w : Object) × (object_at (add_made o h) k ≡ Some w)
    there k x found true e =
        let low : k ≤ length h.objects = grind (arith, common_steps, e) in
        old k (above k x found) low
      where
        get_there : (xs : List Object) (i : ℕ) → i < length xs → (y : Object) × (slice_get xs i ≡ Some y)
        get_there [] i e = absurd (omega arith)
        get_there (y ∷ ys) zero e = (y, refl)
        get_there (y ∷ ys) (suc i) e = get_there ys i (omega arith)

        old : (m : ℕ) → 0 < m → m ≤ length h.objects → (w : Object) × (object_at (add_made o h) m ≡ Some w)
        old zero up low = absurd (omega arith)
        old (suc i) up low = let count = made_count o h in get_there (add_made o h).objects i (omega (arith, low, count))
    there k x found false e =
        let within : k ≤ length g.objects = object_within g k x found in
        let here : suc (length h.objects) ≡ k = grind (arith, common_steps, e, within, few) in
        (x, ap (object_at (add_made o h)) (sym here) ∙ made_last o h ∙ made ∙ ap (object_at g) (sym next ∙ here) ∙ found)

    -- where none stands after the step, none stood before
    gone : (k : ℕ) → object_at g k ≡ None → (u : Option Object) → object_at (add_made o h) k ≡ u → placed (numbered_in g ks) k u ≡ None
    gone k found None was = placed_none (numbered_in g ks) k
    gone k found (Some w) was = absurd (lost k w found was (nat_eq (length h.objects + 1) k) refl)
      where
        lost : (m : ℕ) (w : Object) → object_at g m ≡ None → object_at (add_made o h) m ≡ Some w → (t : Bool) → nat_eq (length h.objects + 1) m ≡ t → ⊥
        lost m w none was false e =
            let at_first : object_at h m ≡ Some w = sym (made_other o h m e) ∙ was in
            let longer = drafted.longer in
            let still = object_there h g m w at_first longer in
            let no : None ≡ Some still.0 = sym none ∙ still.1 in
            cc
        lost m w none was true e =
            let here : suc (length h.objects) ≡ m = grind (arith, common_steps, e) in
            let is : Some w ≡ None = sym was ∙ ap (object_at (add_made o h)) (sym here) ∙ made_last o h ∙ made ∙ ap (object_at g) (sym next ∙ here) ∙ none in
            cc

    go : (k : ℕ) (q : Option Object) → object_at g k ≡ q → placed (numbered_in g ks) k (object_at (add_made o h) k) ≡ q
    go k None found = gone k found (object_at (add_made o h) k) refl
    go k (Some x) found =
        let was = there k x found (nat_le k (length h.objects)) refl in
        ap (placed (numbered_in g ks) k) was.1 ∙ some k x found was.0 was.1 (has_number ks k) refl

    each : (k : ℕ) → object_at (put_each (numbered_in g ks) (add_made o h)) k ≡ object_at g k
    each k = placed_at (numbered_in g ks) (add_made o h) k ∙ go k (object_at g k) refl

-- what a step in the heap changed is the draft of the step
pub draft_whole : (result : Result (Option DraftStep) NoMemory) (lines : Result (Option (Vec Entry Global)) NoMemory) (h g : HeapContents) (count : ℕ) (bs : List SavedObject) (held : List (List Value)) (e : Effect) → IfOk result (λ o. IfSome o (λ d. IsDraftedBy d count bs g lines)) → IfOk lines (λ o. IfSome o (λ v. g ≡ e.heap)) → IfOk lines (λ o. IfSome o (λ v. v.items ≡ e.lines)) → IfOk lines (λ o. IfSome o (λ v. Settled g held)) → length h.objects ≡ count → Drafted [] h bs g → IfOk result (λ o. IfSome o (λ d. IsDraft d h held e))
draft_whole (Err x) lines h g count bs held e by heap written settled same drafted' = tt
draft_whole (Ok None) lines h g count bs held e by heap written settled same drafted' = tt
draft_whole (Ok (Some d)) (Err x) h g count bs held e by heap written settled same drafted' = absurd by
draft_whole (Ok (Some d)) (Ok None) h g count bs held e by heap written settled same drafted' = absurd by
draft_whole (Ok (Some d)) (Ok (Some v)) h g count bs held e by heap written settled same drafted' = record {
  heap = ap (λ s. put_stored s (put_each d.changes.items (add_made d.made h))) by.stored ∙ by.heap h same drafted' ∙ heap;
  lines = by.lines ∙ written;
  settled = subst (λ (i : HeapContents). Settled i held) heap settled;
}

-- it stores nothing
pub draft_stores : (result : Result (Option DraftStep) NoMemory) (lines : Result (Option (Vec Entry Global)) NoMemory) (g : HeapContents) (count : ℕ) (bs : List SavedObject) → IfOk result (λ o. IfSome o (λ d. IsDraftedBy d count bs g lines)) → IfOk result (λ o. IfSome o (λ d. d.stored ≡ None))
draft_stores (Err x) lines g count bs by = tt
draft_stores (Ok None) lines g count bs by = tt
draft_stores (Ok (Some d)) (Err x) g count bs by = absurd by
draft_stores (Ok (Some d)) (Ok None) g count bs by = absurd by
draft_stores (Ok (Some d)) (Ok (Some v)) g count bs by = by.stored

-- Objects that are put in their places.
use Rattle.std.proofs.Common.{◌≡◌, ◌∙◌, ap, sym, refl, subst, ℕ, suc, ◌+◌, ◌<◌, drop, get_or, Bool, true, false, ◌&&◌, ◌||◌, nat_eq, Option, Some, None, option_map, List, [], ◌∷◌, length, arith}
use Rattle.std.proofs.lemmas.Grind.{common_steps}
use Rattle.std.proofs.Math.Seq.{drop-cons}
use Rattle.std.specs.Prelude.{filter, is_some, slice_get, if◌then◌else◌}
use Rattle.std.specs.List.{list_all}
use Rattle.ledger_state.specs.declared.object.Object.{Object}
use Rattle.ledger_state.specs.Contents.{HeapContents}
use Rattle.ledger_state.specs.Heaps.{change_each, changed_from, object_at, only_at, with_objects}
use Rattle.ledger_obligations.specs.declared.note.Note.{Note}
use Rattle.ledger_obligations.specs.Obligations.{is_of, is_unmet, noted_object, with_names}
use Rattle.spread_notes.specs.declared.numbered.Numbered.{Numbered}
use Rattle.frame_owners.proofs.ReleaseLaws.{object_each}
use Rattle.spread_notes.specs.SpreadNotes.{AllMadeOf, MadeOf, has_object, put_each, put_numbered, speak_of}
use Rattle.spread_notes.proofs.NoteTurns.{is_there}

-- What stands at a number

-- what the objects that are put leave of what stood at `k`
abbrev pub placed : List Numbered → ℕ → Option Object → Option Object
placed [] k o = o
placed (b ∷ bs) k o = placed bs k (option_map (only_at b.number (λ _. b.object) k) o)

pub placed_at : (bs : List Numbered) (h : HeapContents) (k : ℕ) → object_at (put_each bs h) k ≡ placed bs k (object_at h k)
placed_at [] h k = refl
placed_at (b ∷ bs) h k = placed_at bs (put_numbered b h) k ∙ ap (placed bs k) (object_each (only_at b.number (λ _. b.object)) h k)

placed_none : (bs : List Numbered) (k : ℕ) → placed bs k None ≡ None
placed_none [] k = refl
placed_none (b ∷ bs) k = placed_none bs k

turned_number : (a b : ℕ) (t : Bool) → nat_eq a b ≡ t → nat_eq b a ≡ t
turned_number a b true e = grind (arith, common_steps, e)
turned_number a b false e = grind (arith, common_steps, e)

-- none of them has the number
pub placed_other : (bs : List Numbered) (k : ℕ) (o : Option Object) → has_object bs k ≡ false → placed bs k o ≡ o
placed_other [] k o none = refl
placed_other (b ∷ bs) k o none = go (nat_eq b.number k) refl none o (placed_other bs k)
  where
    go : (t : Bool) → nat_eq b.number k ≡ t → (t || has_object bs k) ≡ false → (u : Option Object) → ((v : Option Object) → has_object bs k ≡ false → placed bs k v ≡ v) → placed bs k (option_map (only_at b.number (λ _. b.object) k) u) ≡ u
    go true e any u further = absurd (cc)
    go false e any None further = further None any
    go false e any (Some x) further =
        let apart : nat_eq k b.number ≡ false = turned_number b.number k false e in
        ap (λ t. placed bs k (Some (if t then b.object else x))) apart ∙ further (Some x) any

-- those of them that have the number `k` are `z`
abbrev pub AllAre : ℕ → Object → List Numbered → Type 0
AllAre k z [] = Unit {0}
AllAre k z (b ∷ bs) = (nat_eq b.number k ≡ true → b.object ≡ z) × AllAre k z bs

placed_again : (bs : List Numbered) (k : ℕ) (z : Object) → AllAre k z bs → placed bs k (Some z) ≡ Some z
placed_again [] k z are = refl
placed_again (b ∷ bs) k z are = go (nat_eq b.number k) refl are.0 (placed_again bs k z are.1)
  where
    go : (t : Bool) → nat_eq b.number k ≡ t → (nat_eq b.number k ≡ true → b.object ≡ z) → placed bs k (Some z) ≡ Some z → placed bs k (Some (only_at b.number (λ _. b.object) k z)) ≡ Some z
    go true e is rest =
        let same : nat_eq k b.number ≡ true = turned_number b.number k true e in
        ap (λ t. placed bs k (Some (if t then b.object else z))) same ∙ ap (λ y. placed bs k (Some y)) (is e) ∙ rest
    go false e is rest =
        let apart : nat_eq k b.number ≡ false = turned_number b.number k false e in
        ap (λ t. placed bs k (Some (if t then b.object else z))) apart ∙ rest

-- one of them has it
pub placed_found : (bs : List Numbered) (k : ℕ) (x z : Object) → AllAre k z bs → has_object bs k ≡ true → placed bs k (Some x) ≡ Some z
placed_found [] k x z are found = absurd (cc)
placed_found (b ∷ bs) k x z are found = go (nat_eq b.number k) refl found (placed_found bs k x z are.1)
  where
    go : (t : Bool) → nat_eq b.number k ≡ t → (t || has_object bs k) ≡ true → (has_object bs k ≡ true → placed bs k (Some x) ≡ Some z) → placed bs k (Some (only_at b.number (λ _. b.object) k x)) ≡ Some z
    go true e any further =
        let same : nat_eq k b.number ≡ true = turned_number b.number k true e in
        ap (λ t. placed bs k (Some (if t then b.object else x))) same ∙ ap (λ y. placed bs k (Some y)) (are.0 e) ∙ placed_again bs k z are.1
    go false e any further =
        let apart : nat_eq k b.number ≡ false = turned_number b.number k false e in
        ap (λ t. placed bs k (Some (if t then b.object else x))) apart ∙ further any

-- What notes make

-- the object that was there
pub record WasMade (h : HeapContents) (ns : List Note) (k : ℕ) : Type 0 where
  pub object : Object
  pub found : object_at h k ≡ Some object
  pub unmet : is_unmet (noted_object ns k object) ≡ true → is_unmet object ≡ true

one_made : (h : HeapContents) (ns : List Note) (b : Numbered) (o : Option Object) → object_at h b.number ≡ o → MadeOf ns b o → WasMade h ns b.number
one_made h ns b None found by = absurd by
one_made h ns b (Some x) found by = record { object = x; found = found; unmet = λ e. by.1 (ap is_unmet by.0 ∙ e) }

pub was_made : (h : HeapContents) (ns : List Note) (bs : List Numbered) (k : ℕ) → AllMadeOf h ns bs → has_object bs k ≡ true → WasMade h ns k
was_made h ns [] k made found = absurd (cc)
was_made h ns (b ∷ bs) k made found = go (nat_eq b.number k) refl found (was_made h ns bs k made.1)
  where
    go : (t : Bool) → nat_eq b.number k ≡ t → (t || has_object bs k) ≡ true → (has_object bs k ≡ true → WasMade h ns k) → WasMade h ns k
    go true e any further =
        let same : b.number ≡ k = grind (arith, common_steps, e) in
        subst (WasMade h ns) same (one_made h ns b (object_at h b.number) refl made.0)
    go false e any further = further any

one_is : (ns : List Note) (b : Numbered) (k : ℕ) (x : Object) (o : Option Object) → o ≡ Some x → b.number ≡ k → MadeOf ns b o → b.object ≡ noted_object ns k x
one_is ns b k x None found same by = absurd by
one_is ns b k x (Some y) found same by =
    let is : y ≡ x = cc in
    by.0 ∙ (λ i. noted_object ns (same i) (is i))

pub all_are : (h : HeapContents) (ns : List Note) (bs : List Numbered) (k : ℕ) (x : Object) → object_at h k ≡ Some x → AllMadeOf h ns bs → AllAre k (noted_object ns k x) bs
all_are h ns [] k x found made = tt
all_are h ns (b ∷ bs) k x found made = (
  λ e. let same : b.number ≡ k = grind (arith, common_steps, e) in one_is ns b k x (object_at h b.number) (ap (object_at h) same ∙ found) same made.0,
  all_are h ns bs k x found made.1,
)

-- the notes speak of another object
not_spoken : (bs : List Numbered) (ns : List Note) (k : ℕ) → speak_of bs ns ≡ true → has_object bs k ≡ false → filter (is_of k) ns ≡ []
not_spoken bs [] k speak none = refl
not_spoken bs (a ∷ as') k speak none = go (nat_eq a.object k) refl (has_object bs a.object) refl speak (not_spoken bs as' k)
  where
    go : (t : Bool) → nat_eq a.object k ≡ t → (u : Bool) → has_object bs a.object ≡ u → (has_object bs a.object && speak_of bs as') ≡ true → (speak_of bs as' ≡ true → has_object bs k ≡ false → filter (is_of k) as' ≡ []) → filter (is_of k) (a ∷ as') ≡ []
    go t e false f both further = absurd (let no : (false && speak_of bs as') ≡ true = ap (λ w. w && speak_of bs as') (sym f) ∙ both in cc)
    go true e true f both further =
        let same : a.object ≡ k = grind (arith, common_steps, e) in
        absurd (let two : true ≡ false = sym f ∙ ap (has_object bs) same ∙ none in cc)
    go false e true f both further = rw e (further (ap (λ w. w && speak_of bs as') (sym f) ∙ both) none)

pub not_changed : (bs : List Numbered) (ns : List Note) (k : ℕ) (x : Object) → speak_of bs ns ≡ true → has_object bs k ≡ false → noted_object ns k x ≡ x
not_changed bs ns k x speak none = ap (λ (as' : List Note). record x { called = with_names x.called as' }) (not_spoken bs ns k speak none)

-- they speak of objects that are there
pub all_there : (h : HeapContents) (ns : List Note) (bs : List Numbered) (as' : List Note) → AllMadeOf h ns bs → speak_of bs as' ≡ true → list_all (is_there h) as' ≡ true
all_there h ns bs [] made speak = refl
all_there h ns bs (a ∷ as') made speak = go (has_object bs a.object) refl speak (all_there h ns bs as' made)
  where
    go : (u : Bool) → has_object bs a.object ≡ u → (u && speak_of bs as') ≡ true → (speak_of bs as' ≡ true → list_all (is_there h) as' ≡ true) → list_all (is_there h) (a ∷ as') ≡ true
    go false e both further = absurd (cc)
    go true e both further =
        let was = was_made h ns bs a.object made e in
        ap (λ o. is_some o && list_all (is_there h) as') was.found ∙ further both

-- The whole heap

pub same_objects : (xs ys : List Object) → ((i : ℕ) → slice_get xs i ≡ slice_get ys i) → xs ≡ ys
same_objects [] [] same = refl
same_objects [] (y ∷ ys) same = absurd (let no : None ≡ Some y = same 0 in cc)
same_objects (x ∷ xs) [] same = absurd (let no : Some x ≡ None = same 0 in cc)
same_objects (x ∷ xs) (y ∷ ys) same =
    let both : Some x ≡ Some y = same 0 in
    let first : x ≡ y = cc in
    let rest : xs ≡ ys = same_objects xs ys (λ i. same (suc i)) in
    λ i. first i ∷ rest i

put_shape : (bs : List Numbered) (h : HeapContents) → put_each bs h ≡ with_objects h (put_each bs h).objects
put_shape [] h = refl
put_shape (b ∷ bs) h = put_shape bs (put_numbered b h)

-- what the notes make of an object of a heap that has those objects
each_at : (h g : HeapContents) (ns : List Note) (bs : List Numbered) (k : ℕ) (o : Option Object) → ((j : ℕ) (x : Object) → object_at h j ≡ Some x → object_at g j ≡ Some x) → AllMadeOf h ns bs → speak_of bs ns ≡ true → object_at g k ≡ o → option_map (noted_object ns k) o ≡ placed bs k o
each_at h g ns bs k None more made speak found = sym (placed_none bs k)
each_at h g ns bs k (Some x) more made speak found = go (has_object bs k) refl
  where
    go : (t : Bool) → has_object bs k ≡ t → Some (noted_object ns k x) ≡ placed bs k (Some x)
    go false e = ap Some (not_changed bs ns k x speak e) ∙ sym (placed_other bs k (Some x) e)
    go true e =
        let was = was_made h ns bs k made e in
        let both : Some was.object ≡ Some x = sym (more k was.object was.found) ∙ found in
        let is : was.object ≡ x = cc in
        sym (placed_found bs k x (noted_object ns k x) (all_are h ns bs k x (was.found ∙ ap Some is) made) e)

pub each_placed : (h g : HeapContents) (ns : List Note) (bs : List Numbered) → ((j : ℕ) (x : Object) → object_at h j ≡ Some x → object_at g j ≡ Some x) → AllMadeOf h ns bs → speak_of bs ns ≡ true → change_each (noted_object ns) g ≡ put_each bs g
each_placed h g ns bs more made speak =
    let same : changed_from 1 (noted_object ns) g.objects ≡ (put_each bs g).objects =
    same_objects (changed_from 1 (noted_object ns) g.objects) (put_each bs g).objects
    (λ i. object_each (noted_object ns) g (suc i) ∙ each_at h g ns bs (suc i) (object_at g (suc i)) more made speak refl ∙ sym (placed_at bs g (suc i))) in
    ap (with_objects g) same ∙ sym (put_shape bs g)

-- one of them more is put
pub put_next : (bs : List Numbered) (i : ℕ) (b : Numbered) (h g whole : HeapContents) → i < length bs → b ≡ get_or bs i b → g ≡ put_numbered b h → put_each (drop i bs) h ≡ whole → put_each (drop (i + 1) bs) g ≡ whole
put_next bs i b h g whole within read is before =
    let next : suc i ≡ i + 1 = omega arith in
    let split : drop i bs ≡ get_or bs i b ∷ drop (i + 1) bs = subst (λ n. drop i bs ≡ get_or bs i b ∷ drop n bs) next (drop-cons bs i b within) in
    ap (put_each (drop (i + 1) bs)) is
    ∙ sym (ap (λ xs. put_each xs h) (split ∙ ap (λ z. z ∷ drop (i + 1) bs) (sym read)))
    ∙ before

-- Heaps in which a field takes a value, and objects that are taken away again.
use Rattle.std.proofs.Common.{◌≡◌, ◌∙◌, ap, refl, ℕ, ◌+◌, ◌-◌, Option, Some, None, List, [], ◌∷◌, ◌++◌, length, length-append, take, arith}
use Rattle.ledger_state.specs.declared.object.Object.{Object}
use Rattle.ledger_state.specs.declared.object.StoredField.{StoredField}
use Rattle.ledger_state.specs.Contents.{HeapContents}
use Rattle.ledger_state.specs.Heaps.{put_field, with_objects}
use Rattle.frame_owners.specs.FrameOwners.{Listed}
use Rattle.object_index.specs.declared.index.ObjectIndex.{ObjectIndex}
use Rattle.object_index.specs.ObjectIndexes.{Indexed}
use Rattle.spread_notes.specs.declared.numbered.Numbered.{Numbered}
use Rattle.spread_notes.specs.SpreadNotes.{add_made, put_each, put_numbered}
use Rattle.draft_steps.specs.Steps.{put_stored}

-- the lists and the index of the objects stay
pub listed_stored : (lists : List (List ℕ)) (s : Option StoredField) (h : HeapContents) → Listed lists h → Listed lists (put_stored s h)
listed_stored lists None h listed = listed
listed_stored lists (Some s) h listed = λ k x found. listed k x found

pub indexed_stored : (index : ObjectIndex) (s : Option StoredField) (h : HeapContents) → Indexed index h → Indexed index (put_stored s h)
indexed_stored index None h indexed = indexed
indexed_stored index (Some s) h indexed = λ k x found. indexed k x found

-- objects are put before the field takes the value or afterwards
field_later : (bs : List Numbered) (s : StoredField) (h : HeapContents) → put_each bs (put_field s.holder s.field s.value h) ≡ put_field s.holder s.field s.value (put_each bs h)
field_later [] s h = refl
field_later (b ∷ bs) s h = field_later bs s (put_numbered b h)

pub stored_later : (bs : List Numbered) (s : Option StoredField) (h : HeapContents) → put_each bs (put_stored s h) ≡ put_stored s (put_each bs h)
stored_later bs None h = refl
stored_later bs (Some s) h = field_later bs s h

-- the object that was added is taken away
take_own : (xs ys : List Object) → take (length xs) (xs ++ ys) ≡ xs
take_own [] ys = refl
take_own (x ∷ xs) ys = ap (λ zs. x ∷ zs) (take_own xs ys)

take_last : (xs : List Object) (x : Object) → take (length (xs ++ x ∷ []) - 1) (xs ++ x ∷ []) ≡ xs
take_last xs x =
    let count : length (xs ++ x ∷ []) - 1 ≡ length xs = (let all = length-append xs (x ∷ []) in omega (arith, all)) in
    ap (λ n. take n (xs ++ x ∷ [])) count ∙ take_own xs (x ∷ [])

pub taken_back : (h g : HeapContents) (x : Object) → h ≡ add_made (Some x) g → with_objects h (take (length h.objects - 1) h.objects) ≡ g
taken_back h g x added = ap (λ (k : HeapContents). with_objects k (take (length k.objects - 1) k.objects)) added ∙ ap (with_objects g) (take_last g.objects x)

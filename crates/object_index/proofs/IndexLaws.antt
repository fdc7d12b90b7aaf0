-- Indexes that stay those of a heap.
use Rattle.std.proofs.Common.{◌≡◌, ◌∙◌, ap, sym, refl, subst, ℕ, zero, suc, ◌+◌, ◌≤◌, ◌⊎◌, inl, inr, Bool, true, false, ◌&&◌, nat_eq, Option, Some, None, List, [], ◌∷◌, ◌++◌, length, arith}
use Rattle.std.proofs.lemmas.Grind.{common_steps}
use Rattle.std.specs.Prelude.{nat_le, nat_lt, slice_get}
use Rattle.ledger_state.specs.declared.entry.Owner.{Owner}
use Rattle.ledger_state.specs.declared.entry.Owner.TheVariants as owners
use Rattle.ledger_state.specs.declared.object.Object.{Object}
use Rattle.ledger_state.specs.Contents.{HeapContents}
use Rattle.ledger_state.specs.Heaps.{change_each, change_one, has_number, linked_by, next_number, object_at, only_at, with_objects}
use Rattle.frame_owners.specs.Obligations.{end_frame, given_up, given_up_by_frame, is_frame, is_held_by, is_unmet, with_owner}
use Rattle.frame_owners.specs.FrameOwners.{HasAll, list_at, lists_in}
use Rattle.frame_owners.proofs.ListLaws.{object_within}
use Rattle.frame_owners.proofs.ReleaseLaws.{before_each}
use Rattle.object_index.specs.declared.index.ObjectIndex.{ObjectIndex}
use Rattle.object_index.specs.ObjectIndexes.{HasMore, Indexed, is_alias, is_content, is_free, is_indexed}

pub both_true : (a b : Bool) → a ≡ true → b ≡ true → (a && b) ≡ true
both_true true b e f = f
both_true false b e f = absurd (cc)

pub first_true : (a b : Bool) → (a && b) ≡ true → a ≡ true
first_true true b e = refl
first_true false b e = e

pub second_true : (a b : Bool) → (a && b) ≡ true → b ≡ true
second_true true b e = e
second_true false b e = absurd (cc)

-- More in the lists

pub content_more : (xs ys : List (List ℕ)) (o : Owner) (k : ℕ) → HasAll xs ys → is_content xs o k ≡ true → is_content ys o k ≡ true
content_more xs ys (owners.Field w f) k all e = all w k e
content_more xs ys (owners.Frame j) k all e = refl
content_more xs ys owners.Library k all e = refl
content_more xs ys owners.Released k all e = refl
content_more xs ys owners.Lost k all e = refl
content_more xs ys owners.Unowned k all e = refl

pub alias_more : (xs ys : List (List ℕ)) (o : Owner) (l : Option ℕ) (k : ℕ) → HasAll xs ys → is_alias xs o l k ≡ true → is_alias ys o l k ≡ true
alias_more xs ys o None k all e = refl
alias_more xs ys o (Some r) k all e =
    let rest = second_true (nat_lt r k) (is_free o && has_number (list_at xs r) k) e in
    both_true (nat_lt r k) (is_free o && has_number (list_at ys r) k) (first_true (nat_lt r k) (is_free o && has_number (list_at xs r) k) e)
    (both_true (is_free o) (has_number (list_at ys r) k) (first_true (is_free o) (has_number (list_at xs r) k) rest) (all r k (second_true (is_free o) (has_number (list_at xs r) k) rest)))

-- an object that is in the index, part by part
pub indexed_by : (index : ObjectIndex) (k : ℕ) (x : Object) → is_content (lists_in index.contents.items) x.owner k ≡ true → is_alias (lists_in index.aliases.items) x.owner (linked_by x.link) k ≡ true → is_indexed index k x ≡ true
indexed_by index k x content alias = both_true (is_content (lists_in index.contents.items) x.owner k) (is_alias (lists_in index.aliases.items) x.owner (linked_by x.link) k) content alias

pub content_of : (index : ObjectIndex) (k : ℕ) (x : Object) → is_indexed index k x ≡ true → is_content (lists_in index.contents.items) x.owner k ≡ true
content_of index k x e = first_true (is_content (lists_in index.contents.items) x.owner k) (is_alias (lists_in index.aliases.items) x.owner (linked_by x.link) k) e

pub alias_of : (index : ObjectIndex) (k : ℕ) (x : Object) → is_indexed index k x ≡ true → is_alias (lists_in index.aliases.items) x.owner (linked_by x.link) k ≡ true
alias_of index k x e = second_true (is_content (lists_in index.contents.items) x.owner k) (is_alias (lists_in index.aliases.items) x.owner (linked_by x.link) k) e

pub indexed_more : (index more : ObjectIndex) (k : ℕ) (x : Object) → HasMore index more → is_indexed index k x ≡ true → is_indexed more k x ≡ true
indexed_more index more k x all e =
    indexed_by more k x
    (content_more (lists_in index.contents.items) (lists_in more.contents.items) x.owner k all.0 (content_of index k x e))
    (alias_more (lists_in index.aliases.items) (lists_in more.aliases.items) x.owner (linked_by x.link) k all.1 (alias_of index k x e))

pub all_indexed : (index more : ObjectIndex) (h : HeapContents) → HasMore index more → Indexed index h → Indexed more h
all_indexed index more h all indexed k x found = indexed_more index more k x all (indexed k x found)

-- nothing more is in the lists
pub has_same : (index : ObjectIndex) → HasMore index index
has_same index = (λ j k e. e, λ j k e. e)

pub has_then : (index more most : ObjectIndex) → HasMore index more → HasMore more most → HasMore index most
has_then index more most first second = (λ j k e. second.0 j k (first.0 j k e), λ j k e. second.1 j k (first.1 j k e))

-- an object with the same owner that is linked to the same
pub indexed_alike : (index : ObjectIndex) (k : ℕ) (x y : Object) → x.owner ≡ y.owner → linked_by x.link ≡ linked_by y.link → is_indexed index k x ≡ true → is_indexed index k y ≡ true
indexed_alike index k x y owner link e =
    (λ i. is_content (lists_in index.contents.items) (sym owner i) k && is_alias (lists_in index.aliases.items) (sym owner i) (sym link i) k) ∙ e

-- Changes of the heap

pub indexed_changed : (index : ObjectIndex) (f : ℕ → Object → Object) (h : HeapContents) → ((k : ℕ) (x : Object) → object_at h k ≡ Some x → is_indexed index k (f k x) ≡ true) → Indexed index (change_each f h)
indexed_changed index f h each k y found = go (before_each f h k y found)
  where
    go : (x : Object) × (object_at h k ≡ Some x) × (f k x ≡ y) → is_indexed index k y ≡ true
    go was = ap (is_indexed index k) (sym was.2) ∙ each k was.0 was.1

-- one object is put
pub indexed_put : (index : ObjectIndex) (h : HeapContents) (c : ℕ) (y : Object) → is_indexed index c y ≡ true → Indexed index h → Indexed index (change_one c (λ _. y) h)
indexed_put index h c y own indexed = indexed_changed index (only_at c (λ _. y)) h (λ k x found. go k x found (nat_eq k c) refl)
  where
    go : (k : ℕ) (x : Object) → object_at h k ≡ Some x → (b : Bool) → nat_eq k c ≡ b → is_indexed index k (only_at c (λ _. y) k x) ≡ true
    go k x found true e =
        let n : k ≡ c = grind (arith, common_steps, e) in
        rw e (ap (λ m. is_indexed index m y) n ∙ own)
    go k x found false e = rw e (indexed k x found)

get_or_last : (xs : List Object) (z : Object) (i : ℕ) (w : Object) → slice_get (xs ++ z ∷ []) i ≡ Some w → (slice_get xs i ≡ Some w) ⊎ ((i ≡ length xs) × (w ≡ z))
get_or_last [] z zero w e = inr (refl, cc)
get_or_last [] z (suc i) w e = absurd (cc)
get_or_last (x ∷ xs) z zero w e = inl e
get_or_last (x ∷ xs) z (suc i) w e =
    elim (get_or_last xs z i w e) [ inl before ↦ inl before | inr last ↦ inr (ap suc last.0, last.1) ]

-- one object more
pub indexed_made : (index : ObjectIndex) (h : HeapContents) (z : Object) → is_indexed index (next_number h) z ≡ true → Indexed index h → Indexed index (with_objects h (h.objects ++ z ∷ []))
indexed_made index h z own indexed zero w there = absurd (cc)
indexed_made index h z own indexed (suc i) w there =
    elim (get_or_last h.objects z i w there) [
      | inl before ↦ indexed (suc i) w before
      | inr last ↦ let n : suc i ≡ next_number h = (let place : i ≡ length h.objects = last.0 in omega arith) in (λ m. is_indexed index (n m) (last.1 m)) ∙ own
    ]

-- an object that is released or lost
alias_free : (xs : List (List ℕ)) (o p : Owner) (l : Option ℕ) (k : ℕ) → is_free p ≡ true → is_alias xs o l k ≡ true → is_alias xs p l k ≡ true
alias_free xs o p None k free e = refl
alias_free xs o p (Some r) k free e =
    let rest = second_true (nat_lt r k) (is_free o && has_number (list_at xs r) k) e in
    both_true (nat_lt r k) (is_free p && has_number (list_at xs r) k) (first_true (nat_lt r k) (is_free o && has_number (list_at xs r) k) e)
    (both_true (is_free p) (has_number (list_at xs r) k) free (second_true (is_free o) (has_number (list_at xs r) k) rest))

pub indexed_lost : (index : ObjectIndex) (k : ℕ) (x : Object) → is_indexed index k x ≡ true → is_indexed index k (with_owner owners.Lost x) ≡ true
indexed_lost index k x e = indexed_by index k (with_owner owners.Lost x) refl (alias_free (lists_in index.aliases.items) x.owner owners.Lost (linked_by x.link) k refl (alias_of index k x e))

pub indexed_released : (index : ObjectIndex) (k : ℕ) (x : Object) → is_indexed index k x ≡ true → is_indexed index k (with_owner owners.Released x) ≡ true
indexed_released index k x e = indexed_by index k (with_owner owners.Released x) refl (alias_free (lists_in index.aliases.items) x.owner owners.Released (linked_by x.link) k refl (alias_of index k x e))

pub indexed_given_up : (index : ObjectIndex) (k : ℕ) (x : Object) → is_indexed index k x ≡ true → is_indexed index k (given_up x) ≡ true
indexed_given_up index k x e = go (is_unmet x) refl
  where
    go : (b : Bool) → is_unmet x ≡ b → is_indexed index k (given_up x) ≡ true
    go true unmet = rw unmet (indexed_lost index k x e)
    go false met = rw met (indexed_released index k x e)

-- a frame ends
pub indexed_ended : (index : ObjectIndex) (j : ℕ) (h : HeapContents) → Indexed index h → Indexed index (end_frame j h)
indexed_ended index j h indexed = indexed_changed index (given_up_by_frame j) h (λ k x found. go k x (indexed k x found) (is_frame x.owner j) refl)
  where
    go : (k : ℕ) (x : Object) → is_indexed index k x ≡ true → (b : Bool) → is_frame x.owner j ≡ b → is_indexed index k (given_up_by_frame j k x) ≡ true
    go k x e true own = rw own (indexed_given_up index k x e)
    go k x e false own = rw own e

-- The index of a heap that is looked through

-- the objects up to one more
pub indexed_next : (index more : ObjectIndex) (h : HeapContents) (n : ℕ) → ((k : ℕ) (x : Object) → k ≤ n → object_at h k ≡ Some x → is_indexed index k x ≡ true) → HasMore index more → ((x : Object) → object_at h (n + 1) ≡ Some x → is_indexed more (n + 1) x ≡ true) → (k : ℕ) (x : Object) → k ≤ n + 1 → object_at h k ≡ Some x → is_indexed more k x ≡ true
indexed_next index more h n before all last k x within found = go (nat_le k n) refl
  where
    go : (b : Bool) → nat_le k n ≡ b → is_indexed more k x ≡ true
    go true e =
        let low : k ≤ n = grind (arith, common_steps, e) in
        indexed_more index more k x all (before k x low found)
    go false e =
        let same : n + 1 ≡ k = grind (arith, common_steps, e, within) in
        subst (λ m. is_indexed more m x ≡ true) same (last x (ap (object_at h) same ∙ found))

pub indexed_up_to : (index : ObjectIndex) (h : HeapContents) (n : ℕ) → length h.objects ≤ n → ((k : ℕ) (x : Object) → k ≤ n → object_at h k ≡ Some x → is_indexed index k x ≡ true) → Indexed index h
indexed_up_to index h n all before k x found = before k x (let within = object_within h k x found in omega (arith, within, all)) found

-- What the index says

held_there : (xs : List (List ℕ)) (o : Owner) (w k : ℕ) → is_content xs o k ≡ true → is_held_by o w ≡ true → has_number (list_at xs w) k ≡ true
held_there xs (owners.Field v f) w k e own = let same : v ≡ w = grind (arith, common_steps, own) in ap (λ m. has_number (list_at xs m) k) (sym same) ∙ e
held_there xs (owners.Frame j) w k e own = absurd (cc)
held_there xs owners.Library w k e own = absurd (cc)
held_there xs owners.Released w k e own = absurd (cc)
held_there xs owners.Lost w k e own = absurd (cc)
held_there xs owners.Unowned w k e own = absurd (cc)

-- an object that a field of `w` owns is among its contents
pub content_there : (index : ObjectIndex) (h : HeapContents) (w k : ℕ) (x : Object) → Indexed index h → object_at h k ≡ Some x → is_held_by x.owner w ≡ true → has_number (list_at (lists_in index.contents.items) w) k ≡ true
content_there index h w k x indexed found own = held_there (lists_in index.contents.items) x.owner w k (content_of index k x (indexed k x found)) own

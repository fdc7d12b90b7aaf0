-- Changes of one object, and what they are on the list of objects.
use Rattle.std.proofs.Common.{◌≡◌, ℕ, zero, suc, ◌+◌, ◌-◌, ◌<◌, ◌≤◌, List, [], ◌∷◌, length, Some, None, refl, ap, ◌∙◌, arith}
use Rattle.std.proofs.lemmas.Grind.{common_steps}
use Rattle.std.specs.Prelude.{slice_get, slice_set}
use Rattle.ledger_state.specs.declared.object.Object.{Object}
use Rattle.ledger_state.specs.Contents.{HeapContents}
use Rattle.ledger_state.specs.Heaps.{change_one, changed_from, object_at, follow, link_of, object_in, only_at, root_within, with_objects}

-- no object before the numbers begin is changed
pub unchanged_from : (j n : ℕ) (f : Object → Object) (xs : List Object) → n < j → changed_from j (only_at n f) xs ≡ xs
unchanged_from j n f [] below = refl
unchanged_from j n f (x ∷ xs) below = grind (arith, common_steps, unchanged_from (j + 1) n f xs)

-- an object that is put stands at its place
pub put_from : (j i n : ℕ) (x : Object) (xs : List Object) → n ≡ j + i → changed_from j (only_at n (λ _. x)) xs ≡ slice_set xs i x
put_from j i n x [] at = refl
put_from j zero n x (y ∷ ys) at = grind (arith, common_steps, unchanged_from (j + 1) n (λ _. x) ys)
put_from j (suc i) n x (y ∷ ys) at = grind (arith, common_steps, put_from (j + 1) i n x ys)

-- a place past the end takes nothing
pub set_past : (xs : List Object) (i : ℕ) (x : Object) → length xs ≤ i → slice_set xs i x ≡ xs
set_past [] i x past = refl
set_past (y ∷ ys) zero x past = absurd (omega arith)
set_past (y ∷ ys) (suc i) x past = grind (arith, common_steps, set_past ys i x)

pub put_at_place : (n : ℕ) (x : Object) (xs : List Object) → 1 ≤ n → changed_from 1 (only_at n (λ _. x)) xs ≡ slice_set xs (n - 1) x
put_at_place n x xs above = put_from 1 (n - 1) n x xs (omega arith)

pub put_nowhere : (x : Object) (xs : List Object) → changed_from 1 (only_at 0 (λ _. x)) xs ≡ xs
put_nowhere x xs = unchanged_from 1 0 (λ _. x) xs (omega arith)

pub put_past : (n : ℕ) (x : Object) (xs : List Object) → length xs ≤ n - 1 → 1 ≤ n → changed_from 1 (only_at n (λ _. x)) xs ≡ xs
put_past n x xs past above = put_at_place n x xs above ∙ set_past xs (n - 1) x past

-- a changed object is put

pub changed_put : (j i n : ℕ) (f : Object → Object) (x : Object) (xs : List Object) → n ≡ j + i → slice_get xs i ≡ Some x → changed_from j (only_at n (λ _. f x)) xs ≡ changed_from j (only_at n f) xs
changed_put j i n f x [] at found = refl
changed_put j zero n f x (y ∷ ys) at found = grind (arith, common_steps, unchanged_from (j + 1) n (λ _. f x) ys, unchanged_from (j + 1) n f ys)
changed_put j (suc i) n f x (y ∷ ys) at found = grind (arith, common_steps, changed_put (j + 1) i n f x ys)

pub unchanged_past : (j i n : ℕ) (f : Object → Object) (xs : List Object) → n ≡ j + i → slice_get xs i ≡ None → changed_from j (only_at n f) xs ≡ xs
unchanged_past j i n f [] at missing = refl
unchanged_past j zero n f (y ∷ ys) at missing = grind (arith, common_steps)
unchanged_past j (suc i) n f (y ∷ ys) at missing = grind (arith, common_steps, unchanged_past (j + 1) i n f ys)

-- the object with this number is changed by what is put there
pub changed_object : (f : Object → Object) (x : Object) (xs : List Object) (k : ℕ) → object_in xs k ≡ Some x → changed_from 1 (only_at k (λ _. f x)) xs ≡ changed_from 1 (only_at k f) xs
changed_object f x xs zero found = absurd (cc)
changed_object f x xs (suc i) found = changed_put 1 i (suc i) f x xs (omega arith) found

pub unchanged_object : (f : Object → Object) (xs : List Object) (k : ℕ) → object_in xs k ≡ None → changed_from 1 (only_at k f) xs ≡ xs
unchanged_object f xs zero missing = unchanged_from 1 0 f xs (omega arith)
unchanged_object f xs (suc i) missing = unchanged_past 1 i (suc i) f xs (omega arith) missing

pub change_one_put : (f : Object → Object) (x : Object) (h : HeapContents) (k : ℕ) → object_at h k ≡ Some x → change_one k (λ _. f x) h ≡ change_one k f h
change_one_put f x h k found = ap (with_objects h) (changed_object f x h.objects k found)

pub change_one_missing : (f : Object → Object) (h : HeapContents) (k : ℕ) → object_at h k ≡ None → change_one k f h ≡ h
change_one_missing f h k missing = ap (with_objects h) (unchanged_object f h.objects k missing)

-- ways along links

pub root_without_link : (n : ℕ) (h : HeapContents) (k : ℕ) → link_of (object_at h k) ≡ None → root_within n h k ≡ k
root_without_link zero h k none = refl
root_without_link (suc n) h k none = ap (follow (root_within n h) k) none

pub root_by_link : (n : ℕ) (h : HeapContents) (k j : ℕ) → link_of (object_at h k) ≡ Some j → root_within (suc n) h k ≡ root_within n h j
root_by_link n h k j some = ap (follow (root_within n h) k) some

pub root_step : (n i : ℕ) (h : HeapContents) (k j : ℕ) → i < n → link_of (object_at h k) ≡ Some j → root_within (n - i) h k ≡ root_within (n - (i + 1)) h j
root_step n i h k j below some =
    let one_more : n - i ≡ suc (n - (i + 1)) = omega arith in
    ap (λ (m : ℕ). root_within m h k) one_more ∙ root_by_link (n - (i + 1)) h k j some

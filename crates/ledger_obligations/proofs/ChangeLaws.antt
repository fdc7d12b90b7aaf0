-- Changes of a heap, object by object.
use Rattle.std.proofs.lemmas.Grind.{common_steps}
use Rattle.std.proofs.Common.{◌≡◌, ◌∙◌, ap, sym, refl, subst, ℕ, zero, suc, ◌+◌, ◌<◌, true, false, nat_eq, Some, None, List, [], ◌∷◌, ◌++◌, take, drop, length, slice_get, get_or, set, arith}
use Rattle.std.proofs.lemmas.Option.{slice_get_read}
use Rattle.ledger_state.specs.declared.object.Object.{Object}
use Rattle.ledger_state.specs.Contents.{HeapContents}
use Rattle.ledger_state.specs.Heaps.{change_one, changed_from, object_at, only_at, with_objects}

-- one object more is changed
pub changed_further : (f : ℕ → Object → Object) (k i : ℕ) (xs : List Object) (x : Object) → slice_get xs i ≡ Some x → set (changed_from k f (take i xs) ++ drop i xs) i (f (k + i) x) ≡ changed_from k f (take (suc i) xs) ++ drop (suc i) xs
changed_further f k i [] x e = absurd (grind (arith, common_steps, e))
changed_further f k zero (y ∷ ys) x e = grind (arith, common_steps, e)
changed_further f k (suc i) (y ∷ ys) x e =
    let n : k + suc i ≡ k + 1 + i = omega arith in
    rw n (ap (λ zs. f k y ∷ zs) (changed_further f (k + 1) i ys x e))

-- what is left to change stands as it was
pub changed_before : (f : ℕ → Object → Object) (k i : ℕ) (xs : List Object) → slice_get (changed_from k f (take i xs) ++ drop i xs) i ≡ slice_get xs i
changed_before f k i [] = grind (arith, common_steps)
changed_before f k zero (y ∷ ys) = refl
changed_before f k (suc i) (y ∷ ys) = changed_before f (k + 1) i ys

pub changed_length : (f : ℕ → Object → Object) (k i : ℕ) (xs : List Object) → length (changed_from k f (take i xs) ++ drop i xs) ≡ length xs
changed_length f k i [] = grind (arith, common_steps)
changed_length f k zero (y ∷ ys) = refl
changed_length f k (suc i) (y ∷ ys) = ap suc (changed_length f (k + 1) i ys)

-- a turn of a loop over the objects
pub changed_once : (f : ℕ → Object → Object) (old now : List Object) (i : ℕ) (x y : Object) → now ≡ changed_from 1 f (take i old) ++ drop i old → i < length old → x ≡ get_or now i x → y ≡ f (i + 1) x → set now i y ≡ changed_from 1 f (take (i + 1) old) ++ drop (i + 1) old
changed_once f old now i x y so_far within read new =
    let count : length now ≡ length old = ap length so_far ∙ changed_length f 1 i old in
    let here : slice_get now i ≡ Some x = slice_get_read now (length old) i x (sym count) within read in
    let there : slice_get old i ≡ Some x = sym (changed_before f 1 i old) ∙ ap (λ zs. slice_get zs i) (sym so_far) ∙ here in
    let more : 1 + i ≡ i + 1 = omega arith in
    let next : suc i ≡ i + 1 = omega arith in
    let step : set (changed_from 1 f (take i old) ++ drop i old) i (f (i + 1) x) ≡ changed_from 1 f (take (suc i) old) ++ drop (suc i) old =
    subst (λ n. set (changed_from 1 f (take i old) ++ drop i old) i (f n x) ≡ changed_from 1 f (take (suc i) old) ++ drop (suc i) old) more (changed_further f 1 i old x there) in
    let all : set (changed_from 1 f (take i old) ++ drop i old) i (f (i + 1) x) ≡ changed_from 1 f (take (i + 1) old) ++ drop (i + 1) old =
    subst (λ n. set (changed_from 1 f (take i old) ++ drop i old) i (f (i + 1) x) ≡ changed_from 1 f (take n old) ++ drop n old) next step in
    ap (λ zs. set zs i y) so_far ∙ ap (λ z. set (changed_from 1 f (take i old) ++ drop i old) i z) new ∙ all

later_number : (j k : ℕ) → k < j → nat_eq j k ≡ false
later_number j k h = grind (arith, common_steps, h)

-- the one with an earlier number is not among them
pub changed_beyond : (f : Object → Object) (j k : ℕ) (xs : List Object) → k < j → changed_from j (only_at k f) xs ≡ xs
changed_beyond f j k [] h = refl
changed_beyond f j k (x ∷ xs) h =
    let later : k < j + 1 = omega arith in
    rw (later_number j k h) (ap (λ zs. x ∷ zs) (changed_beyond f (j + 1) k xs later))

same_number : (j : ℕ) → nat_eq j (j + 0) ≡ true
same_number j = grind (arith, common_steps)

-- the one that is changed
pub changed_only : (f : Object → Object) (j i : ℕ) (xs : List Object) (x : Object) → slice_get xs i ≡ Some x → changed_from j (only_at (j + i) f) xs ≡ set xs i (f x)
changed_only f j i [] x e = absurd (grind (arith, common_steps, e))
changed_only f j zero (y ∷ ys) x e =
    let after : j + 0 < j + 1 = omega arith in
    let same : y ≡ x = cc e in
    rw (same_number j) (rw (changed_beyond f (j + 1) (j + 0) ys after) (ap (λ z. f z ∷ ys) same))
changed_only f j (suc i) (y ∷ ys) x e =
    let n : j + suc i ≡ j + 1 + i = omega arith in
    let other : nat_eq j (j + 1 + i) ≡ false = grind (arith, common_steps) in
    rw n (rw other (ap (λ zs. y ∷ zs) (changed_only f (j + 1) i ys x e)))

-- there is none to change
pub changed_none : (f : Object → Object) (j i : ℕ) (xs : List Object) → slice_get xs i ≡ None → changed_from j (only_at (j + i) f) xs ≡ xs
changed_none f j i [] e = refl
changed_none f j zero (y ∷ ys) e = absurd (grind (arith, common_steps, e))
changed_none f j (suc i) (y ∷ ys) e =
    let n : j + suc i ≡ j + 1 + i = omega arith in
    let other : nat_eq j (j + 1 + i) ≡ false = grind (arith, common_steps) in
    rw n (rw other (ap (λ zs. y ∷ zs) (changed_none f (j + 1) i ys e)))

-- a change of one object is a new object in its place
pub change_as : (f : Object → Object) (k : ℕ) (h : HeapContents) (x : Object) → object_at h k ≡ Some x → change_one k (λ z. f x) h ≡ change_one k f h
change_as f zero h x e = absurd (grind (arith, common_steps, e))
change_as f (suc k) h x e =
    let n : suc k ≡ 1 + k = omega arith in
    rw n (ap (with_objects h) (changed_only (λ z. f x) 1 k h.objects x e ∙ sym (changed_only f 1 k h.objects x e)))

pub change_absent : (f : Object → Object) (k : ℕ) (h : HeapContents) → object_at h k ≡ None → h ≡ change_one k f h
change_absent f zero h e = let before : 0 < 1 = omega arith in ap (with_objects h) (sym (changed_beyond f 1 0 h.objects before))
change_absent f (suc k) h e =
    let n : suc k ≡ 1 + k = omega arith in
    rw n (ap (with_objects h) (sym (changed_none f 1 k h.objects e)))

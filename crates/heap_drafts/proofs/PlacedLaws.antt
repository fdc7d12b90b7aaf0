-- What stands at a number when objects are put in their places.
use Rattle.std.proofs.Common.{◌≡◌, ◌∙◌, ap, sym, refl, ℕ, zero, suc, ◌+◌, ◌<◌, ◌≤◌, Bool, true, false, ◌||◌, nat_eq, Option, Some, None, option_map, List, [], ◌∷◌, ◌++◌, length, take, arith}
use Rattle.std.proofs.lemmas.Grind.{common_steps}
use Rattle.std.specs.Prelude.{nat_le, slice_get, if◌then◌else◌}
use Rattle.ledger_state.specs.declared.object.Object.{Object}
use Rattle.ledger_state.specs.Contents.{HeapContents}
use Rattle.ledger_state.specs.Heaps.{change_each, changed_from, object_at, only_at, with_objects}
use Rattle.heap_drafts.specs.declared.saved.SavedObject.{SavedObject}
use Rattle.heap_drafts.specs.Drafts.{is_saved, put_back, put_one, shortened}

-- Changes of each object

get_changed : (f : ℕ → Object → Object) (j i : ℕ) (xs : List Object) → slice_get (changed_from j f xs) i ≡ option_map (f (j + i)) (slice_get xs i)
get_changed f j i [] = refl
get_changed f j zero (x ∷ xs) = let plus : j ≡ j + 0 = omega arith in ap (λ m. Some (f m x)) plus
get_changed f j (suc i) (x ∷ xs) =
    let n : j + 1 + i ≡ j + suc i = omega arith in
    get_changed f (j + 1) i xs ∙ ap (λ m. option_map (f m) (slice_get xs i)) n

pub object_each : (f : ℕ → Object → Object) (h : HeapContents) (k : ℕ) → object_at (change_each f h) k ≡ option_map (f k) (object_at h k)
object_each f h zero = refl
object_each f h (suc i) =
    let n : 1 + i ≡ suc i = omega arith in
    get_changed f 1 i h.objects ∙ ap (λ m. option_map (f m) (slice_get h.objects i)) n

pub length_changed : (f : ℕ → Object → Object) (j : ℕ) (xs : List Object) → length (changed_from j f xs) ≡ length xs
length_changed f j [] = refl
length_changed f j (x ∷ xs) = ap suc (length_changed f (j + 1) xs)

-- Heaps that have the same objects

same_lists : (xs ys : List Object) → ((i : ℕ) → slice_get xs i ≡ slice_get ys i) → xs ≡ ys
same_lists [] [] same = refl
same_lists [] (y ∷ ys) same = let none : None ≡ Some y = same 0 in absurd (cc)
same_lists (x ∷ xs) [] same = let none : Some x ≡ None = same 0 in absurd (cc)
same_lists (x ∷ xs) (y ∷ ys) same =
    let both : Some x ≡ Some y = same 0 in
    let first : x ≡ y = cc in
    let rest : xs ≡ ys = same_lists xs ys (λ i. same (suc i)) in
    λ i. first i ∷ rest i

pub same_heaps : (h g : HeapContents) → ((k : ℕ) → object_at h k ≡ object_at g k) → h.fields ≡ g.fields → h ≡ g
same_heaps h g same fields =
    let objects : h.objects ≡ g.objects = same_lists h.objects g.objects (λ i. same (suc i)) in
    λ i. record { objects = objects i; fields = fields i }

-- Objects in their places

turned_number : (a b : ℕ) (t : Bool) → nat_eq a b ≡ t → nat_eq b a ≡ t
turned_number a b true e = grind (arith, common_steps, e)
turned_number a b false e = grind (arith, common_steps, e)

-- what they leave of what stood at `k`
abbrev pub placed : List SavedObject → ℕ → Option Object → Option Object
placed [] k o = o
placed (b ∷ bs) k o = option_map (only_at b.number (λ _. b.object) k) (placed bs k o)

pub placed_at : (bs : List SavedObject) (h : HeapContents) (k : ℕ) → object_at (put_back bs h) k ≡ placed bs k (object_at h k)
placed_at [] h k = refl
placed_at (b ∷ bs) h k =
    object_each (only_at b.number (λ _. b.object)) (put_back bs h) k
    ∙ ap (option_map (only_at b.number (λ _. b.object) k)) (placed_at bs h k)

pub placed_fields : (bs : List SavedObject) (h : HeapContents) → (put_back bs h).fields ≡ h.fields
placed_fields [] h = refl
placed_fields (b ∷ bs) h = placed_fields bs h

pub placed_length : (bs : List SavedObject) (h : HeapContents) → length (put_back bs h).objects ≡ length h.objects
placed_length [] h = refl
placed_length (b ∷ bs) h = length_changed (only_at b.number (λ _. b.object)) 1 (put_back bs h).objects ∙ placed_length bs h

pub placed_none : (bs : List SavedObject) (k : ℕ) → placed bs k None ≡ None
placed_none [] k = refl
placed_none (b ∷ bs) k = ap (option_map (only_at b.number (λ _. b.object) k)) (placed_none bs k)

-- one object is put over what stands there
over : (b : SavedObject) (k : ℕ) (o : Option Object) → nat_eq b.number k ≡ false → option_map (only_at b.number (λ _. b.object) k) o ≡ o
over b k None apart = refl
over b k (Some x) apart =
    let turned : nat_eq k b.number ≡ false = turned_number b.number k false apart in
    ap (λ t. Some (if t then b.object else x)) turned

-- none of them has the number
pub placed_other : (bs : List SavedObject) (k : ℕ) (o : Option Object) → is_saved bs k ≡ false → placed bs k o ≡ o
placed_other [] k o none = refl
placed_other (b ∷ bs) k o none = go (nat_eq b.number k) refl none (placed_other bs k o)
  where
    go : (t : Bool) → nat_eq b.number k ≡ t → (t || is_saved bs k) ≡ false → (is_saved bs k ≡ false → placed bs k o ≡ o) → placed (b ∷ bs) k o ≡ o
    go true e any further = absurd (cc)
    go false e any further = over b k (placed bs k o) e ∙ further any

-- those of them that have the number `k` are `z`
abbrev pub AllAre : ℕ → Object → List SavedObject → Type 0
AllAre k z [] = Unit {0}
AllAre k z (b ∷ bs) = (nat_eq b.number k ≡ true → b.object ≡ z) × AllAre k z bs

put_over : (b : SavedObject) (k : ℕ) (z x : Object) → nat_eq b.number k ≡ true → b.object ≡ z → option_map (only_at b.number (λ _. b.object) k) (Some x) ≡ Some z
put_over b k z x same is =
    let turned : nat_eq k b.number ≡ true = turned_number b.number k true same in
    ap (λ t. Some (if t then b.object else x)) turned ∙ ap Some is

-- then one of them leaves it
pub placed_found : (bs : List SavedObject) (k : ℕ) (x z : Object) → AllAre k z bs → is_saved bs k ≡ true → placed bs k (Some x) ≡ Some z
placed_found [] k x z are found = absurd (cc)
placed_found (b ∷ bs) k x z are found = go (nat_eq b.number k) refl found (is_saved bs k) refl (placed_found bs k x z are.1)
  where
    go : (t : Bool) → nat_eq b.number k ≡ t → (t || is_saved bs k) ≡ true → (u : Bool) → is_saved bs k ≡ u → (is_saved bs k ≡ true → placed bs k (Some x) ≡ Some z) → placed (b ∷ bs) k (Some x) ≡ Some z
    go true e any true rest further =
        ap (option_map (only_at b.number (λ _. b.object) k)) (further rest) ∙ put_over b k z z e (are.0 e)
    go true e any false rest further =
        ap (option_map (only_at b.number (λ _. b.object) k)) (placed_other bs k (Some x) rest) ∙ put_over b k z x e (are.0 e)
    go false e any u rest further =
        over b k (placed bs k (Some x)) e ∙ further any

-- Lists that are joined

pub back_joined : (bs cs : List SavedObject) (h : HeapContents) → put_back (bs ++ cs) h ≡ put_back bs (put_back cs h)
back_joined [] cs h = refl
back_joined (b ∷ bs) cs h = ap (put_one b) (back_joined bs cs h)

or_assoc : (a b c : Bool) → (a || (b || c)) ≡ ((a || b) || c)
or_assoc true b c = refl
or_assoc false b c = refl

pub saved_joined : (bs cs : List SavedObject) (k : ℕ) → is_saved (bs ++ cs) k ≡ (is_saved bs k || is_saved cs k)
saved_joined [] cs k = refl
saved_joined (b ∷ bs) cs k = ap (λ t. nat_eq b.number k || t) (saved_joined bs cs k) ∙ or_assoc (nat_eq b.number k) (is_saved bs k) (is_saved cs k)

-- Fewer objects

abbrev pub within : Bool → Option Object → Option Object
within true o = o
within false o = None

get_taken : (n i : ℕ) (xs : List Object) → slice_get (take n xs) i ≡ within (nat_le (suc i) n) (slice_get xs i)
get_taken zero i xs = let past : nat_le (suc i) 0 ≡ false = grind (arith, common_steps) in ap (λ t. within t (slice_get xs i)) (sym past)
get_taken (suc n) i [] = go (nat_le (suc i) (suc n))
  where
    go : (t : Bool) → None ≡ within t None
    go true = refl
    go false = refl
get_taken (suc n) zero (x ∷ xs) = let first : nat_le 1 (suc n) ≡ true = grind (arith, common_steps) in ap (λ t. within t (Some x)) (sym first)
get_taken (suc n) (suc i) (x ∷ xs) =
    get_taken n i xs ∙ ap (λ t. within t (slice_get xs i)) (go (nat_le (suc i) n) refl)
  where
    go : (t : Bool) → nat_le (suc i) n ≡ t → nat_le (suc i) n ≡ nat_le (suc (suc i)) (suc n)
    go true e = let further : nat_le (suc (suc i)) (suc n) ≡ true = grind (arith, common_steps, e) in e ∙ sym further
    go false e = let further : nat_le (suc (suc i)) (suc n) ≡ false = grind (arith, common_steps, e) in e ∙ sym further

pub object_short : (n k : ℕ) (h : HeapContents) → object_at (shortened n h) k ≡ within (nat_le k n) (object_at h k)
object_short n zero h = go (nat_le 0 n)
  where
    go : (t : Bool) → None ≡ within t None
    go true = refl
    go false = refl
object_short n (suc i) h = get_taken n i h.objects

take_all : (xs : List Object) → take (length xs) xs ≡ xs
take_all [] = refl
take_all (x ∷ xs) = ap (λ ys. x ∷ ys) (take_all xs)

pub short_all : (h : HeapContents) → shortened (length h.objects) h ≡ h
short_all h = ap (with_objects h) (take_all h.objects)

get_within : (xs : List Object) (i : ℕ) (x : Object) → slice_get xs i ≡ Some x → i < length xs
get_within [] i x e = absurd (cc)
get_within (y ∷ ys) zero x e = omega arith
get_within (y ∷ ys) (suc i) x e = let further = get_within ys i x e in omega (arith, further)

-- the objects have numbers up to their count
pub object_within : (h : HeapContents) (k : ℕ) (x : Object) → object_at h k ≡ Some x → k ≤ length h.objects
object_within h zero x e = absurd (cc)
object_within h (suc i) x e = let within = get_within h.objects i x e in omega (arith, within)

get_there : (xs : List Object) (i : ℕ) → i < length xs → (x : Object) × (slice_get xs i ≡ Some x)
get_there [] i e = absurd (omega arith)
get_there (y ∷ ys) zero e = (y, refl)
get_there (y ∷ ys) (suc i) e = get_there ys i (omega arith)

-- an object of one heap has a like one in a heap that is no shorter
pub object_there : (h g : HeapContents) (k : ℕ) (x : Object) → object_at h k ≡ Some x → length h.objects ≤ length g.objects → (y : Object) × (object_at g k ≡ Some y)
object_there h g zero x e longer = absurd (cc)
object_there h g (suc i) x e longer = get_there g.objects i (let low = get_within h.objects i x e in omega (arith, low, longer))

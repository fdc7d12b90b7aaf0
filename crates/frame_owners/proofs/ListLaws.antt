-- Lists of objects that frames may own.
use Rattle.std.proofs.Common.{◌≡◌, ◌∙◌, ap, sym, refl, subst, ℕ, zero, suc, ◌+◌, ◌<◌, ◌≤◌, Bool, true, false, ◌||◌, nat_eq, Some, List, [], ◌∷◌, ◌++◌, length, get_or, set, arith}
use Rattle.std.proofs.lemmas.Grind.{common_steps}
use Rattle.std.proofs.lemmas.List.{get_or-map, map-set}
use Rattle.std.specs.Prelude.{Vec, nat_le, slice_get}
use Rattle.ledger_state.specs.declared.entry.Owner.{Owner}
use Rattle.ledger_state.specs.declared.entry.Owner.TheVariants as owners
use Rattle.ledger_state.specs.declared.object.Object.{Object}
use Rattle.ledger_state.specs.Contents.{HeapContents}
use Rattle.ledger_state.specs.Heaps.{has_number, object_at}
use Rattle.frame_owners.specs.FrameOwners.{HasAll, Listed, is_listed, list_at, lists_in}

or_true : (a : Bool) → (a || true) ≡ true
or_true true = refl
or_true false = refl

pub number_itself : (k : ℕ) → nat_eq k k ≡ true
number_itself k = grind (arith, common_steps)

-- the number that is put at the end
pub has_last : (xs : List ℕ) (k : ℕ) → has_number (xs ++ k ∷ []) k ≡ true
has_last [] k = rw (number_itself k) refl
has_last (x ∷ xs) k = ap (λ b. nat_eq x k || b) (has_last xs k) ∙ or_true (nat_eq x k)

pub has_still : (xs : List ℕ) (k m : ℕ) → has_number xs m ≡ true → has_number (xs ++ k ∷ []) m ≡ true
has_still [] k m h = absurd (cc)
has_still (x ∷ xs) k m h = go (nat_eq x m) refl h (has_still xs k m)
  where
    go : (b : Bool) → nat_eq x m ≡ b → (b || has_number xs m) ≡ true → (has_number xs m ≡ true → has_number (xs ++ k ∷ []) m ≡ true) → (b || has_number (xs ++ k ∷ []) m) ≡ true
    go true e any further = refl
    go false e any further = further any

pub more_at : (xs : List (List ℕ)) (i k m n : ℕ) → has_number (get_or xs m []) n ≡ true → has_number (get_or (set xs i (get_or xs i [] ++ k ∷ [])) m []) n ≡ true
more_at [] i k m n h = h
more_at (x ∷ xs) zero k zero n h = has_still x k n h
more_at (x ∷ xs) zero k (suc m) n h = h
more_at (x ∷ xs) (suc i) k zero n h = h
more_at (x ∷ xs) (suc i) k (suc m) n h = more_at xs i k m n h

pub there_at : (xs : List (List ℕ)) (i k : ℕ) → i < length xs → has_number (get_or (set xs i (get_or xs i [] ++ k ∷ [])) i []) k ≡ true
there_at [] i k within = absurd (omega arith)
there_at (x ∷ xs) zero k within = has_last x k
there_at (x ∷ xs) (suc i) k within = there_at xs i k (omega arith)

-- one list has a number more
pub lists_put : {A : Type 0} (old new : List (Vec ℕ A)) (row grown : Vec ℕ A) (place number : ℕ) → place < length old → row ≡ get_or old place row → grown.items ≡ row.items ++ number ∷ [] → new ≡ set old place grown
    → lists_in new ≡ set (lists_in old) place (get_or (lists_in old) place [] ++ number ∷ [])
lists_put {A} old new row grown place number within is pushed put =
    let items : Vec ℕ A → List ℕ = λ v. v.items in
    ap (λ rows. lists_in rows) put ∙ map-set items old place grown
    ∙ ap (λ r. set (lists_in old) place r) (pushed ∙ ap (λ r. r ++ number ∷ []) (ap items is ∙ sym (get_or-map items old place row [] within)))

pub all_put : (lists more : List (List ℕ)) (place number : ℕ) → more ≡ set lists place (get_or lists place [] ++ number ∷ []) → HasAll lists more
all_put lists more place number e zero k h = h
all_put lists more place number e (suc j) k h = ap (λ xs. has_number (get_or xs j []) k) e ∙ more_at lists place number j k h

pub last_put : (lists more : List (List ℕ)) (place number : ℕ) → place < length lists → more ≡ set lists place (get_or lists place [] ++ number ∷ []) → has_number (list_at more (place + 1)) number ≡ true
last_put lists more place number within e =
    let n : place + 1 ≡ suc place = omega arith in
    ap (λ j. has_number (list_at more j) number) n ∙ ap (λ xs. has_number (get_or xs place []) number) e ∙ there_at lists place number within

-- what is listed stays listed
pub listed_more : (lists more : List (List ℕ)) (o : Owner) (k : ℕ) → HasAll lists more → is_listed lists o k ≡ true → is_listed more o k ≡ true
listed_more lists more (owners.Frame j) k all e = all j k e
listed_more lists more (owners.Field w f) k all e = refl
listed_more lists more owners.Library k all e = refl
listed_more lists more owners.Released k all e = refl
listed_more lists more owners.Lost k all e = refl
listed_more lists more owners.Unowned k all e = refl

-- a list that is put in its own place
same_at : (xs : List (List ℕ)) (i m : ℕ) → get_or (set xs i (get_or xs i [])) m [] ≡ get_or xs m []
same_at [] i m = refl
same_at (x ∷ xs) zero zero = refl
same_at (x ∷ xs) zero (suc m) = refl
same_at (x ∷ xs) (suc i) zero = refl
same_at (x ∷ xs) (suc i) (suc m) = same_at xs i m

pub lists_stay : {A : Type 0} (old new : List (Vec ℕ A)) (row grown : Vec ℕ A) (place : ℕ) → place < length old → row ≡ get_or old place row → grown.items ≡ row.items → new ≡ set old place grown → HasAll (lists_in old) (lists_in new)
lists_stay {A} old new row grown place within is pushed put zero k h = h
lists_stay {A} old new row grown place within is pushed put (suc j) k h =
    let items : Vec ℕ A → List ℕ = λ v. v.items in
    let all : lists_in new ≡ set (lists_in old) place (get_or (lists_in old) place []) =
    ap (λ rows. lists_in rows) put ∙ map-set items old place grown
    ∙ ap (λ r. set (lists_in old) place r) (pushed ∙ ap items is ∙ sym (get_or-map items old place row [] within)) in
    ap (λ xs. has_number (get_or xs j []) k) all ∙ ap (λ ys. has_number ys k) (same_at (lists_in old) place j) ∙ h

-- the lists of the objects up to one more
pub listed_next : (lists more : List (List ℕ)) (h : HeapContents) (n : ℕ) → ((k : ℕ) (x : Object) → k ≤ n → object_at h k ≡ Some x → is_listed lists x.owner k ≡ true) → HasAll lists more → ((x : Object) → object_at h (n + 1) ≡ Some x → is_listed more x.owner (n + 1) ≡ true) → (k : ℕ) (x : Object) → k ≤ n + 1 → object_at h k ≡ Some x → is_listed more x.owner k ≡ true
listed_next lists more h n before all last k x within found = go (nat_le k n) refl
  where
    go : (b : Bool) → nat_le k n ≡ b → is_listed more x.owner k ≡ true
    go true e =
        let low : k ≤ n = grind (arith, common_steps, e) in
        listed_more lists more x.owner k all (before k x low found)
    go false e =
        let same : n + 1 ≡ k = grind (arith, common_steps, e, within) in
        subst (λ m. is_listed more x.owner m ≡ true) same (last x (ap (object_at h) same ∙ found))

get_within : (xs : List Object) (i : ℕ) (x : Object) → slice_get xs i ≡ Some x → i < length xs
get_within [] i x e = absurd (cc)
get_within (y ∷ ys) zero x e = omega arith
get_within (y ∷ ys) (suc i) x e = let further = get_within ys i x e in omega (arith, further)

-- the objects have numbers up to their count
pub object_within : (h : HeapContents) (k : ℕ) (x : Object) → object_at h k ≡ Some x → k ≤ length h.objects
object_within h zero x e = absurd (cc)
object_within h (suc i) x e = let within = get_within h.objects i x e in omega (arith, within)

pub listed_all : (lists : List (List ℕ)) (h : HeapContents) (n : ℕ) → length h.objects ≤ n → ((k : ℕ) (x : Object) → k ≤ n → object_at h k ≡ Some x → is_listed lists x.owner k ≡ true) → Listed lists h
listed_all lists h n all before k x found = before k x (let within = object_within h k x found in omega (arith, within, all)) found

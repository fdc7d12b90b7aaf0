-- The members of each class by their numbers: a class lists those that belong to it, and each member is listed by its class.
use Rattle.std.proofs.Common.{◌≡◌, ◌∙◌, sym, ap, refl, subst, arith, ℕ, zero, suc, ◌+◌, ◌<◌, Bool, true, false, cond, Option, Some, None, List, [], ◌∷◌, length, get_or, map}
use Rattle.std.specs.Prelude.{slice_get, nat_eq, Contains}
use Rattle.std.specs.List.{All, AllZip}
use Rattle.std.specs.Option.{IsSomeAnd, option_map}
use Rattle.std.proofs.lemmas.Bool.{eq-eqb, eqb-true}
use Rattle.std.proofs.lemmas.List.{get_or-map, length-map}
use Rattle.std.proofs.lemmas.List.Elements.{All-cons, All-head, All-nil, All-tail}
use Rattle.std.proofs.lemmas.Option.{same_Some, slice_get-map}
use Rattle.program_model.specs.declared.kinds.ClassId.{ClassId}
use Rattle.class_table.specs.Numbers.{numbers_owned, numbers_where}

-- ---- numbers of those that pass a test

all_by : (P : ℕ → Type 0) (b : Bool) (first : ℕ) (ns : List ℕ) → (b ≡ true → P first) → All P ns → All P (cond b (first ∷ ns) ns)
all_by P true first ns own rest = All-cons P first ns (own refl) rest
all_by P false first ns own rest = rest

-- what holds of the number of each that passes
pub all_numbers : {X : Type 0} (test : X → Bool) (P : ℕ → Type 0) (first : ℕ) (xs : List X) → ((i : ℕ) (x : X) → slice_get xs i ≡ Some x → test x ≡ true → P (first + i)) → All P (numbers_where test first xs)
all_numbers test P first [] h = All-nil P
all_numbers test P first (x ∷ xs) h =
    let start : first + 0 ≡ first = omega arith in
    all_by P (test x) first (numbers_where test (first + 1) xs) (λ passes. subst P start (h 0 x refl passes))
    (all_numbers test P (first + 1) xs (λ i y at passes. (let same : first + suc i ≡ first + 1 + i = omega arith in subst P same (h (suc i) y at passes))))

here : (b : Bool) (n : ℕ) (ns : List ℕ) → b ≡ true → Contains (cond b (n ∷ ns) ns) n
here true n ns is = (0, (omega arith), refl)
here false n ns is = cc

later : (b : Bool) (n m : ℕ) (ns : List ℕ) → Contains ns m → Contains (cond b (n ∷ ns) ns) m
later true n m ns has = (suc has.0, (let within = has.1 in omega arith), has.2)
later false n m ns has = has

-- each that passes is among them
pub has_number : {X : Type 0} (test : X → Bool) (first : ℕ) (xs : List X) (i : ℕ) (x : X) → slice_get xs i ≡ Some x → test x ≡ true → Contains (numbers_where test first xs) (first + i)
has_number test first [] i x at passes = let never : None ≡ Some x = at in cc
has_number test first (y ∷ ys) zero x at passes =
    let start : first ≡ first + 0 = omega arith in
    let C : ℕ → Type 0 = Contains (cond (test y) (first ∷ numbers_where test (first + 1) ys) (numbers_where test (first + 1) ys)) in
    subst C start (here (test y) first (numbers_where test (first + 1) ys) (ap test (same_Some y x at) ∙ passes))
has_number test first (y ∷ ys) (suc i) x at passes =
    let same : first + 1 + i ≡ first + suc i = omega arith in
    let C : ℕ → Type 0 = Contains (cond (test y) (first ∷ numbers_where test (first + 1) ys) (numbers_where test (first + 1) ys)) in
    subst C same (later (test y) first (first + 1 + i) (numbers_where test (first + 1) ys) (has_number test (first + 1) ys i x at passes))

-- ---- members that are known by their classes

same_class : (o c : ClassId) → nat_eq o.0 c.0 ≡ true → o ≡ c
same_class o c is = let number = eqb-true o.0 c.0 is in (λ i. record { 0 = number i })

owner_at : {M : Type 0} (owner : M → ClassId) (ms : List M) (n : ℕ) (o : ClassId) → slice_get (map owner ms) n ≡ Some o → IsSomeAnd (slice_get ms n) (λ x. owner x ≡ o)
owner_at {M} owner ms n o at = by (slice_get ms n) (sym (slice_get-map owner ms n) ∙ at)
  where
    by : (found : Option M) → option_map owner found ≡ Some o → IsSomeAnd found (λ x. owner x ≡ o)
    by (Some x) is = same_Some (owner x) o is
    by None is = let never : None ≡ Some o = is in cc

-- the numbers of a class are those of members that belong to it
pub numbers_belong : {M : Type 0} (owner : M → ClassId) (ms : List M) (owners : List ClassId) (c : ClassId) → map owner ms ≡ owners → All (λ n. IsSomeAnd (slice_get ms n) (λ x. owner x ≡ c)) (numbers_owned c.0 owners)
numbers_belong {M} owner ms owners c same =
    let P : ℕ → Type 0 = λ n. IsSomeAnd (slice_get ms n) (λ x. owner x ≡ c) in
    all_numbers (λ (o : ClassId). nat_eq o.0 c.0) P 0 owners
    (λ i o at passes. (
    let number : i ≡ 0 + i = omega arith in
    let Q : ClassId → Type 0 = λ d. IsSomeAnd (slice_get ms i) (λ x. owner x ≡ d) in
    subst P number (subst Q (same_class o c passes) (owner_at owner ms i o (ap (λ os. slice_get os i) same ∙ at)))))

-- the number of a member is among those of its class
pub number_listed : {M : Type 0} (owner : M → ClassId) (ms : List M) (owners : List ClassId) (n : ℕ) (x : M) → map owner ms ≡ owners → slice_get ms n ≡ Some x → Contains (numbers_owned (owner x).0 owners) n
number_listed owner ms owners n x same at =
    let number : 0 + n ≡ n = omega arith in
    let C : ℕ → Type 0 = Contains (numbers_owned (owner x).0 owners) in
    let found = ap (λ os. slice_get os n) (sym same) ∙ slice_get-map owner ms n ∙ ap (option_map owner) at in
    subst C number (has_number (λ (o : ClassId). nat_eq o.0 (owner x).0) 0 owners n (owner x) found (eq-eqb (owner x).0 (owner x).0 refl))

-- ---- through the numbers of members

-- what holds of all numbers holds of all that have them
pub all_unmapped : {M : Type 0} (v : M → ℕ) (P : ℕ → Type 0) (ms : List M) (ns : List ℕ) → map v ms ≡ ns → All P ns → All (λ m. P (v m)) ms
all_unmapped v P ms ns same all k d within =
    let long = length-map ms v in
    let A : List ℕ → Type 0 = All P in
    subst P (get_or-map v ms k d (v d) within) (subst A (sym same) all k (v d) (omega arith))

pub contains_unmapped : {M : Type 0} (v : M → ℕ) (ms : List M) (ns : List ℕ) (m : M) → ((x y : M) → v x ≡ v y → x ≡ y) → map v ms ≡ ns → Contains ns (v m) → Contains ms m
contains_unmapped {M} v ms ns m injective same has =
    let C : List ℕ → Type 0 = λ xs. Contains xs (v m) in
    let found = subst C (sym same) has in
    let long = length-map ms v in
    let within : found.0 < length ms = let below = found.1 in omega arith in
    (found.0, within, injective (get_or ms found.0 m) m (sym (get_or-map v ms found.0 m (v m) within) ∙ found.2))

-- ---- lists of one part for each part

-- what holds of the one part and ties the other to it
pub record IsTied {A B : Type 0} (P : A → Type 0) (R : A → B → Type 0) (y : B) : Type 0 where
  pub part : A
  pub holds : P part
  pub tied : R part y

pub tied_at : {A B : Type 0} (P : A → Type 0) (R : A → B → Type 0) (xs : List A) (ys : List B) (n : ℕ) (y : B) → All P xs → AllZip R xs ys → slice_get ys n ≡ Some y → IsTied P R y
tied_at P R [] [] n y all zip at = let never : None ≡ Some y = at in cc
tied_at P R [] (z ∷ zs) n y all zip at = absurd zip
tied_at P R (x ∷ xs) [] n y all zip at = absurd zip
tied_at P R (x ∷ xs) (z ∷ zs) zero y all zip at = record { part = x; holds = All-head P x xs all; tied = subst (R x) (same_Some z y at) zip.0 }
tied_at P R (x ∷ xs) (z ∷ zs) (suc n) y all zip at = tied_at P R xs zs n y (All-tail P x xs all) zip.1 at

pub zip_owners : {A B : Type 0} (R : A → B → Type 0) (f : A → ClassId) (g : B → ClassId) (xs : List A) (ys : List B) → ((x : A) (y : B) → R x y → g y ≡ f x) → AllZip R xs ys → map g ys ≡ map f xs
zip_owners R f g [] [] same zip = refl
zip_owners R f g [] (y ∷ ys) same zip = absurd zip
zip_owners R f g (x ∷ xs) [] same zip = absurd zip
zip_owners R f g (x ∷ xs) (y ∷ ys) same zip = (λ i. same x y zip.0 i ∷ zip_owners R f g xs ys same zip.1 i)

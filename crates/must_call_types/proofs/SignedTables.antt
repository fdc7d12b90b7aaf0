-- The classes and methods of a program whose annotations are read, beside those that they were.
use Rattle.std.proofs.Common.{◌≡◌, ℕ, zero, suc, Option, Some, None, List, [], ◌∷◌, map, Contains, IsSomeAnd, slice_get, unwrap_or, ap, sym, refl, subst}
use Rattle.std.specs.List.{AllZip}
use Rattle.program_model.specs.declared.kinds.ClassId.{ClassId}
use Rattle.program_model.specs.declared.program.Class.{Class}
use Rattle.program_model.specs.declared.program.Program.{Program}
use Rattle.program_model.specs.Hierarchy.{above, direct_supers, itself, IsDirectSuper, IsUnder}
use Rattle.program_model.specs.NameSets.{no_names}
use Rattle.effective_signatures.specs.SignedMethods.{IsSignedMethod}
use Rattle.must_call_types.specs.MustSets.{but_set, with_own_set}

-- ---- two lists, place by place

abbrev tail_of : {X : Type 0} → List X → List X
tail_of [] = []
tail_of (x ∷ xs) = xs

abbrev head_or : {X : Type 0} → X → List X → X
head_or d [] = d
head_or d (x ∷ xs) = x

pub zip_of_maps : {X Y : Type 0} (f g : X → Y) (xs ys : List X) → map f ys ≡ map g xs → AllZip (λ x y. f y ≡ g x) xs ys
zip_of_maps f g [] [] same = tt
zip_of_maps f g [] (y ∷ ys) same = absurd (let no = same in cc)
zip_of_maps f g (x ∷ xs) [] same = absurd (let no = same in cc)
zip_of_maps f g (x ∷ xs) (y ∷ ys) same = (ap (head_or (f y)) same, zip_of_maps f g xs ys (ap tail_of same))

pub zip_so : {X : Type 0} (R S : X → X → Type 0) (xs ys : List X) → ((x y : X) → R x y → S x y) → AllZip R xs ys → AllZip S xs ys
zip_so R S [] [] step all = tt
zip_so R S [] (y ∷ ys) step all = all
zip_so R S (x ∷ xs) [] step all = all
zip_so R S (x ∷ xs) (y ∷ ys) step all = (step x y all.0, zip_so R S xs ys step all.1)

pub zip_turned : {X : Type 0} (R S : X → X → Type 0) (xs ys : List X) → ((x y : X) → R x y → S y x) → AllZip R xs ys → AllZip S ys xs
zip_turned R S [] [] step all = tt
zip_turned R S [] (y ∷ ys) step all = all
zip_turned R S (x ∷ xs) [] step all = all
zip_turned R S (x ∷ xs) (y ∷ ys) step all = (step x y all.0, zip_turned R S xs ys step all.1)

-- what is found in the one list shows what is found in the other
pub at_same : {X : Type 0} (R : X → X → Type 0) (P Q : X → Type 0) (xs ys : List X) (i : ℕ) → AllZip R xs ys → ((x y : X) → R x y → P x → Q y) → IsSomeAnd (slice_get xs i) P → IsSomeAnd (slice_get ys i) Q
at_same R P Q [] ys i all step found = absurd found
at_same R P Q (x ∷ xs) [] i all step found = absurd all
at_same R P Q (x ∷ xs) (y ∷ ys) zero all step found = step x y all.0 found
at_same R P Q (x ∷ xs) (y ∷ ys) (suc i) all step found = at_same R P Q xs ys i all.1 step found

pub at_equal : {X Y : Type 0} (R : X → X → Type 0) (f g : Option X → Y) (xs ys : List X) (i : ℕ) → AllZip R xs ys → f None ≡ g None → ((x y : X) → R x y → f (Some x) ≡ g (Some y)) → f (slice_get xs i) ≡ g (slice_get ys i)
at_equal R f g [] [] i all none step = none
at_equal R f g [] (y ∷ ys) i all none step = absurd all
at_equal R f g (x ∷ xs) [] i all none step = absurd all
at_equal R f g (x ∷ xs) (y ∷ ys) zero all none step = step x y all.0
at_equal R f g (x ∷ xs) (y ∷ ys) (suc i) all none step = at_equal R f g xs ys i all.1 none step

-- what stood at the place before
pub before : {X : Type 0} (R : X → X → Type 0) (xs ys : List X) (i : ℕ) (y : X) → AllZip R xs ys → slice_get ys i ≡ Some y → (x : X) × (slice_get xs i ≡ Some x) × R x y
before R [] [] i y all found = absurd (let no = found in cc)
before R [] (z ∷ ys) i y all found = absurd all
before R (x ∷ xs) [] i y all found = absurd all
before R (x ∷ xs) (z ∷ ys) zero y all found = (x, refl, subst (R x) (ap (λ o. unwrap_or o z) found) all.0)
before R (x ∷ xs) (z ∷ ys) (suc i) y all found = before R xs ys i y all.1 found

-- ---- classes and methods

abbrev bare : Class → Class
bare k = record k { own_must = None; must = no_names }

-- a class and the class that it became are the same but for what annotations fill
abbrev pub SameClass : Class → Class → Type 0
SameClass x y = bare x ≡ bare y

same_class : (table : List (List ℕ)) (x y : Class) → but_set y ≡ but_set (with_own_set table x) → SameClass x y
same_class table x y same = sym (ap bare same)

pub same_classes : (table : List (List ℕ)) (old signed : List Class) → map but_set signed ≡ map (λ k. but_set (with_own_set table k)) old → AllZip SameClass old signed
same_classes table old signed same = zip_so _ SameClass old signed (same_class table) (zip_of_maps but_set (λ k. but_set (with_own_set table k)) old signed same)

-- the classes and methods of the second program are those of the first once its annotations are read
pub record SameTables (p s : Program) : Type 0 where
  pub classes : AllZip SameClass p.classes.items s.classes.items
  pub methods : AllZip (IsSignedMethod s.names p.fields.items p.classes.items) p.methods.items s.methods.items

-- the first program with the classes, methods and names of the second
abbrev pub over : Program → Program → Program
over p s = record s { fields = p.fields; bodies = p.bodies; ignored = p.ignored; exact = p.exact; core = p.core }

-- ---- super types

direct_super : (p x y : Program) → AllZip SameClass x.classes.items y.classes.items → (c d : ClassId) → IsDirectSuper (over p x) c d → IsDirectSuper (over p y) c d
direct_super p x y same c d direct =
    let turned = zip_turned SameClass SameClass x.classes.items y.classes.items (λ k j e. sym e) same in
    let there = before SameClass y.classes.items x.classes.items c.0 direct.0 turned direct.1 in
    (there.0, there.1, subst (λ ds. Contains ds d) (ap (λ k. direct_supers p k) (sym there.2)) direct.2)

pub under_along : (p x y : Program) → AllZip SameClass x.classes.items y.classes.items → (c d : ClassId) → IsUnder (over p x) c d → IsUnder (over p y) c d
under_along p x y same c d (itself e) = itself e
under_along p x y same c d (above b e f direct rest) = above b e f (direct_super p x y same b e direct) (under_along p x y same e f rest)

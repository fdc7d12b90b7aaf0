-- The declarations of units: which are of the library, and their names.
use Rattle.std.proofs.Common.{◌≡◌, ◌∙◌, ap, sym, refl, ℕ, ◌+◌, Bool, true, false, cond, List, [], ◌∷◌, ◌++◌, map}
use Rattle.std.specs.List.{filter}
use Rattle.std.proofs.lemmas.List.{map-append}
use Rattle.java_syntax.specs.declared.declaration_trees.ClassDecl.{ClassDecl}
use Rattle.java_syntax.specs.declared.declaration_trees.Unit as tree
use Rattle.class_table.specs.ClassOrderDeclarations.{Declaration, compilation_unit, declared_from, declared_in, name_of}
use Rattle.elaboration_laws.proofs.QualifiedNames.{name_read, read_name}

-- ---- of each

abbrev pub Each : (Declaration → Type 0) → List Declaration → Type 0
Each P [] = Unit {0}
Each P (d ∷ ds) = P d × Each P ds

each_append : (P : Declaration → Type 0) (xs ys : List Declaration) → Each P xs → Each P ys → Each P (xs ++ ys)
each_append P [] ys first second = second
each_append P (x ∷ xs) ys first second = (first.0, each_append P xs ys first.1 second)

pub each_kept : (P : Declaration → Type 0) (test : Declaration → Bool) (xs : List Declaration) → Each P xs → Each P (filter test xs)
each_kept P test [] all = tt
each_kept P test (x ∷ xs) all = by (test x) (each_kept P test xs all.1)
  where
    by : (b : Bool) → Each P (filter test xs) → Each P (cond b (x ∷ filter test xs) (filter test xs))
    by true rest = (all.0, rest)
    by false rest = rest

-- ---- of the library

abbrev pub IsOf : Bool → Declaration → Type 0
IsOf library d = d.unit.library ≡ library

unit_is_of : (number : ℕ) (library : Bool) (u : tree.Unit) (ts : List ClassDecl) → Each (IsOf library) (map (λ c. record { class_tree = c; unit = compilation_unit number library u }) ts)
unit_is_of number library u [] = tt
unit_is_of number library u (t ∷ ts) = (refl, unit_is_of number library u ts)

pub units_are_of : (first : ℕ) (library : Bool) (us : List tree.Unit) → Each (IsOf library) (declared_from first library us)
units_are_of first library [] = tt
units_are_of first library (u ∷ us) =
    each_append (IsOf library) (declared_in first library u) (declared_from (first + 1) library us) (unit_is_of first library u u.types.items) (units_are_of (first + 1) library us)

abbrev pub is_of_library : Declaration → Bool
is_of_library d = d.unit.library

none_of_library : (ds : List Declaration) → Each (IsOf false) ds → filter is_of_library ds ≡ []
none_of_library [] all = refl
none_of_library (d ∷ ds) all = ap (λ b. cond b (d ∷ filter is_of_library ds) (filter is_of_library ds)) all.0 ∙ none_of_library ds all.1

-- the classes of the library are those that come first
pub library_first : (ks ds : List Declaration) → Each (IsOf true) ks → Each (IsOf false) ds → filter is_of_library (ks ++ ds) ≡ ks
library_first [] ds first second = none_of_library ds second
library_first (k ∷ ks) ds first second = ap (λ b. cond b (k ∷ filter is_of_library (ks ++ ds)) (filter is_of_library (ks ++ ds))) first.0 ∙ ap (λ rest. k ∷ rest) (library_first ks ds first.1 second)

-- ---- names

unit_names : (n m : ℕ) (u : tree.Unit) (ts : List ClassDecl) → map name_of (map (λ c. record { class_tree = c; unit = compilation_unit n false u }) ts) ≡ map name_of (map (λ c. record { class_tree = c; unit = compilation_unit m false u }) ts)
unit_names n m u [] = refl
unit_names n m u (t ∷ ts) = ap (λ rest. name_of (record { class_tree = t; unit = compilation_unit n false u }) ∷ rest) (unit_names n m u ts)

-- the numbers of units have no part in names
pub names_of_units : (n m : ℕ) (us : List tree.Unit) → map name_of (declared_from n false us) ≡ map name_of (declared_from m false us)
names_of_units n m [] = refl
names_of_units n m (u ∷ us) =
    map-append name_of (declared_in n false u) (declared_from (n + 1) false us)
    ∙ ap (λ front. front ++ map name_of (declared_from (n + 1) false us)) (unit_names n m u u.types.items)
    ∙ ap (λ rest. map name_of (declared_in m false u) ++ rest) (names_of_units (n + 1) (m + 1) us)
    ∙ sym (map-append name_of (declared_in m false u) (declared_from (m + 1) false us))

-- each name is read off itself
pub names_read : (names : List (List ℕ)) → map read_name names ≡ names
names_read [] = refl
names_read (name ∷ names) = ap (λ first. first ∷ map read_name names) (name_read name) ∙ ap (λ rest. name ∷ rest) (names_read names)

-- What a name means is a class of the list.
use Rattle.std.proofs.Common.{◌≡◌, ap, refl, subst, arith, ℕ, ◌+◌, ◌<◌, ◌≤◌, zero, suc, Bool, true, false, cond, ltb, ltb-true, Option, Some, None, List, [], ◌∷◌, length, map}
use Rattle.std.specs.Prelude.{slice_get}
use Rattle.std.specs.List.{All, position_or_len}
use Rattle.std.specs.Option.{option_map}
use Rattle.std.specs.Str.{bytes_eq}
use Rattle.std.proofs.lemmas.List.{length-map}
use Rattle.std.proofs.lemmas.List.Elements.{All-append, All-cons, All-contains, All-filter, All-nil}
use Rattle.java_syntax.specs.declared.names.Name.{Name}
use Rattle.program_model.specs.declared.kinds.ClassId.{ClassId}
use Rattle.program_model.specs.Lookups.{optional}
use Rattle.program_model.specs.SuperTests.{is_class}
use Rattle.class_names.specs.declared.class_name.ClassName.{ClassName}
use Rattle.class_names.specs.declared.levels.Level.TheVariants.{OwnOrImported, OfPackage, OnDemand}
use Rattle.class_names.specs.declared.meaning.Meaning.{Meaning}
use Rattle.class_names.specs.declared.meaning.Meaning.TheVariants.{Named, NoClass, TwoClasses}
use Rattle.class_names.specs.ClassNames.{class_at, class_number, class_of_name, name_of_class, names_of, simply_named, simply_named_from}
use Rattle.class_names.specs.Meanings.{CompilationUnit, has, has_dot, is_seen, is_seen_on, meaning_of, or_next, qualified_meaning, seen_class, simple_meaning, sole, those}
use Rattle.class_order.specs.Declarations.{Declaration}
use Rattle.class_headers.specs.SuperTypes.{AreKnown, all_direct, class_named, declared_supers, direct_of, implied_class, listed_at, named_class, object_above, right_above, super_class, super_interfaces, supers_from}

-- a meaning within so many classes
abbrev pub IsWithin : ℕ → Meaning → Type 0
IsWithin n (Named c) = c.0 < n
IsWithin n NoClass = Unit {0}
IsWithin n TwoClasses = Unit {0}

abbrev pub IsBelow : ℕ → ClassId → Type 0
IsBelow n c = c.0 < n

named_step : (b : Bool) (n first : ℕ) (rest : List ClassId) → first < n → All (IsBelow n) rest → All (IsBelow n) (cond b (class_number first ∷ rest) rest)
named_step true n first rest within h = All-cons (IsBelow n) (class_number first) rest within h
named_step false n first rest within h = h

named_within : (n first : ℕ) (name : List ℕ) (classes : List ClassName) → first + length classes ≤ n → All (IsBelow n) (simply_named_from first name classes)
named_within n first name [] few = All-nil (IsBelow n)
named_within n first name (k ∷ ks) few = named_step (bytes_eq name k.simple) n first (simply_named_from (first + 1) name ks) (omega arith) (named_within n (first + 1) name ks (omega arith))

sole_within : (n : ℕ) (cs : List ClassId) → All (IsBelow n) cs → IsWithin n (sole cs)
sole_within n [] h = tt
sole_within n (c ∷ []) h = h 0 c (omega arith)
sole_within n (c ∷ d ∷ cs) h = tt

next_within : (n : ℕ) (m next : Meaning) → IsWithin n m → IsWithin n next → IsWithin n (or_next m next)
next_within n (Named c) next h g = h
next_within n NoClass next h g = g
next_within n TwoClasses next h g = tt

bounded : (b : Bool) (p len : ℕ) (c : ClassId) → ltb p len ≡ b → option_map class_number (cond b (Some p) None) ≡ Some c → c.0 < len
bounded true p len c is same = let equal : class_number p ≡ c = cc in let below = ltb-true p len is in subst (λ (x : ClassId). x.0 < len) equal below
bounded false p len c is same = absurd (let never : None ≡ Some c = same in cc)

name_within : (classes : List ClassName) (name : List ℕ) (c : ClassId) → class_of_name classes name ≡ Some c → c.0 < length classes
name_within classes name c is =
    subst (λ n. c.0 < n) (length-map classes name_of_class)
    (bounded (ltb (position_or_len (bytes_eq name) (names_of classes)) (length (names_of classes))) (position_or_len (bytes_eq name) (names_of classes)) (length (names_of classes)) c refl is)

seen_within : (classes : List ClassName) (u : CompilationUnit) (o : Option ClassId) → ((c : ClassId) → o ≡ Some c → c.0 < length classes) → IsWithin (length classes) (seen_class classes u o)
seen_within classes u None h = tt
seen_within classes u (Some c) h = either (has (is_seen u) (class_at classes c))
  where
    either : (b : Bool) → IsWithin (length classes) (cond b (Named c) NoClass)
    either true = h c refl
    either false = tt

level_within : (classes : List ClassName) (test : ClassName → Bool) (name : List ℕ) → IsWithin (length classes) (sole (those classes test (simply_named classes name)))
level_within classes test name =
    sole_within (length classes) (those classes test (simply_named classes name))
    (All-filter (λ c. has test (class_at classes c)) (IsBelow (length classes)) (simply_named classes name) (named_within (length classes) 0 name classes (omega arith)))

-- what a name means is a class of the list
pub meaning_within : (classes : List ClassName) (u : CompilationUnit) (name : List ℕ) → IsWithin (length classes) (meaning_of classes u name)
meaning_within classes u name = by_dot (has_dot name)
  where
    simple : IsWithin (length classes) (simple_meaning classes u name)
    simple = next_within (length classes) _ _ (level_within classes (is_seen_on u OwnOrImported) name) (next_within (length classes) _ _ (level_within classes (is_seen_on u OfPackage) name) (level_within classes (is_seen_on u OnDemand) name))

    by_dot : (b : Bool) → IsWithin (length classes) (cond b (qualified_meaning classes u name) (simple_meaning classes u name))
    by_dot true = seen_within classes u (class_of_name classes name) (name_within classes name)
    by_dot false = simple

-- ---- super types

named_known : (n : ℕ) (m : Meaning) → IsWithin n m → All (IsBelow n) (optional (named_class m))
named_known n (Named c) h = All-cons (IsBelow n) c [] h (All-nil (IsBelow n))
named_known n NoClass h = All-nil (IsBelow n)
named_known n TwoClasses h = All-nil (IsBelow n)

-- the class that a name means is one of the list
pub class_named_known : (classes : List ClassName) (u : CompilationUnit) (x : Name) (c : ClassId) → class_named classes u x ≡ Some c → c.0 < length classes
class_named_known classes u x c is =
    let P : Option ClassId → Type 0 = λ o. All (IsBelow (length classes)) (optional o) in
    All-contains (IsBelow (length classes)) (c ∷ []) c (subst P is (named_known (length classes) (meaning_of classes u x.text) (meaning_within classes u x.text))) (0, (omega arith), refl)

interfaces_known : (classes : List ClassName) (u : CompilationUnit) (names : List Name) → All (IsBelow (length classes)) (super_interfaces classes u names)
interfaces_known classes u [] = All-nil (IsBelow (length classes))
interfaces_known classes u (x ∷ xs) = All-append (IsBelow (length classes)) (optional (class_named classes u x)) (super_interfaces classes u xs) (named_known (length classes) (meaning_of classes u x.text) (meaning_within classes u x.text)) (interfaces_known classes u xs)

implied_known : (n : ℕ) (object c : ClassId) (b : Bool) → object.0 < n → All (IsBelow n) (optional (implied_class object c b))
implied_known n object c true within = All-nil (IsBelow n)
implied_known n object c false within = either (is_class c object)
  where
    either : (b : Bool) → All (IsBelow n) (optional (cond b None (Some object)))
    either true = All-nil (IsBelow n)
    either false = All-cons (IsBelow n) object [] within (All-nil (IsBelow n))

super_known : (classes : List ClassName) (object c : ClassId) (d : Declaration) (o : Option Name) → object.0 < length classes → All (IsBelow (length classes)) (optional (super_class classes object c d o))
super_known classes object c d None within = implied_known (length classes) object c d.class_tree.is_interface within
super_known classes object c d (Some x) within = named_known (length classes) (meaning_of classes d.unit x.text) (meaning_within classes d.unit x.text)

object_known : (n : ℕ) (object : ClassId) (b : Bool) → object.0 < n → All (IsBelow n) (object_above object b)
object_known n object true within = All-cons (IsBelow n) object [] within (All-nil (IsBelow n))
object_known n object false within = All-nil (IsBelow n)

direct_known : (classes : List ClassName) (object c : ClassId) (d : Declaration) → object.0 < length classes → All (IsBelow (length classes)) (direct_of object (declared_supers classes object c d))
direct_known classes object c d within =
    All-append (IsBelow (length classes)) _ _
    (All-append (IsBelow (length classes)) _ _ (super_known classes object c d d.class_tree.superclass within) (interfaces_known classes d.unit d.class_tree.interfaces.items))
    (object_known (length classes) object d.class_tree.is_interface within)

rows_known : (classes : List ClassName) (object : ClassId) (first : ℕ) (ds : List Declaration) (k : ℕ) → object.0 < length classes → All (IsBelow (length classes)) (listed_at (slice_get (map (direct_of object) (supers_from first classes object ds)) k))
rows_known classes object first [] k within = All-nil (IsBelow (length classes))
rows_known classes object first (d ∷ ds) zero within = direct_known classes object (class_number first) d within
rows_known classes object first (d ∷ ds) (suc k) within = rows_known classes object (first + 1) ds k within

pub length-supers_from : (classes : List ClassName) (object : ClassId) (first : ℕ) (ds : List Declaration) → length (supers_from first classes object ds) ≡ length ds
length-supers_from classes object first [] = refl
length-supers_from classes object first (d ∷ ds) = ap suc (length-supers_from classes object (first + 1) ds)

-- all that stands right above a class is a class of the table
pub all_known : (classes : List ClassName) (object : ClassId) (order : List Declaration) → object.0 < length classes → length classes ≡ length order → AreKnown (all_direct object (supers_from 0 classes object order))
all_known classes object order within same c d has =
    let below = All-contains (IsBelow (length classes)) (right_above (all_direct object (supers_from 0 classes object order)) c) d (rows_known classes object 0 order c.0 within) has in
    let long = length-map (supers_from 0 classes object order) (direct_of object) in
    let wide = length-supers_from classes object 0 order in
    omega (arith, below, same, long, wide)

-- a class that is found by its name is one of the list
pub found_within : (classes : List ClassName) (name : List ℕ) (c : ClassId) → class_of_name classes name ≡ Some c → c.0 < length classes
found_within classes name c is = name_within classes name c is

-- Which classes of the table are those of the source files.
use Rattle.std.proofs.Common.{◌≡◌, ◌∙◌, sym, ap, subst, refl, arith, ℕ, zero, suc, ◌+◌, Bool, true, false, cond, Option, Some, None, List, [], ◌∷◌, ◌++◌, All, length, map}
use Rattle.std.specs.Prelude.{slice_get}
use Rattle.std.specs.List.{AllZip, Contains, filter}
use Rattle.std.specs.Option.{IsSomeAnd}
use Rattle.std.proofs.lemmas.List.Elements.{All-append, All-cons, All-head, All-nil, All-tail}
use Rattle.std.proofs.lemmas.Simd.{map-map}
use Rattle.java_syntax.specs.declared.declaration_trees.ClassDecl.{ClassDecl}
use Rattle.java_syntax.specs.declared.declaration_trees.Unit as tree
use Rattle.java_syntax.specs.declared.settings.Settings.{Settings}
use Rattle.program_model.specs.declared.kinds.ClassId.{ClassId}
use Rattle.program_model.specs.declared.program.Class.{Class}
use Rattle.program_model.specs.declared.program.Program.{Program}
use Rattle.program_model.specs.Lookups.{class_at}
use Rattle.class_names.specs.ClassNames.{class_number}
use Rattle.class_table.specs.ClassOrderDeclarations.{Declaration, class_names, compilation_unit, declared_from, declared_in, is_kept}
use Rattle.class_table.specs.ClassOrderDeclarations as order
use Rattle.class_table.specs.Headers.{Header, declared_headers, header_of}
use Rattle.class_table.specs.SuperTypes.{SuperTypes}
use Rattle.class_table.proofs.ClassHeadersKnownLemmas.{length-supers_from}
use Rattle.class_table.specs.SuperCases.{supers_in}
use Rattle.class_table.specs.Passes.{classes_of}
use Rattle.class_table.specs.Table.{IsTable}
use Rattle.java_elaboration.specs.SourceClasses.{SourceClass, declarations, library_classes, numbered_from, source_classes}
use Rattle.elaboration_laws.specs.SourceBodies.{source_declaration, table_declaration}
use Rattle.elaboration_laws.proofs.SourceMethods.{IsLinked, IsSame, library_count, same_units}

same_some : {X : Type 0} (x y : X) → ◌≡◌ {A = Option X} (Some x) (Some y) → x ≡ y
same_some x y h = cc

none_is_some : {X : Type 0} (x : X) → ◌≡◌ {A = Option X} None (Some x) → ⊥
none_is_some x h = cc

nil_is_cons : {X : Type 0} (x : X) (xs : List X) → ◌≡◌ {A = List X} [] (x ∷ xs) → ⊥
nil_is_cons x xs h = cc

same_head : {X : Type 0} (x y : X) (xs ys : List X) → ◌≡◌ {A = List X} (x ∷ xs) (y ∷ ys) → x ≡ y
same_head x y xs ys h = cc

same_tail : {X : Type 0} (x y : X) (xs ys : List X) → ◌≡◌ {A = List X} (x ∷ xs) (y ∷ ys) → xs ≡ ys
same_tail x y xs ys h = cc

-- ---- which classes are of the library

header_libraries : (ds : List Declaration) (ss : List SuperTypes) → length ds ≡ length ss → map (λ (h : Header). h.library) (declared_headers ds ss) ≡ map (λ (d : Declaration). d.unit.library) ds
header_libraries [] ss same = refl
header_libraries (d ∷ ds) [] same = absurd (omega (arith, same))
header_libraries (d ∷ ds) (s ∷ ss) same = ap (λ rest. d.unit.library ∷ rest) (header_libraries ds ss (omega (arith, same)))

table_libraries : (whole : List Declaration) (settings : Settings) (p : Program) → IsTable whole settings p → map (λ (k : Class). k.library) p.classes.items ≡ map (λ (d : Declaration). d.unit.library) whole
table_libraries whole settings p t =
    sym (map-map (λ (h : Header). h.library) header_of p.classes.items) ∙ ap (map (λ (h : Header). h.library)) t.headers
    ∙ header_libraries whole (supers_in whole p.core) (sym (length-supers_from (class_names whole) p.core.object 0 whole))

-- what stands beside an element of a list with the same answers
beside : {X Y : Type 0} (f : X → Bool) (g : Y → Bool) (xs : List X) (ys : List Y) → map f xs ≡ map g ys → (n : ℕ) (y : Y) → slice_get ys n ≡ Some y → IsSomeAnd (slice_get xs n) (λ x. f x ≡ g y)
beside f g xs [] same n y at = absurd (none_is_some y at)
beside f g [] (z ∷ ys) same n y at = absurd (nil_is_cons (g z) (map g ys) same)
beside f g (x ∷ xs) (z ∷ ys) same zero y at = same_head (f x) (g z) (map f xs) (map g ys) same ∙ ap g (same_some z y at)
beside f g (x ∷ xs) (z ∷ ys) same (suc n) y at = beside f g xs ys (same_tail (f x) (g z) (map f xs) (map g ys) same) n y at

weaker : {X : Type 0} (P Q : X → Type 0) → ((x : X) → P x → Q x) → (o : Option X) → IsSomeAnd o P → IsSomeAnd o Q
weaker P Q f None h = h
weaker P Q f (Some x) h = f x h

-- a class of the source files is none of the library
pub own_class : (units stubs : List tree.Unit) (settings : Settings) (p : Program) → IsTable (classes_of units stubs settings) settings p → (c : SourceClass) → IsLinked (table_declaration units stubs settings) (source_declaration p units) c → IsSomeAnd (class_at p c.class') (λ k. k.library ≡ false)
own_class units stubs settings p t c l =
    let whole : List Declaration = classes_of units stubs settings in
    let library : Bool = l.declaration.unit.library in
    weaker (λ (k : Class). k.library ≡ library) (λ (k : Class). k.library ≡ false) (λ k is. is ∙ l.in_table) (class_at p c.class')
    (beside (λ (k : Class). k.library) (λ (d : Declaration). d.unit.library) p.classes.items whole (table_libraries whole settings p t) c.class'.0 l.declaration l.at)

-- ---- a class that is none of the library is one of the source files

true_is_false : ◌≡◌ {A = Bool} true false → ⊥
true_is_false h = cc

-- what stands behind others, by its number
record IsBehind (front ys : List Declaration) (n : ℕ) (d : Declaration) : Type 0 where
  place : ℕ
  number : n ≡ length front + place
  at : slice_get ys place ≡ Some d

abbrev IsOfLibrary : Declaration → Type 0
IsOfLibrary d = d.unit.library ≡ true

unit_of_library : (number : ℕ) (u : tree.Unit) (ts : List ClassDecl) → All IsOfLibrary (map (λ c. record { class_tree = c; unit = compilation_unit number true u }) ts)
unit_of_library number u [] = All-nil IsOfLibrary
unit_of_library number u (t ∷ ts) =
    All-cons IsOfLibrary (record { class_tree = t; unit = compilation_unit number true u }) (map (λ c. record { class_tree = c; unit = compilation_unit number true u }) ts) refl (unit_of_library number u ts)

units_of_library : (first : ℕ) (us : List tree.Unit) → All IsOfLibrary (declared_from first true us)
units_of_library first [] = All-nil IsOfLibrary
units_of_library first (u ∷ us) =
    All-append IsOfLibrary (declared_in first true u) (declared_from (first + 1) true us) (unit_of_library first u u.types.items) (units_of_library (first + 1) us)

kept_of_library : (test : Declaration → Bool) (ds : List Declaration) → All IsOfLibrary ds → All IsOfLibrary (filter test ds)
kept_of_library test [] all = All-nil IsOfLibrary
kept_of_library test (d ∷ ds) all = by (test d) (kept_of_library test ds (All-tail IsOfLibrary d ds all))
  where
    by : (b : Bool) → All IsOfLibrary (filter test ds) → All IsOfLibrary (cond b (d ∷ filter test ds) (filter test ds))
    by true rest = All-cons IsOfLibrary d (filter test ds) (All-head IsOfLibrary d ds all) rest
    by false rest = rest

behind_library : (ks ds : List Declaration) (n : ℕ) (d : Declaration) → All IsOfLibrary ks → slice_get (ks ++ ds) n ≡ Some d → d.unit.library ≡ false → IsBehind ks ds n d
behind_library [] ds n d library at own = record { place = n; number = omega arith; at = at }
behind_library (k ∷ ks) ds zero d library at own = absurd (true_is_false (sym (All-head IsOfLibrary k ks library) ∙ ap (λ (x : Declaration). x.unit.library) (same_some k d at) ∙ own))
behind_library (k ∷ ks) ds (suc n) d library at own =
    let b = behind_library ks ds n d (All-tail IsOfLibrary k ks library) at own in
    let number = b.number in
    record { place = b.place; number = omega (arith, number); at = b.at }

-- an element with the same place in the other list
zipped_at : {X Y : Type 0} (R : X → Y → Type 0) (xs : List X) (ys : List Y) → AllZip R xs ys → (n : ℕ) (y : Y) → slice_get ys n ≡ Some y → (x : X) × (slice_get xs n ≡ Some x)
zipped_at R xs [] all n y at = absurd (none_is_some y at)
zipped_at R [] (z ∷ ys) all n y at = absurd all
zipped_at R (x ∷ xs) (z ∷ ys) all zero y at = (x, refl)
zipped_at R (x ∷ xs) (z ∷ ys) all (suc n) y at = zipped_at R xs ys all.1 n y at

pub contains_later : {X : Type 0} (z : X) (xs : List X) (x : X) → Contains xs x → Contains (z ∷ xs) x
contains_later z xs x h = (let below = h.1 in (suc h.0, omega (arith, below), h.2))

numbered_has : (first : ℕ) (ds : List Declaration) (i : ℕ) (d : Declaration) → slice_get ds i ≡ Some d → Contains (numbered_from first ds) (record { class' = class_number (first + i); declaration = d })
numbered_has first [] i d at = absurd (none_is_some d at)
numbered_has first (x ∷ ds) zero d at =
    let start : first ≡ first + 0 = omega arith in
    let same : x ≡ d = same_some x d at in
    (0, omega arith, λ j. record { class' = class_number (start j); declaration = same j })
numbered_has first (x ∷ ds) (suc i) d at =
    let next : first + 1 + i ≡ first + suc i = omega arith in
    let P : ℕ → Type 0 = λ n. Contains (numbered_from (first + 1) ds) (record { class' = class_number n; declaration = d }) in
    contains_later (record { class' = class_number first; declaration = x }) (numbered_from (first + 1) ds) (record { class' = class_number (first + suc i); declaration = d }) (subst P next (numbered_has (first + 1) ds i d at))

-- the class of the source files with this number
pub record HasSourceClass (p : Program) (units : List tree.Unit) (c : ClassId) : Type 0 where
  pub class' : SourceClass
  pub number : class'.class' ≡ c
  pub listed : Contains (source_classes p units) class'

pub has_source_class : (units stubs : List tree.Unit) (settings : Settings) (p : Program) → IsTable (classes_of units stubs settings) settings p → (c : ClassId) (k : Class) → class_at p c ≡ Some k → k.library ≡ false → HasSourceClass p units c
has_source_class units stubs settings p t c k at own_class' = by (slice_get whole c.0) refl (beside (λ (d : Declaration). d.unit.library) (λ (x : Class). x.library) whole p.classes.items (sym (table_libraries whole settings p t)) c.0 k at)
  where
    whole : List Declaration
    whole = classes_of units stubs settings

    kept : List Declaration
    kept = order.library_classes settings.core (declared_from 0 true stubs)

    own : List Declaration
    own = declared_from (length stubs) false units

    by : (o : Option Declaration) → slice_get whole c.0 ≡ o → IsSomeAnd o (λ d. d.unit.library ≡ k.library) → HasSourceClass p units c
    by None found is = absurd is
    by (Some d) found is =
        let library : All IsOfLibrary kept = kept_of_library (is_kept settings.core (declared_from 0 true stubs)) (declared_from 0 true stubs) (units_of_library 0 stubs) in
        let b = behind_library kept own c.0 d library found (is ∙ own_class') in
        let x = zipped_at IsSame (declarations units) own (same_units 0 (length stubs) units) b.place d b.at in
        let first : ℕ = length (library_classes p) in
        let count : first ≡ length kept = library_count units stubs settings p t in
        let place_is = b.number in
        let number : first + b.place ≡ c.0 = omega (arith, count, place_is) in
        record {
          class' = record { class' = class_number (first + b.place); declaration = x.0 };
          number = ap class_number number;
          listed = numbered_has first (declarations units) b.place x.0 x.1;
        }

-- No two classes have one name, as the typing of bodies knows them.
use Rattle.std.proofs.Common.{◌≡◌, ◌∙◌, ap, sym, refl, arith, ℕ, Bool, true, false, cond, List, [], ◌∷◌, ◌++◌, length, map}
use Rattle.std.specs.Prelude.{flat_map}
use Rattle.std.specs.List.{filter, range_with_len}
use Rattle.std.proofs.lemmas.List.{length-map, map-append}
use Rattle.std.proofs.lemmas.Simd.{map-map}
use Rattle.java_syntax.specs.declared.declaration_trees.Unit as tree
use Rattle.java_syntax.specs.declared.settings.Settings.{Settings}
use Rattle.program_model.specs.declared.program.Class.{Class}
use Rattle.program_model.specs.declared.program.Program.{Program}
use Rattle.refusal_order.specs.Refusals.{least}
use Rattle.class_names.specs.declared.class_name.ClassName.{ClassName}
use Rattle.class_names.specs.ClassNames.{doubles, is_double, name_of_class, names_of}
use Rattle.class_table.specs.Cases.{double_case, double_cases}
use Rattle.class_table.specs.ClassOrderDeclarations.{Declaration, class_name_of, class_names, declared_from, is_kept, name_of}
use Rattle.class_table.specs.ClassOrderDeclarations as order
use Rattle.method_bodies.proofs.CaseLemmas.{doubles_are_refused}
use Rattle.class_table.specs.Headers.{Header, declared_headers, header_of}
use Rattle.class_table.specs.SuperTypes.{SuperTypes}
use Rattle.class_table.proofs.ClassHeadersKnownLemmas.{length-supers_from}
use Rattle.class_table.specs.SuperCases.{supers_in}
use Rattle.class_table.specs.Passes.{IsBuilt, classes_of}
use Rattle.class_table.specs.Table.{IsTable}
use Rattle.class_table.proofs.NoCases.{no_double_cases}
use Rattle.java_elaboration.specs.SourceClasses.{all_names, declarations, library_classes, library_name}
use Rattle.elaboration_laws.proofs.DeclaredNames.{Each, IsOf, each_kept, is_of_library, library_first, names_of_units, names_read, units_are_of}
use Rattle.elaboration_laws.proofs.QualifiedNames.{read_name}

-- ---- names and what is of the library

abbrev pub Named : Type 0
Named = List ℕ × Bool

abbrev pub names_where : List Named → List (List ℕ)
names_where [] = []
names_where (n ∷ ns) = cond n.1 (n.0 ∷ names_where ns) (names_where ns)

filtered_names : {X : Type 0} (name : X → List ℕ) (library : X → Bool) (xs : List X) → map name (filter library xs) ≡ names_where (map (λ x. (name x, library x)) xs)
filtered_names name library [] = refl
filtered_names {X} name library (x ∷ xs) = by (library x) (filtered_names name library xs)
  where
    by : (b : Bool) → map name (filter library xs) ≡ names_where (map (λ z. (name z, library z)) xs)
        → map name (cond b (x ∷ filter library xs) (filter library xs)) ≡ cond b (name x ∷ names_where (map (λ z. (name z, library z)) xs)) (names_where (map (λ z. (name z, library z)) xs))
    by true same = ap (λ rest. name x ∷ rest) same
    by false same = same

abbrev pub header_named : Header → Named
header_named h = (h.name, h.library)

abbrev pub class_named : Class → Named
class_named k = (k.name, k.library)

abbrev pub declaration_named : Declaration → Named
declaration_named d = (name_of d, d.unit.library)

header_names : (ds : List Declaration) (ss : List SuperTypes) → length ds ≡ length ss → map header_named (declared_headers ds ss) ≡ map declaration_named ds
header_names [] ss same = refl
header_names (d ∷ ds) [] same = absurd (omega (arith, same))
header_names (d ∷ ds) (s ∷ ss) same = ap (λ rest. declaration_named d ∷ rest) (header_names ds ss (omega (arith, same)))

classes_named : (order : List Declaration) (settings : Settings) (p : Program) → IsTable order settings p → map class_named p.classes.items ≡ map declaration_named order
classes_named order settings p t =
    sym (map-map header_named header_of p.classes.items) ∙ ap (map header_named) t.headers
    ∙ header_names order (supers_in order p.core) (sym (length-supers_from (class_names order) p.core.object 0 order))

-- the names of the classes of a table are those of its declarations
class_names_are : (order : List Declaration) (settings : Settings) (p : Program) → IsTable order settings p → map (λ (k : Class). k.name) p.classes.items ≡ map name_of order
class_names_are order settings p t =
    sym (map-map (λ (n : Named). n.0) class_named p.classes.items) ∙ ap (map (λ (n : Named). n.0)) (classes_named order settings p t) ∙ map-map (λ (n : Named). n.0) declaration_named order

table_names : (order : List Declaration) (settings : Settings) (p : Program) → IsTable order settings p → map (λ (k : Class). k.name) (library_classes p) ≡ map name_of (filter is_of_library order)
table_names order settings p t =
    filtered_names (λ (k : Class). k.name) (λ (k : Class). k.library) p.classes.items ∙ ap names_where (classes_named order settings p t) ∙ sym (filtered_names name_of is_of_library order)

-- ---- the names of all classes

-- the classes of the stubs that count come first in the table
pub library_names_are : (units stubs : List tree.Unit) (settings : Settings) (p : Program) → IsTable (classes_of units stubs settings) settings p → map (λ (k : Class). k.name) (library_classes p) ≡ map name_of (order.library_classes settings.core (declared_from 0 true stubs))
library_names_are units stubs settings p t =
    let written : List Declaration = declared_from 0 true stubs in
    let kept : List Declaration = order.library_classes settings.core written in
    let own : List Declaration = declared_from (length stubs) false units in
    let of_library : Each (IsOf true) kept = each_kept (IsOf true) (is_kept settings.core written) written (units_are_of 0 true stubs) in
    table_names (kept ++ own) settings p t ∙ ap (map name_of) (library_first kept own of_library (units_are_of (length stubs) false units))

all_names_are : (units stubs : List tree.Unit) (settings : Settings) (p : Program) → IsTable (classes_of units stubs settings) settings p → names_of (all_names p units) ≡ names_of (class_names (classes_of units stubs settings))
all_names_are units stubs settings p t =
    let kept : List Declaration = order.library_classes settings.core (declared_from 0 true stubs) in
    let own : List Declaration = declared_from (length stubs) false units in
    let library : map name_of_class (map (library_name (length units)) (library_classes p)) ≡ map name_of kept =
    map-map name_of_class (library_name (length units)) (library_classes p)
    ∙ sym (map-map read_name (λ (k : Class). k.name) (library_classes p))
    ∙ ap (map read_name) (library_names_are units stubs settings p t)
    ∙ names_read (map name_of kept) in
    map-append name_of_class (map (library_name (length units)) (library_classes p)) (class_names (declarations units))
    ∙ ap (λ front. front ++ names_of (class_names (declarations units))) library
    ∙ ap (λ rest. map name_of kept ++ rest) (map-map name_of_class class_name_of (declarations units) ∙ names_of_units 0 (length stubs) units)
    ∙ sym (map-append name_of kept own)
    ∙ sym (map-map name_of_class class_name_of (kept ++ own))

-- the names by which bodies are typed are those of the table
pub table_names_are : (units stubs : List tree.Unit) (settings : Settings) (p : Program) → IsTable (classes_of units stubs settings) settings p → names_of (all_names p units) ≡ map (λ (k : Class). k.name) p.classes.items
table_names_are units stubs settings p t =
    let written : List Declaration = classes_of units stubs settings in
    all_names_are units stubs settings p t ∙ map-map name_of_class class_name_of written ∙ sym (class_names_are written settings p t)

-- ---- doubles

doubles_by_names : (xs ys : List ClassName) → names_of xs ≡ names_of ys → doubles xs ≡ doubles ys
doubles_by_names xs ys same =
    let long : length xs ≡ length ys = sym (length-map xs name_of_class) ∙ ap length same ∙ length-map ys name_of_class in
    ap (λ n. filter (is_double (names_of xs)) (range_with_len 0 n)) long ∙ ap (λ ns. filter (is_double ns) (range_with_len 0 (length ys))) same

no_doubles : (ds : List Declaration) → double_cases ds ≡ [] → doubles (class_names ds) ≡ []
no_doubles ds none = by (doubles (class_names ds)) refl
  where
    by : (found : List ℕ) → found ≡ doubles (class_names ds) → doubles (class_names ds) ≡ []
    by [] is = sym is
    by (n ∷ ns) is = absurd (doubles_are_refused ds (n ∷ ns) is (λ never. cc) (sym (ap least (ap (flat_map (double_case ds)) is ∙ none))))

-- the names by which bodies are typed have no doubles, where the table is built
pub built_names : (units stubs : List tree.Unit) (settings : Settings) (p : Program) → IsBuilt (classes_of units stubs settings) settings p → doubles (all_names p units) ≡ []
built_names units stubs settings p built =
    doubles_by_names (all_names p units) (class_names (classes_of units stubs settings)) (all_names_are units stubs settings p built.table)
    ∙ no_doubles (classes_of units stubs settings) (no_double_cases (classes_of units stubs settings) built.right.doubles)

-- The classes of the source files in the table, and their methods: the table has of each what is written.
use Rattle.std.proofs.Common.{◌≡◌, ◌∙◌, sym, ap, refl, subst, arith, ℕ, suc, ◌+◌, ◌-◌, true, false, cond, ◌&&◌, Option, Some, None, List, [], ◌∷◌, ◌++◌, All, length, map, zip}
use Rattle.std.specs.Prelude.{◌||◌, not, slice_get}
use Rattle.std.specs.List.{AllZip, flat_map, list_any}
use Rattle.std.specs.Option.{IsSomeAnd}
use Rattle.std.proofs.lemmas.List.{length-map}
use Rattle.std.proofs.lemmas.List.Elements.{All-cons, All-nil, All-weaker}
use Rattle.java_syntax.specs.declared.declaration_trees.ClassDecl.{ClassDecl}
use Rattle.java_syntax.specs.declared.declaration_trees.Member.{Member}
use Rattle.java_syntax.specs.declared.declaration_trees.Member.TheVariants as members
use Rattle.java_syntax.specs.declared.declaration_trees.Unit as tree
use Rattle.java_syntax.specs.declared.settings.Settings.{Settings}
use Rattle.program_model.specs.declared.kinds.MethodId.{MethodId}
use Rattle.program_model.specs.declared.program.Class.{Class}
use Rattle.program_model.specs.declared.program.Method.{Method}
use Rattle.program_model.specs.declared.program.Program.{Program}
use Rattle.program_model.specs.Lookups.{class_at, method_at}
use Rattle.program_model.specs.Overrides.{methods_in, methods_of}
use Rattle.class_names.specs.declared.class_name.ClassName.{ClassName}
use Rattle.class_names.specs.ClassNames.{class_number}
use Rattle.class_table.specs.ClassOrderDeclarations.{Declaration, class_names, compilation_unit, declared_from, declared_in, name_of}
use Rattle.class_table.specs.ClassOrderDeclarations as order
use Rattle.method_bodies.specs.Modifiers.{has_abstract}
use Rattle.class_table.specs.ClassDeclarationsMembers.{Written, MethodOf, ConstructorOf, ImpliedConstructor, ConstantOf, constants_among, implied_constructor, is_abstract_in, is_constant, is_constructor, kind_of, parameters_of, written_by, written_by_all, written_in}
use Rattle.class_table.specs.Methods.{IsMethod, IsParameter}
use Rattle.class_table.specs.Passes.{classes_of}
use Rattle.class_table.specs.Table.{IsTable}
use Rattle.java_elaboration.specs.SourceClasses.{SourceClass, declarations, library_classes, numbered_from, source_classes}
use Rattle.elaboration_laws.proofs.TableNames.{library_names_are}
use Rattle.elaboration_laws.specs.SourceBodies.{source_declaration, table_declaration}
use Rattle.elaboration_laws.proofs.TableMethods.{IsListed, listed_count, listed_methods}

-- ---- what is written in a class of the source files: names and units have no part in it

abbrev pub plain_by : Member → List Written
plain_by (members.Field f) = []
plain_by (members.Method m) = MethodOf m ∷ []
plain_by (members.Constructor k) = ConstructorOf k ∷ []

abbrev pub plain_written : ClassDecl → List Written
plain_written t = cond (not (t.is_interface || list_any is_constructor t.members.items)) (ImpliedConstructor t.name.pos ∷ []) [] ++ flat_map plain_by t.members.items

member_plain : (names : List ClassName) (d : Declaration) (m : Member) → d.unit.library ≡ false → written_by names d m ≡ plain_by m
member_plain names d (members.Field f) own = ap (λ b. cond (b && is_constant names d f) (constants_among f f.variables.items) []) own
member_plain names d (members.Method m) own = refl
member_plain names d (members.Constructor k) own = refl

members_plain : (names : List ClassName) (d : Declaration) (ms : List Member) → d.unit.library ≡ false → written_by_all names d ms ≡ flat_map plain_by ms
members_plain names d [] own = refl
members_plain names d (m ∷ ms) own = ap (λ (ws : List Written). ws ++ written_by_all names d ms) (member_plain names d m own) ∙ ap (λ (ws : List Written). plain_by m ++ ws) (members_plain names d ms own)

pub written_plain : (names : List ClassName) (d : Declaration) → d.unit.library ≡ false → written_in names d ≡ plain_written d.class_tree
written_plain names d own = ap (λ (ws : List Written). implied_constructor d ++ ws) (members_plain names d d.class_tree.members.items own)

-- ---- the classes of the source files

-- a class of the source files, by what is declared and by what the table is made of
pub record IsLinked (table source : ℕ → Option Declaration) (c : SourceClass) : Type 0 where
  pub declaration : Declaration
  pub at : table c.class'.0 ≡ Some declaration
  pub class_tree : declaration.class_tree ≡ c.declaration.class_tree
  pub in_table : declaration.unit.library ≡ false
  pub in_source : c.declaration.unit.library ≡ false
  pub written : source c.class'.0 ≡ Some c.declaration

abbrev pub IsSame : Declaration → Declaration → Type 0
IsSame d x = (x.class_tree ≡ d.class_tree) × (x.unit.library ≡ false) × (d.unit.library ≡ false)

both_zipped : {X Y : Type 0} (R : X → Y → Type 0) (xs xs' : List X) (ys ys' : List Y) → AllZip R xs ys → AllZip R xs' ys' → AllZip R (xs ++ xs') (ys ++ ys')
both_zipped R [] xs' [] ys' first second = second
both_zipped R [] xs' (y ∷ ys) ys' first second = absurd first
both_zipped R (x ∷ xs) xs' [] ys' first second = absurd first
both_zipped R (x ∷ xs) xs' (y ∷ ys) ys' first second = (first.0, both_zipped R xs xs' ys ys' first.1 second)

same_in : (n m : ℕ) (u : tree.Unit) (ts : List ClassDecl) → AllZip IsSame (map (λ c. record { class_tree = c; unit = compilation_unit n false u }) ts) (map (λ c. record { class_tree = c; unit = compilation_unit m false u }) ts)
same_in n m u [] = tt
same_in n m u (t ∷ ts) = ((refl, refl, refl), same_in n m u ts)

pub same_units : (n m : ℕ) (us : List tree.Unit) → AllZip IsSame (declared_from n false us) (declared_from m false us)
same_units n m [] = tt
same_units n m (u ∷ us) = both_zipped IsSame (declared_in n false u) (declared_from (n + 1) false us) (declared_in m false u) (declared_from (m + 1) false us) (same_in n m u u.types.items) (same_units (n + 1) (m + 1) us)

linked : (table source : ℕ → Option Declaration) (first : ℕ) (ds own : List Declaration) → ((i : ℕ) → table (first + i) ≡ slice_get own i) → ((i : ℕ) → source (first + i) ≡ slice_get ds i) → AllZip IsSame ds own → All (IsLinked table source) (numbered_from first ds)
linked table source first [] own in_table in_source same = All-nil (IsLinked table source)
linked table source first (d ∷ ds) [] in_table in_source same = absurd same
linked table source first (d ∷ ds) (x ∷ own) in_table in_source same =
    let start : first ≡ first + 0 = omega arith in
    let next : (i : ℕ) → first + 1 + i ≡ first + suc i = λ i. omega arith in
    All-cons (IsLinked table source) (record { class' = class_number first; declaration = d }) (numbered_from (first + 1) ds)
    (record { declaration = x; at = ap table start ∙ in_table 0; class_tree = same.0.0; in_table = same.0.1; in_source = same.0.2; written = ap source start ∙ in_source 0 })
    (linked table source (first + 1) ds own (λ i. ap table (next i) ∙ in_table (suc i)) (λ i. ap source (next i) ∙ in_source (suc i)) same.1)

behind : (xs ys : List Declaration) (i : ℕ) → slice_get (xs ++ ys) (length xs + i) ≡ slice_get ys i
behind [] ys i = let start : 0 + i ≡ i = omega arith in ap (λ n. slice_get ys n) start
behind (x ∷ xs) ys i = let next : suc (length xs) + i ≡ suc (length xs + i) = omega arith in ap (λ n. slice_get (x ∷ (xs ++ ys)) n) next ∙ behind xs ys i

-- how many classes of the stubs the table has
pub library_count : (units stubs : List tree.Unit) (settings : Settings) (p : Program) → IsTable (classes_of units stubs settings) settings p → length (library_classes p) ≡ length (order.library_classes settings.core (declared_from 0 true stubs))
library_count units stubs settings p t =
    let kept : List Declaration = order.library_classes settings.core (declared_from 0 true stubs) in
    sym (length-map (library_classes p) (λ (k : Class). k.name)) ∙ ap length (library_names_are units stubs settings p t) ∙ length-map kept name_of

pub linked_classes : (units stubs : List tree.Unit) (settings : Settings) (p : Program) → IsTable (classes_of units stubs settings) settings p → All (IsLinked (table_declaration units stubs settings) (source_declaration p units)) (source_classes p units)
linked_classes units stubs settings p t =
    let kept : List Declaration = order.library_classes settings.core (declared_from 0 true stubs) in
    let own : List Declaration = declared_from (length stubs) false units in
    let first : ℕ = length (library_classes p) in
    let count : first ≡ length kept = library_count units stubs settings p t in
    linked (table_declaration units stubs settings) (source_declaration p units) first (declarations units) own
    (λ i. ap (λ n. slice_get (kept ++ own) (n + i)) count ∙ behind kept own i)
    (λ i. (let from : first + i - first ≡ i = omega arith in ap (λ n. slice_get (declarations units) n) from))
    (same_units 0 (length stubs) units)

-- ---- their methods

-- whether a method is abstract says its class's tree alone
abstract_same : (d x : Declaration) (w : Written) → d.class_tree ≡ x.class_tree → d.unit.library ≡ false → x.unit.library ≡ false → is_abstract_in d w ≡ is_abstract_in x w
abstract_same d x (MethodOf m) same in_table in_source =
    let library : d.unit.library ≡ x.unit.library = in_table ∙ sym in_source in
    λ i. (same i).is_interface || (not (library i) && has_abstract m.modifiers.items)
abstract_same d x (ConstructorOf k) same in_table in_source = refl
abstract_same d x (ImpliedConstructor place) same in_table in_source = refl
abstract_same d x (ConstantOf f v) same in_table in_source = refl

-- the method of the class that is written so
abbrev pub IsMethodOf : SourceClass → Written → Method → Type 0
IsMethodOf c w m = (m.class ≡ c.class') × (m.kind ≡ kind_of w) × (length (parameters_of w) ≡ length m.sig.params.items) × (m.is_abstract ≡ is_abstract_in c.declaration w)

abbrev pub IsOwnMethod : Program → SourceClass → MethodId × Written → Type 0
IsOwnMethod p c w = IsSomeAnd (method_at p w.0) (IsMethodOf c w.1)

zip_long : {X Y : Type 0} (R : X → Y → Type 0) (xs : List X) (ys : List Y) → AllZip R xs ys → length xs ≡ length ys
zip_long R [] [] all = refl
zip_long R [] (y ∷ ys) all = absurd all
zip_long R (x ∷ xs) [] all = absurd all
zip_long R (x ∷ xs) (y ∷ ys) all = ap suc (zip_long R xs ys all.1)

own_method : (names : List ClassName) (c : SourceClass) (d : Declaration) (w : Written) (m : Method) → d.class_tree ≡ c.declaration.class_tree → d.unit.library ≡ false → c.declaration.unit.library ≡ false → IsMethod names (record { class' = c.class'; declaration = d; written = w }) m → IsMethodOf c w m
own_method names c d w m same in_table in_source is =
    (is.class', is.kind, zip_long (IsParameter names d.unit) (parameters_of w) m.sig.params.items is.signature.params, is.abstract ∙ abstract_same d c.declaration w same in_table in_source)

some_weaker : (P Q : Method → Type 0) → ((m : Method) → P m → Q m) → (o : Option Method) → IsSomeAnd o P → IsSomeAnd o Q
some_weaker P Q f None h = h
some_weaker P Q f (Some m) h = f m h

-- what is written in the class, by the source files and by the table
written_same : (names all_names : List ClassName) (table source : ℕ → Option Declaration) (c : SourceClass) (l : IsLinked table source c) → written_in all_names l.declaration ≡ written_in names c.declaration
written_same names all_names table source c l = written_plain all_names l.declaration l.in_table ∙ ap plain_written l.class_tree ∙ sym (written_plain names c.declaration l.in_source)

pub own_methods : (units stubs : List tree.Unit) (settings : Settings) (p : Program) → IsTable (classes_of units stubs settings) settings p → (names : List ClassName) (c : SourceClass) → IsLinked (table_declaration units stubs settings) (source_declaration p units) c → All (IsOwnMethod p c) (zip (methods_of p c.class') (written_in names c.declaration))
own_methods units stubs settings p t names c l = by (class_at p c.class') refl
  where
    by : (o : Option Class) → class_at p c.class' ≡ o → All (IsOwnMethod p c) (zip (methods_in o) (written_in names c.declaration))
    by None at = All-nil (IsOwnMethod p c)
    by (Some k) at =
        let whole : List Declaration = classes_of units stubs settings in
        let all_names : List ClassName = class_names whole in
        let d : Declaration = l.declaration in
        let P : MethodId × Written → Type 0 = IsListed all_names (λ n. slice_get p.methods.items n) c.class' d in
        let listed = listed_methods all_names whole p.methods.items c.class'.0 d k.methods.items t.methods l.at (t.members c.class'.0 d k l.at at).methods in
        let same : written_in all_names d ≡ written_in names c.declaration = written_same names all_names (table_declaration units stubs settings) (source_declaration p units) c l in
        let moved : All P (zip k.methods.items (written_in names c.declaration)) = subst (λ (ws : List Written). All P (zip k.methods.items ws)) same listed in
        All-weaker P (IsOwnMethod p c) (λ w one. some_weaker (IsMethod all_names (record { class' = c.class'; declaration = d; written = w.1 })) (IsMethodOf c w.1) (λ m is. own_method all_names c d w.1 m l.class_tree l.in_table l.in_source is) (method_at p w.0) one) (zip k.methods.items (written_in names c.declaration)) moved

-- the class lists as many methods as are written in it
pub own_count : (units stubs : List tree.Unit) (settings : Settings) (p : Program) → IsTable (classes_of units stubs settings) settings p → (names : List ClassName) (c : SourceClass) → IsLinked (table_declaration units stubs settings) (source_declaration p units) c → (k : Class) → class_at p c.class' ≡ Some k → length k.methods.items ≡ length (written_in names c.declaration)
own_count units stubs settings p t names c l k at =
    let whole : List Declaration = classes_of units stubs settings in
    let all_names : List ClassName = class_names whole in
    let d : Declaration = l.declaration in
    listed_count all_names whole p.methods.items c.class'.0 d k.methods.items t.methods l.at (t.members c.class'.0 d k l.at at).methods
    ∙ ap length (written_same names all_names (table_declaration units stubs settings) (source_declaration p units) c l)

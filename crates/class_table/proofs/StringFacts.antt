-- `java.lang.String` is the one class of its name, and what is written as a type may be declared.
use Rattle.std.proofs.Common.{◌≡◌, ◌∙◌, sym, ap, refl, subst, arith, ⊎_elim, ℕ, zero, suc, ◌<◌, zero-add, Bool, true, false, cond, ◌||◌, Option, Some, None, List, [], ◌∷◌, length, get_or, take, codes}
use Rattle.std.specs.Prelude.{slice_get, Contains, filter}
use Rattle.std.specs.List.{list_any, range_with_len}
use Rattle.std.specs.Option.{option_map}
use Rattle.std.specs.Str.{bytes_eq}
use Rattle.std.proofs.lemmas.Bool.{cases_eq, cases_lt, eq-eqb, eqb-true}
use Rattle.std.proofs.lemmas.List.{get_or-take, length-map, length-take-le}
use Rattle.std.proofs.lemmas.List.FromFn.{get_or-range_with_len, length-range_with_len}
use Rattle.std.proofs.lemmas.Option.{same_Some, slice_get-get_or, slice_get-map}
use Rattle.std.proofs.lemmas.Slice.Eq.{bytes_eq-Decides}
use Rattle.java_syntax.specs.declared.names.Typ.{Typ}
use Rattle.java_syntax.specs.declared.names.TypeName.{TypeName}
use Rattle.java_syntax.specs.declared.names.TypeName.TheVariants as names
use Rattle.java_syntax.specs.declared.settings.Settings.{Settings}
use Rattle.program_model.specs.declared.kinds.ClassId.{ClassId}
use Rattle.program_model.specs.declared.kinds.VType.{VType}
use Rattle.program_model.specs.declared.kinds.VType.TheVariants as types
use Rattle.program_model.specs.declared.program.Program.{Program}
use Rattle.program_model.specs.SuperTests.{is_class}
use Rattle.program_model.specs.Typing.{IsDeclarable}
use Rattle.program_model.specs.Validity as validity
use Rattle.class_names.specs.declared.class_name.ClassName.{ClassName}
use Rattle.class_names.specs.declared.meaning.Meaning.{Meaning}
use Rattle.class_names.specs.declared.meaning.Meaning.TheVariants.{Named, NoClass, TwoClasses}
use Rattle.class_names.specs.ClassNames.{class_at, class_of_name, doubles, is_among_if_some, is_double, name_of_class, names_of}
use Rattle.class_names.specs.Meanings.{CompilationUnit, has, meaning_of}
use Rattle.class_names.specs.WrittenTypes.{class_type, is_string, primitive_of, primitive_type, string_type, type_of_class, type_of_meaning, type_of_name, written_type}
use Rattle.class_order.specs.Cases.{double_at, double_case, double_cases}
use Rattle.class_order.specs.Declarations.{Declaration, class_name_of, class_names}
use Rattle.class_headers.proofs.KnownLemmas.{IsWithin, meaning_within}
use Rattle.class_table.specs.Table.{IsTable}
use Rattle.class_table.proofs.NameFacts.{core_within, name_first, name_found}
use Rattle.class_table.proofs.NoCases.{none_in}
use Rattle.class_table.proofs.TableFacts.{some_at, table_long}

-- ---- one class of each name

filter_by : {X : Type 0} (p : X → Bool) (b : Bool) (x y : X) (xs : List X) → p x ≡ true → p y ≡ b → Contains (y ∷ xs) x → (Contains xs x → Contains (filter p xs) x) → Contains (cond b (y ∷ filter p xs) (filter p xs)) x
filter_by p true x y xs passes is (zero, within, at) rest = (zero, (omega arith), at)
filter_by p true x y xs passes is (suc k, within, at) rest = let found = rest (k, (omega arith), at) in (suc found.0, (let below = found.1 in omega arith), found.2)
filter_by p false x y xs passes is (zero, within, at) rest = absurd (let same = ap p at in cc)
filter_by p false x y xs passes is (suc k, within, at) rest = rest (k, (omega arith), at)

filter_has : {X : Type 0} (p : X → Bool) (xs : List X) (x : X) → p x ≡ true → Contains xs x → Contains (filter p xs) x
filter_has p [] x passes has = absurd (let never = has.1 in omega arith)
filter_has p (y ∷ ys) x passes has = filter_by p (p y) x y ys passes refl has (filter_has p ys x passes)

any_by : (a b : Bool) → a ≡ true → (a || b) ≡ true
any_by true b is = refl
any_by false b is = cc

any_or : (a b : Bool) → b ≡ true → (a || b) ≡ true
any_or true b is = refl
any_or false b is = is

any_has : {X : Type 0} (p : X → Bool) (xs : List X) (i : ℕ) (d : X) → i < length xs → p (get_or xs i d) ≡ true → list_any p xs ≡ true
any_has p [] i d within is = absurd (omega arith)
any_has p (x ∷ xs) zero d within is = any_by (p x) (list_any p xs) is
any_has p (x ∷ xs) (suc i) d within is = any_or (p x) (list_any p xs) (any_has p xs i d (omega arith) is)

no_double : (o : Option Declaration) (d : Declaration) → o ≡ Some d → double_at o ≡ [] → ⊥
no_double (Some e) d is none = cc
no_double None d is none = cc

one_name : (order : List Declaration) (i j : ℕ) → double_cases order ≡ [] → i < j → j < length order → get_or (names_of (class_names order)) i [] ≡ get_or (names_of (class_names order)) j [] → ⊥
one_name order i j none before within same =
    let ns = names_of (class_names order) in
    let long : length ns ≡ length order = length-map (class_names order) name_of_class ∙ length-map order class_name_of in
    let wide : length (class_names order) ≡ length order = length-map order class_name_of in
    let name = get_or ns j [] in
    let inside : j < length ns = omega arith in
    let at : slice_get ns j ≡ Some name = slice_get-get_or ns j [] inside in
    let taken : i < length (take j ns) = let part = length-take-le j ns (omega arith) in omega arith in
    let equal : bytes_eq name (get_or (take j ns) i []) ≡ true = (bytes_eq-Decides name (get_or (take j ns) i [])).1 (sym same ∙ sym (get_or-take j ns i [] before)) in
    let double : is_double ns j ≡ true = ap (λ o. is_among_if_some (take j ns) o) at ∙ any_has (bytes_eq name) (take j ns) i [] taken equal in
    let range = range_with_len 0 (length (class_names order)) in
    let below : j < length range = let count = length-range_with_len 0 (length (class_names order)) in omega arith in
    let listed : Contains range j = (j, below, get_or-range_with_len 0 (length (class_names order)) j j (omega arith) ∙ zero-add j) in
    let d = some_at order j within in
    no_double (slice_get order j) d.0 d.1 (none_in (double_case order) (doubles (class_names order)) j none (filter_has (is_double ns) range j double listed))

-- ---- the class of strings

same_bools : (a b : Bool) → (a ≡ true → b ≡ true) → (b ≡ true → a ≡ true) → a ≡ b
same_bools true b f g = sym (f refl)
same_bools false true f g = g refl
same_bools false false f g = refl

has_name : (classes : List ClassName) (c : ClassId) → c.0 < length classes → has is_string (class_at classes c) ≡ bytes_eq (get_or (names_of classes) c.0 []) (codes "java.lang.String")
has_name classes c within =
    let k = some_at classes c.0 within in
    let at : slice_get (names_of classes) c.0 ≡ Some (name_of_class k.0) = slice_get-map name_of_class classes c.0 ∙ ap (option_map name_of_class) k.1 in
    let long = length-map classes name_of_class in
    let inside : c.0 < length (names_of classes) = omega arith in
    ap (has is_string) k.1 ∙ ap (λ n. bytes_eq n (codes "java.lang.String")) (same_Some (name_of_class k.0) (get_or (names_of classes) c.0 []) (sym at ∙ slice_get-get_or (names_of classes) c.0 [] inside))

pub string_class : (order : List Declaration) (s c : ClassId) → double_cases order ≡ [] → class_of_name (class_names order) (codes "java.lang.String") ≡ Some s → c.0 < length order → has is_string (class_at (class_names order) c) ≡ is_class c s
string_class order s c none is within =
    let classes = class_names order in
    let text = codes "java.lang.String" in
    let wide : length classes ≡ length order = length-map order class_name_of in
    let below = core_within order text s is in
    let found = name_found classes text s is in
    let tested = has_name classes c (omega arith) in
    same_bools (has is_string (class_at classes c)) (is_class c s)
    (λ yes. (
    let named : get_or (names_of classes) c.0 [] ≡ text = (bytes_eq-Decides (get_or (names_of classes) c.0 []) text).0 (sym tested ∙ yes) in
    ⊎_elim (λ same. eq-eqb c.0 s.0 same)
    (λ other. ⊎_elim
    (λ before. absurd (name_first classes text s c.0 is before (sym named)))
    (λ behind. absurd (one_name order s.0 c.0 none (omega (arith, other)) within (sym found ∙ sym named)))
    (cases_lt c.0 s.0))
    (cases_eq c.0 s.0)))
    (λ equal. (
    let number : c.0 ≡ s.0 = eqb-true c.0 s.0 equal in
    tested ∙ (bytes_eq-Decides (get_or (names_of classes) c.0 []) text).1 (ap (λ n. get_or (names_of classes) n []) number ∙ sym found)))

-- ---- types that may be declared

class_declarable : (order : List Declaration) (settings : Settings) (p : Program) → IsTable order settings p → double_cases order ≡ [] → (c : ClassId) (is_array b : Bool) (v : VType) → c.0 < length order → has is_string (class_at (class_names order) c) ≡ b
    → cond b (Some (string_type is_array)) (class_type c is_array) ≡ Some v → IsDeclarable p v
class_declarable order settings p t none c true true v within is typ = subst (IsDeclarable p) (same_Some _ v typ) tt
class_declarable order settings p t none c false true v within is typ = subst (IsDeclarable p) (same_Some _ v typ) tt
class_declarable order settings p t none c true false v within is typ = let never : None ≡ Some v = typ in cc
class_declarable order settings p t none c false false v within is typ =
    let long = table_long order settings p t in
    let other : c ≡ p.core.string → ⊥ = λ same. (
    let tested = string_class order p.core.string c none t.core.roots.string within in
    let equal : is_class c p.core.string ≡ true = eq-eqb c.0 p.core.string.0 (ap (λ (d : ClassId). d.0) same) in
    cc) in
    subst (IsDeclarable p) (same_Some (types.Obj c) v typ) ((omega arith), other)

meaning_declarable : (order : List Declaration) (settings : Settings) (p : Program) → IsTable order settings p → double_cases order ≡ [] → (m : Meaning) (is_array : Bool) (v : VType) → IsWithin (length (class_names order)) m → type_of_meaning (class_names order) m is_array ≡ Some v → IsDeclarable p v
meaning_declarable order settings p t none (Named c) is_array v within typ =
    let wide = length-map order class_name_of in
    class_declarable order settings p t none c is_array (has is_string (class_at (class_names order) c)) v (omega arith) refl typ
meaning_declarable order settings p t none NoClass is_array v within typ = let never : None ≡ Some v = typ in cc
meaning_declarable order settings p t none TwoClasses is_array v within typ = let never : None ≡ Some v = typ in cc

name_declarable : (order : List Declaration) (settings : Settings) (p : Program) → IsTable order settings p → double_cases order ≡ [] → (u : CompilationUnit) (n : TypeName) (is_array : Bool) (v : VType) → type_of_name (class_names order) u n is_array ≡ Some v → IsDeclarable p v
name_declarable order settings p t none u (names.Primitive w) true v typ = subst (IsDeclarable p) (same_Some (primitive_type (primitive_of w) true) v typ) tt
name_declarable order settings p t none u (names.Primitive w) false v typ = subst (IsDeclarable p) (same_Some (primitive_type (primitive_of w) false) v typ) tt
name_declarable order settings p t none u (names.Named name) is_array v typ =
    meaning_declarable order settings p t none (meaning_of (class_names order) u name) is_array v (meaning_within (class_names order) u name) typ

-- a written type may be declared
pub declarable : (order : List Declaration) (settings : Settings) (p : Program) → IsTable order settings p → double_cases order ≡ [] → (u : CompilationUnit) (w : Typ) (v : VType) → written_type (class_names order) u w ≡ Some v → IsDeclarable p v
declarable order settings p t none u w v typ = name_declarable order settings p t none u w.name w.is_array v typ

-- ---- the type of `this`

this_by : (c s : ClassId) (b : Bool) (v : VType) → is_class c s ≡ b → cond b (Some types.Str) (Some (types.Obj c)) ≡ Some v → v ≡ cond b types.Str (types.Obj c)
this_by c s true v is typ = sym (same_Some types.Str v typ)
this_by c s false v is typ = sym (same_Some (types.Obj c) v typ)

pub type_of_this : (order : List Declaration) (p : Program) (c : ClassId) (v : VType) → double_cases order ≡ [] → class_of_name (class_names order) (codes "java.lang.String") ≡ Some p.core.string → c.0 < length order
    → type_of_class (class_names order) c false ≡ Some v → v ≡ validity.type_of_class p c
type_of_this order p c v none is within typ =
    let tested = string_class order p.core.string c none is within in
    let T : Bool → Type 0 = λ b. cond b (Some types.Str) (Some (types.Obj c)) ≡ Some v in
    this_by c p.core.string (is_class c p.core.string) v refl (subst T tested typ)

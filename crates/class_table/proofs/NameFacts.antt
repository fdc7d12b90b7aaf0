-- The classes that the language names are found in the table by their names, and their exceptions stand as it says.
use Rattle.std.proofs.Common.{◌≡◌, ◌∙◌, sym, ap, subst, arith, inr, ℕ, ◌<◌, Option, Some, None, List, [], length, get_or, codes, refl}
use Rattle.std.specs.Prelude.{slice_get, position}
use Rattle.std.specs.Option.{IsSomeAnd, option_map}
use Rattle.std.specs.Str.{bytes_eq}
use Rattle.std.proofs.lemmas.List.{length-map}
use Rattle.std.proofs.lemmas.List.Quantifiers.{position-Some}
use Rattle.std.proofs.lemmas.Option.{get_or_from_slice_get, same_Some, slice_get-map}
use Rattle.std.proofs.lemmas.Slice.Eq.{bytes_eq-Decides}
use Rattle.java_syntax.specs.declared.settings.Settings.{Settings}
use Rattle.program_model.specs.declared.kinds.ClassId.{ClassId}
use Rattle.program_model.specs.declared.program.Class.{Class}
use Rattle.program_model.specs.declared.program.Program.{Program}
use Rattle.program_model.specs.Hierarchy as model
use Rattle.program_model.specs.Validity.{HasCoreClasses, HasExceptionClasses, IsNamed}
use Rattle.class_names.specs.declared.class_name.ClassName.{ClassName}
use Rattle.class_names.specs.ClassNames.{class_number, class_of_name, name_of_class, names_of}
use Rattle.class_order.specs.Cases.{IsLeast}
use Rattle.class_order.specs.Declarations.{Declaration, class_name_of, class_names, name_of}
use Rattle.class_headers.specs.SuperTypes.{IsUnder}
use Rattle.class_headers.proofs.KnownLemmas.{found_within}
use Rattle.super_obligations.specs.SuperCases.{HasExceptions, core_misplaced, direct_in}
use Rattle.super_obligations.specs.SuperPass.{IsSuperCase}
use Rattle.class_table.specs.Table.{IsTable}
use Rattle.class_table.proofs.TableFacts.{declared_class, some_at, stable_under, table_long}

-- ---- names

place_of_name : (o : Option ℕ) (c : ClassId) → option_map class_number o ≡ Some c → o ≡ Some c.0
place_of_name (Some n) c is = ap (λ (d : ClassId). Some d.0) (same_Some (class_number n) c is)
place_of_name None c is = let never : None ≡ Some c = is in cc

-- what stands at the place of a name is the name
pub name_found : (classes : List ClassName) (name : List ℕ) (c : ClassId) → class_of_name classes name ≡ Some c → name ≡ get_or (names_of classes) c.0 []
name_found classes name c is =
    let found = position-Some (bytes_eq name) (names_of classes) c.0 [] (place_of_name (position (bytes_eq name) (names_of classes)) c is) in
    (bytes_eq-Decides name (get_or (names_of classes) c.0 [])).0 found.1

-- each class before it has another name
pub name_first : (classes : List ClassName) (name : List ℕ) (c : ClassId) (n : ℕ) → class_of_name classes name ≡ Some c → n < c.0 → name ≡ get_or (names_of classes) n [] → ⊥
name_first classes name c n is before same =
    let found = position-Some (bytes_eq name) (names_of classes) c.0 [] (place_of_name (position (bytes_eq name) (names_of classes)) c is) in
    let no = found.2 n before in
    let yes = (bytes_eq-Decides name (get_or (names_of classes) n [])).1 same in
    cc

pub name_here : (order : List Declaration) (n : ℕ) (d : Declaration) → slice_get order n ≡ Some d → get_or (names_of (class_names order)) n [] ≡ name_of d
name_here order n d at =
    get_or_from_slice_get (names_of (class_names order)) n (name_of d) []
    (slice_get-map name_of_class (class_names order) n ∙ ap (option_map name_of_class) (slice_get-map class_name_of order n ∙ ap (option_map class_name_of) at))

named : (order : List Declaration) (settings : Settings) (p : Program) → IsTable order settings p → (c : ClassId) (name : List ℕ) → class_of_name (class_names order) name ≡ Some c → IsNamed p c name
named order settings p t c name is =
    let within = found_within (class_names order) name c is in
    let k = some_at p.classes.items c.0 (let long = table_long order settings p t in let same = length-map order class_name_of in omega (arith, within, long, same)) in
    let d = declared_class order settings p t c k.0 k.1 in
    let N : Option Class → Type 0 = λ o. IsSomeAnd o (λ (x : Class). x.name ≡ name) in
    subst N (sym k.1) (ap (λ h. h.name) d.header ∙ sym (name_here order c.0 d.declaration d.at) ∙ sym (name_found (class_names order) name c is))

pub core_named : (order : List Declaration) (settings : Settings) (p : Program) → IsTable order settings p → HasCoreClasses p
core_named order settings p t =
    let roots = t.core.roots in
    let thrown = t.core.thrown in
    record {
      object = named order settings p t p.core.object (codes "java.lang.Object") roots.object;
      string = named order settings p t p.core.string (codes "java.lang.String") roots.string;
      throwable = named order settings p t p.core.throwable (codes "java.lang.Throwable") roots.throwable;
      error = named order settings p t p.core.error (codes "java.lang.Error") roots.error;
      runtime_exception = named order settings p t p.core.runtime_exception (codes "java.lang.RuntimeException") roots.runtime;
      arithmetic_exception = named order settings p t p.core.arithmetic_exception (codes "java.lang.ArithmeticException") thrown.arithmetic;
      array_index_exception = named order settings p t p.core.array_index_exception (codes "java.lang.ArrayIndexOutOfBoundsException") thrown.array_index;
      class_cast_exception = named order settings p t p.core.class_cast_exception (codes "java.lang.ClassCastException") thrown.class_cast;
      negative_array_size_exception = named order settings p t p.core.negative_array_size_exception (codes "java.lang.NegativeArraySizeException") thrown.negative_array_size;
      null_pointer_exception = named order settings p t p.core.null_pointer_exception (codes "java.lang.NullPointerException") thrown.null_pointer;
    }

-- ---- exceptions

pub core_within : (order : List Declaration) (name : List ℕ) (c : ClassId) → class_of_name (class_names order) name ≡ Some c → c.0 < length order
core_within order name c is = let within = found_within (class_names order) name c is in let same = length-map order class_name_of in omega (arith, within, same)

pub core_exceptions : (order : List Declaration) (settings : Settings) (p : Program) → IsTable order settings p → model.IsHierarchy p → IsLeast (IsSuperCase order p.core) None → HasExceptionClasses p
core_exceptions order settings p t hierarchy none =
    let direct = direct_in order p.core in
    let roots = t.core.roots in
    let thrown = t.core.thrown in
    let told : (HasExceptions direct p.core → ⊥) → ⊥ = λ no. none core_misplaced (inr (inr (inr ((λ h. no h.exceptions), refl)))) in
    let under : (c d : ClassId) → c.0 < length order → (HasExceptions direct p.core → IsUnder direct c d) → model.IsUnder p c d =
    λ c d below part. stable_under order settings p t hierarchy c d below (λ no. told (λ h. no (part h))) in
    record {
      error = under p.core.error p.core.throwable (core_within order (codes "java.lang.Error") p.core.error roots.error) (λ h. h.error);
      runtime_exception = under p.core.runtime_exception p.core.throwable (core_within order (codes "java.lang.RuntimeException") p.core.runtime_exception roots.runtime) (λ h. h.runtime_exception);
      arithmetic_exception = under p.core.arithmetic_exception p.core.runtime_exception (core_within order (codes "java.lang.ArithmeticException") p.core.arithmetic_exception thrown.arithmetic) (λ h. h.arithmetic_exception);
      array_index_exception = under p.core.array_index_exception p.core.runtime_exception (core_within order (codes "java.lang.ArrayIndexOutOfBoundsException") p.core.array_index_exception thrown.array_index) (λ h. h.array_index_exception);
      class_cast_exception = under p.core.class_cast_exception p.core.runtime_exception (core_within order (codes "java.lang.ClassCastException") p.core.class_cast_exception thrown.class_cast) (λ h. h.class_cast_exception);
      negative_array_size_exception = under p.core.negative_array_size_exception p.core.runtime_exception (core_within order (codes "java.lang.NegativeArraySizeException") p.core.negative_array_size_exception thrown.negative_array_size) (λ h. h.negative_array_size_exception);
      null_pointer_exception = under p.core.null_pointer_exception p.core.runtime_exception (core_within order (codes "java.lang.NullPointerException") p.core.null_pointer_exception thrown.null_pointer) (λ h. h.null_pointer_exception);
    }

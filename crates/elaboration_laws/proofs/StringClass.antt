-- The class of strings in a table that is built: it is a final class of the library, no class is under it but itself, and it is
-- no class of exceptions.
use Rattle.std.proofs.Common.{◌≡◌, ◌∙◌, sym, ap, refl, subst, arith, inl, inr, ⊎_elim, ℕ, zero, suc, ◌+◌, ◌<◌, zero-add, Bool, true, false, true≢false, not, ◌&&◌, ◌||◌, Option, Some, None, List, [], ◌∷◌, ◌++◌, length, codes, get_or}
use Rattle.std.specs.Prelude.{slice_get, Contains}
use Rattle.std.specs.List.{list_any, range_with_len}
use Rattle.std.proofs.lemmas.List.Elements.{Contains-append_cases}
use Rattle.std.proofs.lemmas.List.FromFn.{get_or-range_with_len, length-range_with_len}
use Rattle.std.proofs.lemmas.Option.{same_Some, slice_get_within}
use Rattle.std.proofs.lemmas.Slice.Eq.{bytes_eq-Decides}
use Rattle.rlc_base.specs.declared.code.Code.TheVariants as refused
use Rattle.java_syntax.specs.declared.settings.Settings.{Settings}
use Rattle.program_model.specs.declared.kinds.ClassId.{ClassId}
use Rattle.program_model.specs.declared.program.Class.{Class}
use Rattle.program_model.specs.declared.program.CoreClasses.{CoreClasses}
use Rattle.program_model.specs.declared.program.Program.{Program}
use Rattle.program_model.specs.Hierarchy.{IsDirectSuper, IsUnder, above, implied_super, itself}
use Rattle.program_model.specs.Lookups.{optional}
use Rattle.class_names.specs.declared.class_name.ClassName.{ClassName}
use Rattle.class_names.specs.ClassNames.{class_number, names_of}
use Rattle.class_table.specs.Cases.{IsLeast}
use Rattle.class_table.specs.ClassOrderDeclarations.{Declaration, class_names, place_of}
use Rattle.class_table.specs.ClassHeadersCases.{bad_super_case, bad_super_cases, bad_super_in, has_bad_super, is_extensible, is_extensible_at, is_final, is_interface, is_interface_at}
use Rattle.class_table.specs.SuperTypes.{SuperTypes, declared_supers, supers_from}
use Rattle.class_table.specs.SuperCases.{IsCoreLibrary, classes_above_interfaces, core_misplaced, direct_in, is_final_at, kind_cases, supers_in}
use Rattle.class_table.specs.SuperPass.{IsSuperCase}
use Rattle.class_table.specs.Passes.{IsBuilt}
use Rattle.class_table.specs.Table.{IsTable}
use Rattle.class_table.proofs.KnownLemmas.{none_left, where_none}
use Rattle.class_table.proofs.NameFacts.{core_within, name_found}
use Rattle.class_table.proofs.NoCases.{none_in, nothing_in}
use Rattle.class_table.proofs.TableFacts.{declared_class, some_at, table_long}

-- ---- what the pass over super types says

bool_told : (b : Bool) → ((b ≡ true → ⊥) → ⊥) → b ≡ true
bool_told true h = refl
bool_told false h = absurd (h (λ e. true≢false (sym e)))

core_told : (order : List Declaration) (core : CoreClasses) → IsLeast (IsSuperCase order core) None → (IsCoreLibrary order (direct_in order core) core → ⊥) → ⊥
core_told order core none wrong = none core_misplaced (inr (inr (inr (wrong, refl))))

pub string_final : (order : List Declaration) (core : CoreClasses) → IsLeast (IsSuperCase order core) None → is_final_at (slice_get order core.string.0) ≡ true
string_final order core none = bool_told (is_final_at (slice_get order core.string.0)) (λ wrong. core_told order core none (λ h. wrong h.string.final))

-- ---- a final class of the library

pub record IsFinalClass (d : Declaration) : Type 0 where
  pub library : d.unit.library ≡ true
  pub class' : d.class_tree.is_interface ≡ false
  pub final : is_final d.class_tree ≡ true

three_tests : (l i f : Bool) → (l && (not i && f)) ≡ true → (l ≡ true) × (i ≡ false) × (f ≡ true)
three_tests true false true is = (refl, refl, refl)
three_tests true false false is = absurd (true≢false (sym is))
three_tests true true f is = absurd (true≢false (sym is))
three_tests false i f is = absurd (true≢false (sym is))

final_class : (o : Option Declaration) → is_final_at o ≡ true → (d : Declaration) × (o ≡ Some d) × IsFinalClass d
final_class None is = absurd (true≢false (sym is))
final_class (Some d) is =
    let tests = three_tests d.unit.library d.class_tree.is_interface (is_final d.class_tree) is in
    (d, refl, record { library = tests.0; class' = tests.1; final = tests.2 })

not_extensible : (o : Option Declaration) → is_final_at o ≡ true → not (is_extensible_at o) ≡ true
not_extensible o is =
    let found = final_class o is in
    ap (λ x. not (is_extensible_at x)) found.1 ∙ (λ i. not (not (found.2.class' i || found.2.final i)))

not_interface : (o : Option Declaration) → is_final_at o ≡ true → not (is_interface_at o) ≡ true
not_interface o is =
    let found = final_class o is in
    ap (λ x. not (is_interface_at x)) found.1 ∙ ap not found.2.class'

-- ---- no class names it as a super type

either_left : (a b : Bool) → (a || b) ≡ false → a ≡ false
either_left true b is = absurd (true≢false is)
either_left false b is = refl

either_right : (a b : Bool) → (a || b) ≡ false → b ≡ false
either_right true b is = absurd (true≢false is)
either_right false b is = is

none_passes : {X : Type 0} (test : X → Bool) (xs : List X) (x : X) → list_any test xs ≡ false → Contains xs x → test x ≡ false
none_passes test [] x none has = absurd (let never = has.1 in omega arith)
none_passes test (y ∷ ys) x none (zero, within, at) = ap test (sym at) ∙ either_left (test y) (list_any test ys) none
none_passes test (y ∷ ys) x none (suc i, within, at) = none_passes test ys x (either_right (test y) (list_any test ys) none) (i, (omega arith), at)

-- the super types of the class with this number
supers_at : (classes : List ClassName) (object : ClassId) (ds : List Declaration) (first n : ℕ) (d : Declaration) → slice_get ds n ≡ Some d → slice_get (supers_from first classes object ds) n ≡ Some (declared_supers classes object (class_number (first + n)) d)
supers_at classes object [] first n d at = let never : None ≡ Some d = at in cc
supers_at classes object (x ∷ xs) first zero d at =
    let number : first ≡ first + 0 = omega arith in
    ap (λ y. Some (declared_supers classes object (class_number first) y)) (same_Some x d at)
    ∙ ap (λ m. Some (declared_supers classes object (class_number m) d)) number
supers_at classes object (x ∷ xs) first (suc n) d at =
    let number : first + 1 + n ≡ first + suc n = omega arith in
    supers_at classes object xs (first + 1) n d at ∙ ap (λ m. Some (declared_supers classes object (class_number m) d)) number

in_range : (count n : ℕ) → n < count → Contains (range_with_len 0 count) n
in_range count n within = (n, (let long = length-range_with_len 0 count in omega (arith, long, within)), get_or-range_with_len 0 count n n within ∙ zero-add n)

no_bad_super : (order : List Declaration) (core : CoreClasses) → IsLeast (IsSuperCase order core) None → (n : ℕ) (d : Declaration) → slice_get order n ≡ Some d → n < length order → has_bad_super order (declared_supers (class_names order) core.object (class_number n) d) ≡ false
no_bad_super order core none n d at within =
    let supers = supers_in order core in
    let own = declared_supers (class_names order) core.object (class_number n) d in
    let kinds : kind_cases order core ≡ [] = nothing_in (kind_cases order core) (λ r has. none r (inl has)) in
    let here : bad_super_case order supers n ≡ [] = none_in (bad_super_case order supers) (range_with_len 0 (length order)) n (none_left (bad_super_cases order supers) (classes_above_interfaces order) kinds) (in_range (length order) n within) in
    let number : 0 + n ≡ n = zero-add n in
    let row : slice_get supers n ≡ Some own = supers_at (class_names order) core.object order 0 n d at ∙ ap (λ m. Some (declared_supers (class_names order) core.object (class_number m) d)) number in
    where_none (has_bad_super order own) refused.BadSuper (place_of d) (sym (λ i. bad_super_in order (row i) (at i)) ∙ here)

no_super : (order : List Declaration) (core : CoreClasses) → IsLeast (IsSuperCase order core) None → (s : SuperTypes) → has_bad_super order s ≡ false → Contains (optional s.super_class ++ s.interfaces) core.string → ⊥
no_super order core none s good has =
    let final = string_final order core none in
    let extends : Bool = list_any (λ c. not (is_extensible order c)) (optional s.super_class) in
    let implements : Bool = list_any (λ c. not (is_interface order c)) s.interfaces in
    ⊎_elim
    (λ first. true≢false (sym (not_extensible (slice_get order core.string.0) final) ∙ none_passes (λ c. not (is_extensible order c)) (optional s.super_class) core.string (either_left extends implements good) first))
    (λ second. true≢false (sym (not_interface (slice_get order core.string.0) final) ∙ none_passes (λ c. not (is_interface order c)) s.interfaces core.string (either_right extends implements good) second))
    (Contains-append_cases (optional s.super_class) s.interfaces core.string has)

-- ---- it is another class than `Object`

two_names : codes "java.lang.Object" ≡ codes "java.lang.String" → ⊥
two_names same = let test = (bytes_eq-Decides (codes "java.lang.Object") (codes "java.lang.String")).1 same in true≢false (sym test)

object_is_another : (order : List Declaration) (settings : Settings) (p : Program) → IsTable order settings p → p.core.object ≡ p.core.string → ⊥
object_is_another order settings p t same =
    let names = names_of (class_names order) in
    two_names (name_found (class_names order) (codes "java.lang.Object") p.core.object t.core.roots.object
    ∙ ap (λ (c : ClassId). get_or names c.0 []) same
    ∙ sym (name_found (class_names order) (codes "java.lang.String") p.core.string t.core.roots.string))

only_one : (c d : ClassId) → Contains (c ∷ []) d → c ≡ d
only_one c d (zero, within, at) = at
only_one c d (suc i, within, at) = absurd (omega arith)

not_implied : (p : Program) → (p.core.object ≡ p.core.string → ⊥) → (interface : Bool) → Contains (implied_super p interface) p.core.string → ⊥
not_implied p other true has = other (only_one p.core.object p.core.string has)
not_implied p other false has = let never = has.1 in omega arith

-- ---- no class is under it but itself

module _ (order : List Declaration) (settings : Settings) (p : Program) (built : IsBuilt order settings p) where
  supers_right : IsLeast (IsSuperCase order p.core) None
  supers_right = built.right.fit.supers

  not_right_under : (c : ClassId) → IsDirectSuper p c p.core.string → ⊥
  not_right_under c direct =
      let k : Class = direct.0 in
      let d = declared_class order settings p built.table c k direct.1 in
      let own = declared_supers (class_names order) p.core.object c d.declaration in
      let within : c.0 < length order = slice_get_within order c.0 d.declaration d.at in
      let good = no_bad_super order p.core supers_right c.0 d.declaration d.at within in
      let C : List ClassId → Type 0 = λ cs. Contains cs p.core.string in
      ⊎_elim
      (λ named. no_super order p.core supers_right own good (subst C (λ i. optional ((d.header i).super_class) ++ (d.header i).interfaces) named))
      (not_implied p (object_is_another order settings p built.table) k.interface)
      (Contains-append_cases (optional k.sup ++ k.faces.items) (implied_super p k.interface) p.core.string direct.2)

  under_string : (c d : ClassId) → IsUnder p c d → d ≡ p.core.string → c ≡ p.core.string
  under_string c d (itself x) is = is
  under_string c d (above x e y first rest) is =
      let D : ClassId → Type 0 = IsDirectSuper p x in
      absurd (not_right_under x (subst D (under_string e y rest is) first))

  pub only_string : (c : ClassId) → IsUnder p c p.core.string → c ≡ p.core.string
  only_string c under = under_string c p.core.string under refl

  -- ---- it is no class of exceptions

  string_below : p.core.string.0 < length order
  string_below = core_within order (codes "java.lang.String") p.core.string built.table.core.roots.string

  pub string_is_no_exception : IsUnder p p.core.string p.core.throwable → ⊥
  string_is_no_exception under =
      let s = p.core.string in
      let k = some_at p.classes.items s.0 (let long = table_long order settings p built.table in let below = string_below in omega (arith, long, below)) in
      let listed = ((built.valid.typed.hierarchy.supers s k.0 k.1).above.exact p.core.throwable).1 under in
      let direct = ((built.table.above s k.0 k.1).exact p.core.throwable).0 listed in
      core_told order p.core supers_right (λ h. h.string.no_exception direct)

  -- ---- it is of the library

  pub string_declared : (d : Declaration) × (slice_get order p.core.string.0 ≡ Some d) × IsFinalClass d
  string_declared = final_class (slice_get order p.core.string.0) (string_final order p.core supers_right)

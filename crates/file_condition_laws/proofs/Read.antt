-- What holds of the library of a table holds of that of the program of files, which has the classes and the heads of methods of its table.
use Rattle.std.proofs.Common.{◌≡◌, ◌∙◌, ap, refl, sym, subst, true≢false, Bool, true, false, ◌||◌, All, Option, Some, None, List, [], ◌∷◌, Contains}
use Rattle.std.specs.List.{list_any}
use Rattle.std.proofs.lemmas.List.Elements.{All-weaker}
use Rattle.rlc_base.specs.declared.code.Code.{Code}
use Rattle.rlc_base.specs.declared.code.Code.TheVariants as refused
use Rattle.rlc_base.specs.declared.faults.Refusal.{Refusal}
use Rattle.rlc_base.specs.declared.place.Pos.{Pos}
use Rattle.refusal_order.specs.Refusals.{refused_at, where_true}
use Rattle.program_model.specs.declared.kinds.ClassId.{ClassId}
use Rattle.program_model.specs.declared.kinds.MethodId.{MethodId}
use Rattle.program_model.specs.declared.kinds.MethodKind.TheVariants as methods
use Rattle.program_model.specs.declared.kinds.VType.TheVariants as types
use Rattle.program_model.specs.declared.program.Class.{Class}
use Rattle.program_model.specs.declared.program.CoreClasses.{CoreClasses}
use Rattle.program_model.specs.declared.program.Method.{Method}
use Rattle.program_model.specs.declared.program.Program.{Program}
use Rattle.program_model.specs.Hierarchy.{IsHierarchy, IsUnder}
use Rattle.program_model.specs.Lookups.{class_at, method_at}
use Rattle.program_model.specs.Overrides.{is_library, is_library_in}
use Rattle.program_model.specs.SuperTests.{classes_above, is_under}
use Rattle.program_model.proofs.HierarchyLaws.{is_under_law}
use Rattle.agreement.specs.AcceptedProgramsConditions.{HasWholeLibrary}
use Rattle.agreement.specs.LibraryClasses.{HasLightTexts, is_no_text_class, language_exceptions, makes_alias_text, renews_own_text}
use Rattle.must_call_sets.specs.MustCallSets.{is_heavy_class}
use Rattle.agreement.proofs.SignedTables.{at_equal, before}
use Rattle.acceptance_laws.specs.ClassOrderDeclarations.{Declaration}
use Rattle.acceptance_laws.specs.Passes.{IsBuilt, classes_of}
use Rattle.acceptance_laws.proofs.StringClass.{string_is_no_exception}
use Rattle.acceptance_laws.specs.SameTables.{HasSameHead, HaveSameTables, IsSameClass}
use Rattle.acceptance_laws.proofs.SignedTables.{signed_tables}
use Rattle.acceptance_laws.specs.Programs.{Input, IsProgram}
use Rattle.acceptance_laws.specs.TextCases.{has_bad_classes, has_bad_methods, text_cases_in}
use Rattle.acceptance_laws.specs.TypedPrograms.{IsTyped}
use Rattle.file_condition_laws.proofs.Library.{constants_of_library, exceptions_of_library, object_of_library, results_of_library, string_of_library, table_whole, throws_of_library}

library_class : (o : Option Class) → is_library_in o ≡ true → (k : Class) × (o ≡ Some k)
library_class None is = absurd (true≢false (sym is))
library_class (Some k) is = (k, refl)

same_library : (p q : Program) → HaveSameTables p q → (c : ClassId) → is_library p c ≡ is_library q c
same_library p q same c = at_equal IsSameClass is_library_in is_library_in p.classes.items q.classes.items c.0 same.classes refl (λ k j is. is.library)

same_whole : (p q : Program) → IsHierarchy p → IsHierarchy q → HaveSameTables p q → HasWholeLibrary p → HasWholeLibrary q
same_whole p q of_table own same whole c d under library =
    let k = library_class (class_at q c) library in
    let first = before IsSameClass p.classes.items q.classes.items c.0 k.0 same.classes k.1 in
    let listed : Contains k.0.above.items d = ((own.supers c k.0 k.1).above.exact d).1 under in
    let C : List ClassId → Type 0 = λ cs. Contains cs d in
    let there : IsUnder p c d = ((of_table.supers c first.0 first.1).above.exact d).0 (subst C (sym first.2.above) listed) in
    sym (same_library p q same d) ∙ whole c d there (same_library p q same c ∙ library)

-- ---- methods

same_results : (p q : Program) → HaveSameTables p q
    → ((m : MethodId) (x : Method) (c : ClassId) → method_at p m ≡ Some x → is_library p x.class ≡ true → x.sig.result ≡ Some (types.Obj c) → is_library p c ≡ true)
    → (m : MethodId) (x : Method) (c : ClassId) → method_at q m ≡ Some x → is_library q x.class ≡ true → x.sig.result ≡ Some (types.Obj c) → is_library q c ≡ true
same_results p q same results m x c at library gives =
    let first = before HasSameHead p.methods.items q.methods.items m.0 x same.methods at in
    sym (same_library p q same c)
    ∙ results m first.0 c first.1 (ap (is_library p) first.2.class' ∙ same_library p q same x.class ∙ library) (first.2.result ∙ gives)

same_throws : (p q : Program) → HaveSameTables p q
    → ((m : MethodId) (x : Method) → method_at p m ≡ Some x → is_library p x.class ≡ true → All (λ c. is_library p c ≡ true) x.sig.throws.items)
    → (m : MethodId) (x : Method) → method_at q m ≡ Some x → is_library q x.class ≡ true → All (λ c. is_library q c ≡ true) x.sig.throws.items
same_throws p q same throws m x at library =
    let first = before HasSameHead p.methods.items q.methods.items m.0 x same.methods at in
    let there = throws m first.0 first.1 (ap (is_library p) first.2.class' ∙ same_library p q same x.class ∙ library) in
    All-weaker (λ c. is_library p c ≡ true) (λ c. is_library q c ≡ true) (λ c is. sym (same_library p q same c) ∙ is) x.sig.throws.items
    (subst (λ (cs : List ClassId). All (λ c. is_library p c ≡ true) cs) first.2.throws there)

same_constants : (p q : Program) → HaveSameTables p q → ((m : MethodId) (x : Method) → method_at p m ≡ Some x → x.kind ≡ methods.Constant → is_library p x.class ≡ true)
    → (m : MethodId) (x : Method) → method_at q m ≡ Some x → x.kind ≡ methods.Constant → is_library q x.class ≡ true
same_constants p q same constants m x at constant =
    let first = before HasSameHead p.methods.items q.methods.items m.0 x same.methods at in
    sym (same_library p q same x.class) ∙ sym (ap (is_library p) first.2.class') ∙ constants m first.0 first.1 (first.2.kind ∙ constant)

-- ---- the class of strings

not_under : (b : Bool) → (b ≡ true → ⊥) → b ≡ false
not_under true never = absurd (never refl)
not_under false never = refl

-- a class of a program has the same classes above it in the other
same_under : (p q : Program) → IsHierarchy p → IsHierarchy q → HaveSameTables p q → (c d : ClassId) (k : Class) → class_at q c ≡ Some k → IsUnder q c d → IsUnder p c d
same_under p q of_table own same c d k at under =
    let first = before IsSameClass p.classes.items q.classes.items c.0 k same.classes at in
    let listed : Contains k.above.items d = ((own.supers c k at).above.exact d).1 under in
    ((of_table.supers c first.0 first.1).above.exact d).0 (subst (λ (cs : List ClassId). Contains cs d) (sym first.2.above) listed)

same_texts : (p q : Program) → IsHierarchy p → IsHierarchy q → HaveSameTables p q → is_library q q.core.string ≡ true → (IsUnder p p.core.string p.core.throwable → ⊥)
    → is_under q q.core.string q.core.throwable ≡ false
same_texts p q of_table own same library none =
    not_under (is_under q q.core.string q.core.throwable) (λ is.
    let k = library_class (class_at q q.core.string) library in
    let under = same_under p q of_table own same q.core.string q.core.throwable k.0 k.1 ((is_under_law q own q.core.string q.core.throwable).0 is) in
    none (subst (λ (core : CoreClasses). IsUnder p core.string core.throwable) (sym same.core) under))

-- ---- the program of the files

module _ (input : Input) (p : Program) (is : IsProgram input p) where
  abbrev table : Program
  table = is.is_typed.table

  abbrev order : List Declaration
  order = classes_of is.sources is.sections input.settings

  built : IsBuilt order input.settings table
  built = is.is_typed.built

  same : HaveSameTables table p
  same = signed_tables table is.typed p is.typed.bodies.items is.is_typed.elaborated.table is.annotated.signed

  pub read_gives : (m : MethodId) (x : Method) (c : ClassId) → method_at p m ≡ Some x → is_library p x.class ≡ true → x.sig.result ≡ Some (types.Obj c) → is_library p c ≡ true
  read_gives = same_results table p same (results_of_library order input.settings table built)

  pub read_throws : (m : MethodId) (x : Method) → method_at p m ≡ Some x → is_library p x.class ≡ true → All (λ c. is_library p c ≡ true) x.sig.throws.items
  read_throws = same_throws table p same (throws_of_library order input.settings table built)

  pub read_constants : (m : MethodId) (x : Method) → method_at p m ≡ Some x → x.kind ≡ methods.Constant → is_library p x.class ≡ true
  read_constants = same_constants table p same (constants_of_library order input.settings table built)

  -- a class that the language names is of the library where it is so in the table
  of_core : (name : CoreClasses → ClassId) → is_library table (name table.core) ≡ true → is_library p (name p.core) ≡ true
  of_core name library = ap (λ (core : CoreClasses). is_library p (name core)) (sym same.core) ∙ sym (same_library table p same (name table.core)) ∙ library

  pub read_roots : (is_library p p.core.object ≡ true) × (is_library p p.core.string ≡ true)
  read_roots = (of_core (λ k. k.object) (object_of_library order input.settings table built), of_core (λ k. k.string) (string_of_library order input.settings table built))

  pub read_exceptions : All (λ c. is_library p c ≡ true) (language_exceptions p.core)
  read_exceptions =
      subst (λ (core : CoreClasses). All (λ c. is_library p c ≡ true) (language_exceptions core)) same.core
      (All-weaker (λ c. is_library table c ≡ true) (λ c. is_library p c ≡ true) (λ c library. sym (same_library table p same c) ∙ library) (language_exceptions table.core)
      (exceptions_of_library order input.settings table built))

  pub read_texts : is_under p p.core.string p.core.throwable ≡ false
  read_texts =
      same_texts table p built.valid.typed.hierarchy is.well_formed.valid.typed.hierarchy same read_roots.1
      (string_is_no_exception order input.settings table built)

pub read_whole : (input : Input) (p : Program) → IsProgram input p → HasWholeLibrary p
read_whole input p is =
    let typed : IsTyped input.settings is.sections is.sources is.typed = is.is_typed in
    let table : Program = typed.table in
    same_whole table p typed.built.valid.typed.hierarchy is.well_formed.valid.typed.hierarchy
    (signed_tables table is.typed p is.typed.bodies.items typed.elaborated.table is.annotated.signed)
    (table_whole _ input.settings table typed.built)

-- ---- texts

pub not_refused : (b : Bool) (code : Code) (pos : Pos) → where_true b code pos ≡ [] → b ≡ false
not_refused true code pos none = absurd (let never : ◌≡◌ {A = List Refusal} (refused_at code pos ∷ []) [] = none in cc)
not_refused false code pos none = refl

pub neither : (a b : Bool) → (a || b) ≡ false → (a ≡ false) × (b ≡ false)
neither true b none = absurd (true≢false none)
neither false b none = (refl, none)

-- objects of class `String` owe no calls, and are no aliases
pub read_light_texts : (input : Input) (p : Program) → IsProgram input p → HasLightTexts p
read_light_texts input p is =
    let k = library_class (class_at p p.core.string) (read_roots input p is).1 in
    let cases : text_cases_in p (Some k.0) ≡ [] = sym (ap (text_cases_in p) k.1) ∙ is.right.texts in
    let none = neither (has_bad_classes p k.0) (has_bad_methods p) (not_refused (has_bad_classes p k.0 || has_bad_methods p) refused.BadAlias k.0.pos cases) in
    let classes = neither (list_any (is_heavy_class p) k.0.above.items) (list_any (is_no_text_class p) k.0.above.items) none.0 in
    let methods' = neither (list_any (makes_alias_text p) p.methods.items) (list_any (renews_own_text p) p.methods.items) none.1 in
    record {
      classes = ap (λ (o : Option Class). list_any (is_heavy_class p) (classes_above p.core.string o)) k.1 ∙ classes.0;
      above = ap (λ (o : Option Class). list_any (is_no_text_class p) (classes_above p.core.string o)) k.1 ∙ classes.1;
      constructors = methods'.0;
      resets = methods'.1;
    }

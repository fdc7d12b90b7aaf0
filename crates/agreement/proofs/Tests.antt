-- A program in hand meets the conditions where tests pass that compute over its tables.
use Rattle.std.proofs.Common.{◌≡◌, ◌∙◌, ◌&&◌, ◌||◌, ◌+◌, not, inl, ap, refl, sym, eqb-true, arith, Bool, true, false, ℕ, zero, suc, Option, Some, None, List, [], ◌∷◌, All, slice_get, true≢false}
use Rattle.std.specs.List.{list_all}
use Rattle.std.proofs.lemmas.Bool.{and_parts}
use Rattle.std.proofs.lemmas.List.Elements.{All-contains}
use Rattle.std.proofs.lemmas.List.Sums.{AllPass-from_list_all}
use Rattle.program_model.specs.declared.kinds.ClassId.{ClassId}
use Rattle.program_model.specs.declared.kinds.MethodId.{MethodId}
use Rattle.program_model.specs.declared.kinds.MethodKind.TheVariants as methods
use Rattle.program_model.specs.declared.kinds.VType.{VType}
use Rattle.program_model.specs.declared.kinds.VType.TheVariants as types
use Rattle.program_model.specs.declared.program.Class.{Class}
use Rattle.program_model.specs.declared.program.Field.{Field}
use Rattle.program_model.specs.declared.program.Method.{Method}
use Rattle.program_model.specs.declared.program.Program.{Program}
use Rattle.program_model.specs.Hierarchy.{IsHierarchy}
use Rattle.program_model.specs.Lookups.{class_at, method_at}
use Rattle.program_model.specs.Overrides.{are_alike, is_library, is_library_in, is_type}
use Rattle.program_model.specs.SuperTests.{is_under}
use Rattle.program_model.specs.Validity.{is_constant}
use Rattle.place_laws.specs.AcceptedProgramsConditions.{HasWholeLibrary}
use Rattle.place_laws.proofs.Arguments.{calls_pass_nothing, passing_nothing}
use Rattle.agreement.specs.Conditions.{KeepsObligations, MeetsFileConditions, OwnersStandAlone, OwnsNoRenewedText, may_own_renewed_text, stands_under_owner}
use Rattle.agreement.specs.LibraryClasses.{HasLightTexts, language_exceptions}
use Rattle.agreement.specs.PlainForms.{may_be_made}
use Rattle.ownership_rules.specs.MustCallSets.{is_empty, must_of, must_of_optional, must_of_type}

-- ---- the tests

-- all classes above one of the library are the library's
abbrev class_stands : Program → Class → Bool
class_stands p k = not k.library || list_all (λ c. is_library p c) k.above.items

abbrev result_stands : Program → Option VType → Bool
result_stands p None = true
result_stands p (Some (types.Obj c)) = is_library p c
result_stands p (Some t) = true

-- what a method of the library gives and throws is of the library's classes, and constants are the library's
abbrev method_stands : Program → Method → Bool
method_stands p m =
    (not (is_library p m.class) || (result_stands p m.sig.result && list_all (λ c. is_library p c) m.sig.throws.items)) && (not (is_constant m.kind) || is_library p m.class)

-- the two have results of one type, or none
abbrev have_one_result : Option VType → Option VType → Bool
have_one_result None None = true
have_one_result None (Some u) = false
have_one_result (Some t) None = false
have_one_result (Some t) (Some u) = is_type t u

-- methods of one name and one parameter list have results of one type
abbrev results_stand : Program → Method → Bool
results_stand p n = list_all (λ (m : Method). not (are_alike m n) || have_one_result m.sig.result n.sig.result) p.methods.items

-- no class from the number on stands under another one that declares owning fields
abbrev all_alone : Program → ℕ → List Class → Bool
all_alone p n [] = true
all_alone p n (k ∷ ks) = not (stands_under_owner p (record { 0 = n }) k) && all_alone p (n + 1) ks

-- so it is with all classes and methods, with `Object` and `String`; there may be objects of the exceptions of the language, `String` is no class of
-- exceptions, results stand so, no class stands under an owner, no field may own a text that is created anew, and super calls have no arguments
abbrev pub passes_tests : Program → Bool
passes_tests p =
    list_all (λ (k : Class). class_stands p k) p.classes.items && (list_all (λ (m : Method). method_stands p m) p.methods.items
    && (is_library p p.core.object && (is_library p p.core.string && (list_all (λ c. may_be_made p c) (language_exceptions p.core)
    && (not (is_under p p.core.string p.core.throwable) && (list_all (λ (n : Method). results_stand p n) p.methods.items && (all_alone p 0 p.classes.items && (list_all (λ (x : Field). not (may_own_renewed_text p x)) p.fields.items && calls_pass_nothing p))))))))

-- ---- what they tell

at_number : {X : Type 0} (test : X → Bool) (xs : List X) (i : ℕ) (x : X) → list_all test xs ≡ true → slice_get xs i ≡ Some x → test x ≡ true
at_number test [] i x all at = absurd (none i at)
  where
    none : (i : ℕ) → slice_get [] i ≡ Some x → ⊥
    none zero is = let never : None ≡ Some x = is in cc
    none (suc i) is = let never : None ≡ Some x = is in cc
at_number test (y ∷ ys) zero x all at = let same : y ≡ x = (let both : Some y ≡ Some x = at in cc) in ap test (sym same) ∙ (and_parts (test y) (list_all test ys) all).0
at_number test (y ∷ ys) (suc i) x all at = at_number test ys i x (and_parts (test y) (list_all test ys) all).1 at

-- a test that is asked where another passes
asked : (a b : Bool) → (not a || b) ≡ true → a ≡ true → b ≡ true
asked true b both is = both
asked false b both is = absurd (true≢false (sym is))

is_false : (b : Bool) → not b ≡ true → b ≡ false
is_false true other = absurd (true≢false (sym other))
is_false false other = refl

library_class : (o : Option Class) → is_library_in o ≡ true → (k : Class) × (o ≡ Some k)
library_class None is = absurd (true≢false (sym is))
library_class (Some k) is = (k, refl)

module _ (p : Program) where
  whole : IsHierarchy p → list_all (λ (k : Class). class_stands p k) p.classes.items ≡ true → HasWholeLibrary p
  whole hierarchy all c d under library =
      let k = library_class (class_at p c) library in
      let here = at_number (λ (x : Class). class_stands p x) p.classes.items c.0 k.0 all k.1 in
      let above = asked k.0.library (list_all (λ e. is_library p e) k.0.above.items) here (sym (ap is_library_in k.1) ∙ library) in
      All-contains (λ e. is_library p e ≡ true) k.0.above.items d (AllPass-from_list_all (λ e. is_library p e) k.0.above.items above) (((hierarchy.supers c k.0 k.1).above.exact d).1 under)

  module _ (all : list_all (λ (m : Method). method_stands p m) p.methods.items ≡ true) where
    stands : (m : MethodId) (x : Method) → method_at p m ≡ Some x
        → ((not (is_library p x.class) || (result_stands p x.sig.result && list_all (λ c. is_library p c) x.sig.throws.items)) ≡ true) × ((not (is_constant x.kind) || is_library p x.class) ≡ true)
    stands m x at =
        and_parts (not (is_library p x.class) || (result_stands p x.sig.result && list_all (λ c. is_library p c) x.sig.throws.items)) (not (is_constant x.kind) || is_library p x.class)
        (at_number (λ (y : Method). method_stands p y) p.methods.items m.0 x all at)

    constants : (m : MethodId) (x : Method) → method_at p m ≡ Some x → x.kind ≡ methods.Constant → is_library p x.class ≡ true
    constants m x at is = asked (is_constant x.kind) (is_library p x.class) (stands m x at).1 (ap is_constant is)

    parts : (m : MethodId) (x : Method) → method_at p m ≡ Some x → is_library p x.class ≡ true → (result_stands p x.sig.result ≡ true) × (list_all (λ c. is_library p c) x.sig.throws.items ≡ true)
    parts m x at library =
        let both = asked (is_library p x.class) (result_stands p x.sig.result && list_all (λ c. is_library p c) x.sig.throws.items) (stands m x at).0 library in
        and_parts (result_stands p x.sig.result) (list_all (λ c. is_library p c) x.sig.throws.items) both

    results : (m : MethodId) (x : Method) (c : ClassId) → method_at p m ≡ Some x → is_library p x.class ≡ true → x.sig.result ≡ Some (types.Obj c) → is_library p c ≡ true
    results m x c at library gives = sym (ap (result_stands p) gives) ∙ (parts m x at library).0

    throws : (m : MethodId) (x : Method) → method_at p m ≡ Some x → is_library p x.class ≡ true → All (λ c. is_library p c ≡ true) x.sig.throws.items
    throws m x at library = AllPass-from_list_all (λ c. is_library p c) x.sig.throws.items (parts m x at library).1

  -- results of one type have the same must-call set
  same_type : (t u : VType) → is_type t u ≡ true → must_of_type p t ≡ must_of_type p u
  same_type (types.Obj c) (types.Obj d) is = ap (λ (n : ℕ). must_of p (record { 0 = n })) (eqb-true c.0 d.0 is)
  same_type (types.Obj c) (types.Primitive k) is = absurd (true≢false (sym is))
  same_type (types.Obj c) u is = absurd (true≢false (sym is))
  same_type (types.Primitive k) (types.Obj d) is = absurd (true≢false (sym is))
  same_type t (types.Obj d) is = absurd (true≢false (sym is))
  same_type (types.Primitive k) u is = refl
  same_type t u is = refl

  same_result : (a b : Option VType) → have_one_result a b ≡ true → must_of_optional p a ≡ must_of_optional p b
  same_result None None is = refl
  same_result None (Some u) is = absurd (true≢false (sym is))
  same_result (Some t) None is = absurd (true≢false (sym is))
  same_result (Some t) (Some u) is = same_type t u is

  obligations : list_all (λ (n : Method). results_stand p n) p.methods.items ≡ true → KeepsObligations p
  obligations all c k m r n x at_c named other at_n at_x alike kind owning light =
      let here = at_number (λ (y : Method). results_stand p y) p.methods.items m.0 n all at_n in
      let one = asked (are_alike x n) (have_one_result x.sig.result n.sig.result)
      (at_number (λ (y : Method). not (are_alike y n) || have_one_result y.sig.result n.sig.result) p.methods.items r.0 x here at_x) alike in
      inl (sym (ap is_empty (same_result x.sig.result n.sig.result one)) ∙ light)

  number_alone : (n i : ℕ) (ks : List Class) (k : Class) → all_alone p n ks ≡ true → slice_get ks i ≡ Some k → stands_under_owner p (record { 0 = n + i }) k ≡ false
  number_alone n i [] k all at = absurd (none i at)
    where
      none : (i : ℕ) → slice_get [] i ≡ Some k → ⊥
      none zero is = let never : None ≡ Some k = is in cc
      none (suc i) is = let never : None ≡ Some k = is in cc
  number_alone n zero (x ∷ ks) k all at =
      let same : x ≡ k = (let both : Some x ≡ Some k = at in cc) in
      let sum : n + zero ≡ n = omega arith in
      let here = is_false (stands_under_owner p (record { 0 = n }) x) (and_parts (not (stands_under_owner p (record { 0 = n }) x)) (all_alone p (n + 1) ks) all).0 in
      ap (λ (s : ℕ). stands_under_owner p (record { 0 = s }) k) sum ∙ (ap (λ y. stands_under_owner p (record { 0 = n }) y) (sym same) ∙ here)
  number_alone n (suc i) (x ∷ ks) k all at =
      let sum : n + suc i ≡ n + 1 + i = omega arith in
      ap (λ (s : ℕ). stands_under_owner p (record { 0 = s }) k) sum
      ∙ number_alone (n + 1) i ks k (and_parts (not (stands_under_owner p (record { 0 = n }) x)) (all_alone p (n + 1) ks) all).1 at

  owners : all_alone p 0 p.classes.items ≡ true → OwnersStandAlone p
  owners all c k at =
      let sum : c.0 ≡ 0 + c.0 = omega arith in
      ap (λ (s : ℕ). stands_under_owner p (record { 0 = s }) k) sum ∙ number_alone 0 c.0 p.classes.items k all at

  text_fields : list_all (λ (x : Field). not (may_own_renewed_text p x)) p.fields.items ≡ true → OwnsNoRenewedText p
  text_fields all f x at = is_false (may_own_renewed_text p x) (at_number (λ (y : Field). not (may_own_renewed_text p y)) p.fields.items f.0 x all at)

pub meets_by_tests : (p : Program) → IsHierarchy p → HasLightTexts p → passes_tests p ≡ true → MeetsFileConditions p
meets_by_tests p hierarchy light passes =
    let classes = and_parts (list_all (λ (k : Class). class_stands p k) p.classes.items) _ passes in
    let methods = and_parts (list_all (λ (m : Method). method_stands p m) p.methods.items) _ classes.1 in
    let object = and_parts (is_library p p.core.object) _ methods.1 in
    let string = and_parts (is_library p p.core.string) _ object.1 in
    let exceptions = and_parts (list_all (λ c. may_be_made p c) (language_exceptions p.core)) _ string.1 in
    let texts = and_parts (not (is_under p p.core.string p.core.throwable)) _ exceptions.1 in
    let results' = and_parts (list_all (λ (n : Method). results_stand p n) p.methods.items) _ texts.1 in
    let alone = and_parts (all_alone p 0 p.classes.items) _ results'.1 in
    let fields = and_parts (list_all (λ (x : Field). not (may_own_renewed_text p x)) p.fields.items) (calls_pass_nothing p) alone.1 in
    record {
      library = whole p hierarchy classes.0;
      given = record { results = results p methods.0; throws = throws p methods.0; constants = constants p methods.0; object = object.0; string = string.0 };
      exceptions = AllPass-from_list_all (λ c. may_be_made p c) (language_exceptions p.core) exceptions.0;
      texts = is_false (is_under p p.core.string p.core.throwable) texts.0;
      light_texts = light;
      results = obligations p results'.0;
      owners = owners p alone.0;
      text_fields = text_fields p fields.0;
      passes = passing_nothing p fields.1;
    }

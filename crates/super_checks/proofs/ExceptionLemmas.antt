-- The exceptions of the core library, as pairs of a class and one that it has to stand under.
use Rattle.std.proofs.Common.{◌≡◌, ◌↔◌, sym, refl, subst, arith, ℕ, ◌+◌, ◌<◌, Bool, true, false, true≢false, ◌&&◌, IsTrue, Some, List, [], ◌∷◌, ◌++◌, length, get_or, take}
use Rattle.std.proofs.lemmas.List.{take-take, take_more}
use Rattle.std.specs.Prelude.{codes}
use Rattle.std.specs.List.{All}
use Rattle.std.proofs.lemmas.List.Elements.{All-cons, All-contains, All-more, All-nil, All-take, Contains-push}
use Rattle.program_model.specs.declared.kinds.ClassId.{ClassId}
use Rattle.program_model.specs.declared.program.CoreClasses.{CoreClasses}
use Rattle.class_names.specs.declared.class_name.ClassName.{ClassName}
use Rattle.class_names.specs.ClassNames.{class_of_name}
use Rattle.class_order.specs.Core.{AreCore}
use Rattle.class_headers.proofs.KnownLemmas.{found_within}
use Rattle.super_checks.specs.declared.exceptions.Pair.{Pair}
use Rattle.super_checks.specs.Readiness.{IsPairUnder, IsPairWithin}
use Rattle.super_checks.specs.SuperCases.{HasExceptions}

-- one pair more stands so
pub all_more : {X : Type 0} (P : X → Type 0) (xs : List X) (i : ℕ) (d : X) (a b : Bool) → i < length xs → IsTrue a ↔ All P (take i xs) → IsTrue b ↔ P (get_or xs i d) → IsTrue (a && b) ↔ All P (take (i + 1) xs)
all_more {X} P xs i d a b within first second = by_tests a b first second
  where
    last : All P (take (i + 1) xs) → P (get_or xs i d)
    last all =
        let A : List X → Type 0 = All P in
        All-contains P (take i xs ++ get_or xs i d ∷ []) (get_or xs i d) (subst A (take_more xs i d within) all) (Contains-push (take i xs) (get_or xs i d))

    front : All P (take (i + 1) xs) → All P (take i xs)
    front all =
        let A : List X → Type 0 = All P in
        subst A (take-take i (i + 1) xs (omega arith)) (All-take P i (take (i + 1) xs) all)

    by_tests : (a b : Bool) → IsTrue a ↔ All P (take i xs) → IsTrue b ↔ P (get_or xs i d) → IsTrue (a && b) ↔ All P (take (i + 1) xs)
    by_tests true true f g = ((λ h. All-more P xs i d within (f.0 refl) (g.0 refl)), (λ all. refl))
    by_tests true false f g = ((λ never. absurd (true≢false (sym never))), (λ all. g.1 (last all)))
    by_tests false b f g = ((λ never. absurd (true≢false (sym never))), (λ all. f.1 (front all)))

abbrev pub pair : ClassId → ClassId → Pair
pair lower upper = record { lower = lower; upper = upper }

abbrev pub exception_pairs : CoreClasses → List Pair
exception_pairs k =
    pair k.error k.throwable ∷ pair k.runtime_exception k.throwable ∷ pair k.arithmetic_exception k.runtime_exception ∷ pair k.array_index_exception k.runtime_exception
    ∷ pair k.class_cast_exception k.runtime_exception ∷ pair k.negative_array_size_exception k.runtime_exception ∷ pair k.null_pointer_exception k.runtime_exception ∷ []

-- a list of seven from its elements
seven : (P : Pair → Type 0) (a b c d e f g : Pair) → P a → P b → P c → P d → P e → P f → P g → All P (a ∷ b ∷ c ∷ d ∷ e ∷ f ∷ g ∷ [])
seven P a b c d e f g pa pb pc pd pe pf pg =
    All-cons P a (b ∷ c ∷ d ∷ e ∷ f ∷ g ∷ []) pa
    (All-cons P b (c ∷ d ∷ e ∷ f ∷ g ∷ []) pb
    (All-cons P c (d ∷ e ∷ f ∷ g ∷ []) pc
    (All-cons P d (e ∷ f ∷ g ∷ []) pd
    (All-cons P e (f ∷ g ∷ []) pe
    (All-cons P f (g ∷ []) pf
    (All-cons P g [] pg (All-nil P)))))))

-- all pairs, where each is so
pub all_pairs : (P : Pair → Type 0) (k : CoreClasses) → P (pair k.error k.throwable) → P (pair k.runtime_exception k.throwable) → P (pair k.arithmetic_exception k.runtime_exception) → P (pair k.array_index_exception k.runtime_exception)
    → P (pair k.class_cast_exception k.runtime_exception) → P (pair k.negative_array_size_exception k.runtime_exception) → P (pair k.null_pointer_exception k.runtime_exception) → All P (exception_pairs k)
all_pairs P k a b c d e f g =
    seven P (pair k.error k.throwable) (pair k.runtime_exception k.throwable) (pair k.arithmetic_exception k.runtime_exception) (pair k.array_index_exception k.runtime_exception)
    (pair k.class_cast_exception k.runtime_exception) (pair k.negative_array_size_exception k.runtime_exception) (pair k.null_pointer_exception k.runtime_exception) a b c d e f g

-- each is a class of the program
pub pairs_within : (classes : List ClassName) (k : CoreClasses) (count : ℕ) → length classes ≡ count → AreCore classes k → All (IsPairWithin count) (exception_pairs k)
pairs_within classes k count long core =
    all_pairs (IsPairWithin count) k
    (within (codes "java.lang.Error") k.error core.roots.error) (within (codes "java.lang.RuntimeException") k.runtime_exception core.roots.runtime)
    (within (codes "java.lang.ArithmeticException") k.arithmetic_exception core.thrown.arithmetic) (within (codes "java.lang.ArrayIndexOutOfBoundsException") k.array_index_exception core.thrown.array_index)
    (within (codes "java.lang.ClassCastException") k.class_cast_exception core.thrown.class_cast) (within (codes "java.lang.NegativeArraySizeException") k.negative_array_size_exception core.thrown.negative_array_size)
    (within (codes "java.lang.NullPointerException") k.null_pointer_exception core.thrown.null_pointer)
  where
    within : (name : List ℕ) (c : ClassId) → class_of_name classes name ≡ Some c → c.0 < count
    within name c is = let below = found_within classes name c is in omega (arith, below, long)

pub pairs_are_exceptions : (direct : List (List ClassId)) (k : CoreClasses) → All (IsPairUnder direct) (exception_pairs k) ↔ HasExceptions direct k
pairs_are_exceptions direct k = (
  (λ all.
      let any : Pair = pair k.error k.throwable in
      record { error = all 0 any (omega arith); runtime_exception = all 1 any (omega arith); arithmetic_exception = all 2 any (omega arith); array_index_exception = all 3 any (omega arith); class_cast_exception = all 4 any (omega arith); negative_array_size_exception = all 5 any (omega arith); null_pointer_exception = all 6 any (omega arith) }),
  (λ h. all_pairs (IsPairUnder direct) k h.error h.runtime_exception h.arithmetic_exception h.array_index_exception h.class_cast_exception h.negative_array_size_exception h.null_pointer_exception),
)

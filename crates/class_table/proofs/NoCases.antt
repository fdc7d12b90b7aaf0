-- What a pass without a case says of each class.
use Rattle.std.proofs.Common.{◌≡◌, ◌∙◌, sym, ap, refl, arith, inl, inr, ℕ, zero, suc, ◌≤◌, Option, Some, None, List, [], ◌∷◌, length}
use Rattle.std.specs.Prelude.{slice_get, flat_map, Contains}
use Rattle.std.proofs.lemmas.Option.{get_or_from_slice_get, same_Some, slice_get_within}
use Rattle.rlc_base.specs.declared.faults.Refusal.{Refusal}
use Rattle.class_order.specs.Refusals.{least}
use Rattle.program_model.specs.declared.program.CoreClasses.{CoreClasses}
use Rattle.class_order.specs.Cases.{IsLeast, double_cases, too_many_at, too_many_cases}
use Rattle.class_order.specs.Declarations.{Declaration, class_names}
use Rattle.class_checks.specs.TypeCases.{IsTypeCase, all_type_cases, type_cases}
use Rattle.super_obligations.specs.SuperCases.{class_above_interface, classes_above_interfaces, kind_cases, supers_in}
use Rattle.class_headers.specs.Cases.{bad_super_cases}
use Rattle.super_obligations.specs.SuperPass.{IsSuperCase}
use Rattle.class_table.specs.Passes.{IsDoubleCase}
use Rattle.class_table.proofs.KnownLemmas.{none_left, none_right}

-- a list without elements
pub nothing_in : {X : Type 0} (xs : List X) → ((x : X) → Contains xs x → ⊥) → xs ≡ []
nothing_in [] none = refl
nothing_in (x ∷ xs) none = absurd (none x (0, (omega arith), refl))

pub none_in_nil : {X : Type 0} (xs : List X) → xs ≡ [] → (x : X) → Contains xs x → ⊥
none_in_nil [] is x has = let never = has.1 in omega arith
none_in_nil (y ∷ ys) is x has = cc

-- the least of none
pub least_none : (xs : List Refusal) → None ≡ least xs → xs ≡ []
least_none [] is = refl
least_none (x ∷ xs) is = cc

pub none_at : {X Y : Type 0} (f : X → List Y) (xs : List X) (n : ℕ) (x : X) → flat_map f xs ≡ [] → slice_get xs n ≡ Some x → f x ≡ []
none_at f [] n x none at = let never : None ≡ Some x = at in cc
none_at f (y ∷ ys) zero x none at = ap f (sym (same_Some y x at)) ∙ none_left (f y) (flat_map f ys) none
none_at f (y ∷ ys) (suc n) x none at = none_at f ys n x (none_right (f y) (flat_map f ys) none) at

-- ---- the passes

pub no_type_cases : (order : List Declaration) → IsLeast (IsTypeCase order) None → all_type_cases (class_names order) order ≡ []
no_type_cases order none = nothing_in (all_type_cases (class_names order) order) (λ r has. none r (inr has))

pub no_type_case : (order : List Declaration) (n : ℕ) (d : Declaration) → IsLeast (IsTypeCase order) None → slice_get order n ≡ Some d → type_cases (class_names order) d ≡ []
no_type_case order n d none at = none_at (type_cases (class_names order)) order n d (no_type_cases order none) at

pub no_double_cases : (order : List Declaration) → IsLeast (IsDoubleCase order) None → double_cases order ≡ []
no_double_cases order none = nothing_in (double_cases order) none

pub no_class_above : (order : List Declaration) (core : CoreClasses) (n : ℕ) (d : Declaration) → IsLeast (IsSuperCase order core) None → slice_get order n ≡ Some d → class_above_interface d ≡ []
no_class_above order core n d none at =
    let kinds = nothing_in (kind_cases order core) (λ r has. none r (inl has)) in
    none_at class_above_interface order n d (none_right (bad_super_cases order (supers_in order core)) (classes_above_interfaces order) kinds) at

too_many_none : (o : Option Declaration) → too_many_at o ≡ [] → o ≡ None
too_many_none None is = refl
too_many_none (Some d) is = cc

few_if_none : {X : Type 0} (xs : List X) (n : ℕ) → slice_get xs n ≡ None → length xs ≤ n
few_if_none [] n is = omega arith
few_if_none (x ∷ xs) zero is = let never : Some x ≡ None = is in cc
few_if_none (x ∷ xs) (suc n) is = let rest = few_if_none xs n is in omega arith

-- there are at most 4,096 classes
pub few_classes : (order : List Declaration) → too_many_cases order ≡ [] → length order ≤ 4096
few_classes order none = few_if_none order 4096 (too_many_none (slice_get order 4096) none)

pub none_in : {X Y : Type 0} (f : X → List Y) (xs : List X) (x : X) → flat_map f xs ≡ [] → Contains xs x → f x ≡ []
none_in f [] x none has = absurd (let never = has.1 in omega arith)
none_in f (y ∷ ys) x none (zero, within, at) = ap f (sym at) ∙ none_left (f y) (flat_map f ys) none
none_in f (y ∷ ys) x none (suc i, within, at) = none_in f ys x (none_right (f y) (flat_map f ys) none) (i, (omega arith), at)

pub contains_at : {X : Type 0} (xs : List X) (n : ℕ) (x : X) → slice_get xs n ≡ Some x → Contains xs x
contains_at xs n x at = (n, slice_get_within xs n x at, get_or_from_slice_get xs n x x at)

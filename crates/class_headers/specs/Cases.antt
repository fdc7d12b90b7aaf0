-- The refusals of the passes over super types.
use Rattle.std.specs.Prelude.{◌≡◌, ℕ, Bool, false, not, ◌||◌, Option, Some, None, List, [], flat_map, length, slice_get}
use Rattle.std.specs.List.{list_any, range_with_len}
use Rattle.rlc_base.specs.declared.code.Code.TheVariants as refused
use Rattle.rlc_base.specs.declared.faults.Refusal.{Refusal}
use Rattle.java_syntax.specs.declared.declaration_trees.ClassDecl.{ClassDecl}
use Rattle.program_model.specs.declared.kinds.ClassId.{ClassId}
use Rattle.program_model.specs.Lookups.{optional}
use Rattle.refusal_order.specs.Refusals.{refused_at, where_true}
use Rattle.class_order.specs.Declarations.{Declaration, place_of}
use Rattle.class_order.specs.Modifiers.{has_abstract, has_final}
use Rattle.class_headers.specs.SuperTypes.{IsAboveItself, SuperTypes}

-- ---- a class above itself (JLS 8.1.4, 9.1.3)

abbrev pub IsCycleAt : List (List ClassId) → ClassId → Option Declaration → Refusal → Type 0
IsCycleAt direct c None r = ⊥
IsCycleAt direct c (Some d) r = IsAboveItself direct c × (r ≡ refused_at refused.CyclicSupers (place_of d))

-- a refusal of a class above itself, at its name
abbrev pub IsCycleCase : List Declaration → List (List ClassId) → Refusal → Type 0
IsCycleCase order direct r = (c : ClassId) × IsCycleAt direct c (slice_get order c.0) r

-- ---- super types of a wrong kind (JLS 8.1.4, 8.1.5, 9.1.3)

abbrev pub is_final : ClassDecl → Bool
is_final k = has_final k.modifiers.items

abbrev pub is_interface_at : Option Declaration → Bool
is_interface_at None = false
is_interface_at (Some d) = d.class_tree.is_interface

abbrev pub is_interface : List Declaration → ClassId → Bool
is_interface order c = is_interface_at (slice_get order c.0)

abbrev pub is_extensible_at : Option Declaration → Bool
is_extensible_at None = false
is_extensible_at (Some d) = not (d.class_tree.is_interface || is_final d.class_tree)

abbrev pub is_abstract : ClassDecl → Bool
is_abstract k = has_abstract k.modifiers.items

-- a class that another may extend: no interface, and not final (JLS 8.1.1.2)
abbrev pub is_extensible : List Declaration → ClassId → Bool
is_extensible order c = is_extensible_at (slice_get order c.0)

-- a class extends an interface or a final class, or a class is implemented, or extended by an interface
abbrev pub has_bad_super : List Declaration → SuperTypes → Bool
has_bad_super order s = list_any (λ c. not (is_extensible order c)) (optional s.super_class) || list_any (λ c. not (is_interface order c)) s.interfaces

abbrev pub bad_super_of : List Declaration → Declaration → Option SuperTypes → List Refusal
bad_super_of order d None = []
bad_super_of order d (Some s) = where_true (has_bad_super order s) refused.BadSuper (place_of d)

abbrev pub bad_super_in : List Declaration → Option SuperTypes → Option Declaration → List Refusal
bad_super_in order s None = []
bad_super_in order s (Some d) = bad_super_of order d s

-- the refusal of the class with this number
abbrev pub bad_super_case : List Declaration → List SuperTypes → ℕ → List Refusal
bad_super_case order supers n = bad_super_in order (slice_get supers n) (slice_get order n)

-- each class with a super type of a wrong kind, at its name
abbrev pub bad_super_cases : List Declaration → List SuperTypes → List Refusal
bad_super_cases order supers = flat_map (bad_super_case order supers) (range_with_len 0 (length order))

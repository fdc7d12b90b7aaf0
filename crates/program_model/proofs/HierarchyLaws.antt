-- Where the hierarchy of a program is valid, super types and ignored exceptions as they are computed from the lists of classes
-- above a class are those of the program.
use Rattle.std.proofs.Common.{◌≡◌, ◌↔◌, ◌⊎◌, inl, inr, sym, refl, subst, Bool, true, false, true≢false, IsTrue, Option, Some, None, List, [], ◌∷◌, Contains}
use Rattle.std.specs.Prelude.{◌||◌, Any}
use Rattle.std.specs.List.{list_any}
use Rattle.std.proofs.lemmas.Bool.{eq-eqb, eqb-true}
use Rattle.std.proofs.lemmas.List.Folds.{Any-from_list_any, list_any-from_Any}
use Rattle.program_model.specs.declared.kinds.ClassId.{ClassId}
use Rattle.program_model.specs.declared.program.Program.{Program}
use Rattle.program_model.specs.declared.program.Class.{Class}
use Rattle.program_model.specs.Lookups.{class_at}
use Rattle.program_model.specs.Hierarchy.{IsHierarchy, IsIgnored, IsUnder}
use Rattle.program_model.proofs.Supers.{known_is_under, unknown_is_under}
use Rattle.program_model.specs.SuperTests.{classes_above, has_class, is_class, is_ignored, is_under}

same_class : (c d : ClassId) → c.0 ≡ d.0 → c ≡ d
same_class c d same = λ i. record { 0 = same i }

-- the test finds the classes of the list, and no others
has_class_law : (cs : List ClassId) (d : ClassId) → IsTrue (has_class cs d) ↔ Contains cs d
has_class_law cs d = (
  (λ yes.
      let found = Any-from_list_any (λ x. is_class x d) cs yes in
      let P : ClassId → Type 0 = λ x. Contains cs x in
      subst P (same_class found.1 d (eqb-true found.1.0 d.0 found.4)) (found.0, found.2, found.3)),
  (λ here. list_any-from_Any (λ x. is_class x d) cs (here.0, d, here.1, here.2, eq-eqb d.0 d.0 refl)),
)

or_false : (b : Bool) → (b || false) ≡ b
or_false true = refl
or_false false = refl

is_under_by : (p : Program) (c d : ClassId) (found : Option Class) → IsHierarchy p → class_at p c ≡ found → IsTrue (has_class (classes_above c found) d) ↔ IsUnder p c d
is_under_by p c d None hierarchy none = unknown_is_under p c d (has_class (c ∷ []) d) (sym none) (or_false (is_class c d))
is_under_by p c d (Some k) hierarchy found = known_is_under p c d k (has_class k.above.items d) k.above.items hierarchy (sym found) refl (has_class_law k.above.items d)

-- the computed relation of super types is that of the program
pub is_under_law : (p : Program) → IsHierarchy p → (c d : ClassId) → IsTrue (is_under p c d) ↔ IsUnder p c d
is_under_law p hierarchy c d = is_under_by p c d (class_at p c) hierarchy refl

is_under_any_law : (p : Program) → IsHierarchy p → (c : ClassId) (ds : List ClassId) → IsTrue (list_any (λ d. is_under p c d) ds) ↔ Any (λ d. IsUnder p c d) ds
is_under_any_law p hierarchy c ds = (
  (λ yes.
      let found = Any-from_list_any (λ d. is_under p c d) ds yes in
      (found.0, found.1, found.2, found.3, (is_under_law p hierarchy c found.1).0 found.4)),
  (λ some. list_any-from_Any (λ d. is_under p c d) ds (some.0, some.1, some.2, some.3, (is_under_law p hierarchy c some.1).1 some.4)),
)

either_law : (a b : Bool) (A B : Type 0) → IsTrue a ↔ A → IsTrue b ↔ B → IsTrue (a || b) ↔ (A ⊎ B)
either_law true b A B first second = ((λ _. inl (first.0 refl)), (λ _. refl))
either_law false b A B first second = (
  (λ yes. inr (second.0 yes)),
  (λ some. elim some [ inl x ↦ absurd (true≢false (sym (first.1 x))) | inr y ↦ second.1 y ]),
)

-- the computed test of ignored exceptions is that of the program
pub is_ignored_law : (p : Program) → IsHierarchy p → (c : ClassId) → IsTrue (is_ignored p c) ↔ IsIgnored p c
is_ignored_law p hierarchy c =
    either_law (list_any (λ d. is_under p c d) p.ignored.items) (has_class p.exact.items c) (Any (λ d. IsUnder p c d) p.ignored.items) (Contains p.exact.items c)
    (is_under_any_law p hierarchy c p.ignored.items) (has_class_law p.exact.items c)

-- a test that equals the computed one
pub is_under_along : (p : Program) (c d : ClassId) (test : Bool) → test ≡ is_under p c d → IsHierarchy p → IsTrue test ↔ IsUnder p c d
is_under_along p c d test same hierarchy = let P : Bool → Type 0 = λ x. IsTrue x ↔ IsUnder p c d in subst P (sym same) (is_under_law p hierarchy c d)

pub is_ignored_along : (p : Program) (c : ClassId) (test : Bool) → test ≡ is_ignored p c → IsHierarchy p → IsTrue test ↔ IsIgnored p c
is_ignored_along p c test same hierarchy = let P : Bool → Type 0 = λ x. IsTrue x ↔ IsIgnored p c in subst P (sym same) (is_ignored_law p hierarchy c)

-- Lemmas on super types.
use Rattle.std.proofs.Common.{◌≡◌, ◌∙◌, ◌↔◌, sym, refl, subst, Bool, nat_eq, IsTrue, Some, None, List, Contains}
use Rattle.std.proofs.lemmas.Bool.{eq-eqb, eqb-true}
use Rattle.program_model.specs.declared.kinds.ClassId.{ClassId}
use Rattle.program_model.specs.declared.program.Program.{Program}
use Rattle.program_model.specs.declared.program.Class.{Class}
use Rattle.program_model.specs.Lookups.{class_at}
use Rattle.program_model.specs.Hierarchy.{IsUnder, itself, above, IsHierarchy}

-- a number of no class is under nothing but itself
pub unknown_is_itself : (p : Program) (c d : ClassId) → None ≡ class_at p c → IsUnder p c d → c ≡ d
unknown_is_itself p c d none (itself same) = refl
unknown_is_itself p c d none (above b e f direct rest) = absurd (let no : None ≡ Some direct.0 = none ∙ direct.1 in cc)

same_class : (c d : ClassId) → c.0 ≡ d.0 → c ≡ d
same_class c d same = λ i. record { 0 = same i }

pub unknown_is_under : (p : Program) (c d : ClassId) (same : Bool) → None ≡ class_at p c → same ≡ nat_eq c.0 d.0 → IsTrue same ↔ IsUnder p c d
unknown_is_under p c d same none is = (
  (λ yes. let P : ClassId → Type 0 = λ x. IsUnder p c x in subst P (same_class c d (eqb-true c.0 d.0 (sym is ∙ yes))) (itself c)),
  (λ under. is ∙ eq-eqb c.0 d.0 (λ i. (unknown_is_itself p c d none under i).0)),
)

-- what a class lists is what it is under
pub known_is_under : (p : Program) (c d : ClassId) (k : Class) (listed : Bool) (xs : List ClassId) → IsHierarchy p → Some k ≡ class_at p c → xs ≡ k.above.items → IsTrue listed ↔ Contains xs d → IsTrue listed ↔ IsUnder p c d
known_is_under p c d k listed xs hierarchy is same among =
    let P : List ClassId → Type 0 = λ ys. IsTrue listed ↔ Contains ys d in
    let here = subst P same among in
    let exact = (hierarchy.supers c k (sym is)).above.exact d in
    ((λ yes. exact.0 (here.0 yes)), (λ under. here.1 (exact.1 under)))

-- Results of methods that may stand for those of others (JLS 8.4.5).
use Rattle.std.proofs.Common.{◌≡◌, ◌∙◌, ap, refl, sym, subst, true≢false, inl, inr, true, false, ◌&&◌, Option, Some, None}
use Rattle.std.proofs.lemmas.Bool.{and_parts, or_cases}
use Rattle.program_model.specs.declared.kinds.ClassId.{ClassId}
use Rattle.program_model.specs.declared.kinds.VType.{VType}
use Rattle.program_model.specs.declared.kinds.VType.TheVariants as types
use Rattle.program_model.specs.declared.program.Program.{Program}
use Rattle.program_model.specs.Hierarchy.{IsUnder, above, itself}
use Rattle.program_model.specs.Overrides.{is_type}
use Rattle.program_model.specs.SuperTests.{is_under}
use Rattle.program_model.specs.Typing.{IsDeclarable, IsTypeUnder}
use Rattle.program_model.specs.Validity.{IsResult, IsTypedProgram, is_class_type}
use Rattle.program_model.proofs.HierarchyLaws.{is_under_law}
use Rattle.java_conversions.specs.Conversions.{fits}
use Rattle.java_conversions.specs.Types.{is_reference}
use Rattle.agreement.specs.Results.{is_result_under}
use Rattle.agreement.specs.ClassOperands.{IsOfClass, OfClass, IsNotAboveString}
use Rattle.agreement.proofs.ClassTypes.{null_or_under}
use Rattle.dispatch_laws.proofs.Types.{one_type, same_class, same_element}

none_is_some : {X : Type 0} (x : X) → ◌≡◌ {A = Option X} None (Some x) → ⊥
none_is_some x h = cc

-- ---- results of no class type

-- what fits a type that is none of a class is of that type
fitting : (p : Program) (u t : VType) → is_class_type t ≡ false → IsDeclarable p u → IsDeclarable p t → is_reference t ≡ true → fits p u t ≡ true → u ≡ t
fitting p u (types.Primitive k) light known wanted to is = absurd (true≢false (sym to))
fitting p u (types.Obj c) light known wanted to is = absurd (true≢false light)
fitting p u types.NullType light known wanted to is = absurd wanted
fitting p types.Str types.Str light known wanted to is = refl
fitting p (types.Primitive k) types.Str light known wanted to is = absurd (true≢false (sym is))
fitting p (types.Arr e) types.Str light known wanted to is = absurd (true≢false (sym is))
fitting p (types.Obj c) types.Str light known wanted to is = absurd (true≢false (sym is))
fitting p types.NullType types.Str light known wanted to is = absurd known
fitting p (types.Arr e) (types.Arr f) light known wanted to is = ap types.Arr (same_element e f is)
fitting p (types.Primitive k) (types.Arr f) light known wanted to is = absurd (true≢false (sym is))
fitting p types.Str (types.Arr f) light known wanted to is = absurd (true≢false (sym is))
fitting p (types.Obj c) (types.Arr f) light known wanted to is = absurd (true≢false (sym is))
fitting p types.NullType (types.Arr f) light known wanted to is = absurd known

-- the type is the same, or the one is a reference type that fits the other
under_parts : (p : Program) (u t : VType) (T : Type 0) → is_result_under p (Some u) (Some t) ≡ true → (u ≡ t → T) → (is_reference t ≡ true → fits p u t ≡ true → T) → T
under_parts p u t T under same fitting' =
    elim (or_cases (is_type u t) (is_reference u && is_reference t && fits p u t) under) [
      | inl is ↦ same (one_type u t is)
      | inr more ↦ (
          let both = and_parts (is_reference u && is_reference t) (fits p u t) more in
          fitting' (and_parts (is_reference u) (is_reference t) both.0).1 both.1
          )
    ]

-- a result that may stand for one of no class type is of that type
pub same_result : (p : Program) (a b : Option VType) (t : VType) → IsResult p a → IsResult p b → is_result_under p a b ≡ true → b ≡ Some t → is_class_type t ≡ false → a ≡ Some t
same_result p None None t known wanted under is light = is
same_result p None (Some v) t known wanted under is light = absurd (true≢false (sym under))
same_result p (Some u) None t known wanted under is light = absurd (none_is_some t is)
same_result p (Some u) (Some v) t known wanted under is light =
    let same : v ≡ t = cc in
    ap Some (under_parts p u v (u ≡ v) under (λ one. one) (λ to fit. fitting p u v (ap is_class_type same ∙ light) known wanted to fit)) ∙ is

-- where there is no result, none may stand for it
pub no_result : (p : Program) (a b : Option VType) → is_result_under p a b ≡ true → b ≡ None → a ≡ None
no_result p None b under is = refl
no_result p (Some u) None under is = absurd (true≢false (sym under))
no_result p (Some u) (Some v) under is = absurd (none_is_some v (sym is))

-- ---- results of a type under a class

under_trans : (p : Program) (c d e : ClassId) → IsUnder p c d → IsUnder p d e → IsUnder p c e
under_trans p c d e (itself same) rest = rest
under_trans p c d e (above x y z direct more) rest = above x y e direct (under_trans p y z e more rest)

module _ (p : Program) (bound : ClassId) (typed : IsTypedProgram p) (texts : IsNotAboveString p bound) where
  under_law : (c d : ClassId) → is_under p c d ≡ true → IsUnder p c d
  under_law c d is = (is_under_law p typed.hierarchy c d).0 is

  -- what fits a class under `bound` has a class under it
  fitting_class : (u : VType) (c : ClassId) → IsDeclarable p u → fits p u (types.Obj c) ≡ true → IsUnder p c bound → IsTypeUnder p bound u
  fitting_class (types.Primitive k) c known is over = absurd (true≢false (sym is))
  fitting_class types.Str c known is over = under_trans p p.core.string c bound (under_law p.core.string c is) over
  fitting_class (types.Arr e) c known is over = subst (λ (d : ClassId). IsUnder p d bound) (same_class c p.core.object is) over
  fitting_class (types.Obj d) c known is over = under_trans p d c bound (under_law d c is) over
  fitting_class types.NullType c known is over = absurd known

  fits_class : (u t : VType) → IsDeclarable p u → IsDeclarable p t → fits p u t ≡ true → IsOfClass p bound t → OfClass p bound (Some u)
  fits_class u (types.Primitive k) known wanted is to = absurd to
  fits_class u types.Str known wanted is to = absurd to
  fits_class u (types.Arr e) known wanted is to = absurd to
  fits_class u types.NullType known wanted is to = absurd wanted
  fits_class u (types.Obj c) known wanted is to =
      null_or_under p bound typed texts bound u (inr (fitting_class u c known is (under_law c bound to))) (itself bound)

  -- a result that may stand for one of a type under the class is of such a type
  pub class_result : (a b : Option VType) → IsResult p a → IsResult p b → is_result_under p a b ≡ true → OfClass p bound b → OfClass p bound a
  class_result a None known wanted under to = absurd to
  class_result None (Some v) known wanted under to = absurd (true≢false (sym under))
  class_result (Some u) (Some v) known wanted under to =
      under_parts p u v (OfClass p bound (Some u)) under (λ same. subst (λ (t : VType). OfClass p bound (Some t)) (sym same) to) (λ reference fit. fits_class u v known wanted fit to)

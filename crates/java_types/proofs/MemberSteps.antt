-- The refusals of the classes from one number on.
use Rattle.std.proofs.Common.{◌≡◌, ℕ, ◌+◌, ◌<◌, zero, suc, List, [], ◌∷◌, ◌++◌, append_assoc, drop, length, refl, ap, sym, ◌∙◌, arith}
use Rattle.rlc_base.specs.declared.faults.Refusal.{Refusal}
use Rattle.program_model.specs.declared.program.Class.{Class}
use Rattle.program_model.specs.declared.program.Program.{Program}
use Rattle.class_names.specs.ClassNames.{class_number}
use Rattle.class_overrides.specs.Cases.{class_cases}
use Rattle.java_types.specs.ProgramCases.{member_cases_from}

pub one_class_more : (p : Program) (first i : ℕ) (ks : List Class) → i < length ks → member_cases_from p first (drop i ks) ≡ class_cases p (class_number first) ++ member_cases_from p (first + 1) (drop (i + 1) ks)
one_class_more p first i [] within = absurd (omega arith)
one_class_more p first zero (k ∷ ks) within = refl
one_class_more p first (suc i) (k ∷ ks) within =
    let next : suc i + 1 ≡ suc (i + 1) = omega arith in
    let rest : List Class → List Refusal = λ left. class_cases p (class_number first) ++ member_cases_from p (first + 1) left in
    one_class_more p first i ks (omega (arith, within)) ∙ ap (λ n. rest (drop n (k ∷ ks))) (sym next)

pub members_step : (p : Program) (old counted next : List Refusal) (n : ℕ) → n < length p.classes.items → next ≡ counted ++ class_cases p (class_number n) → counted ++ member_cases_from p n (drop n p.classes.items) ≡ old → next ++ member_cases_from p (n + 1) (drop (n + 1) p.classes.items) ≡ old
members_step p old counted next n below is before =
    ap (λ so_far. so_far ++ member_cases_from p (n + 1) (drop (n + 1) p.classes.items)) is
    ∙ append_assoc counted (class_cases p (class_number n)) (member_cases_from p (n + 1) (drop (n + 1) p.classes.items))
    ∙ ap (λ rest. counted ++ rest) (sym (one_class_more p n n p.classes.items below))
    ∙ before

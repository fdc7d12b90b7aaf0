-- The refusal, unless the library is right.
use Rattle.std.proofs.Common.{◌≡◌, sym, subst, map, Option}
use Rattle.rlc_base.specs.declared.code.Code.TheVariants as refused
use Rattle.rlc_base.specs.declared.faults.Refusal.{Refusal}
use Rattle.class_names.specs.ClassNames.{rows_in}
use Rattle.class_order.specs.Cases.{IsLeast}
use Rattle.class_order.specs.Declarations.{declaration_of}
use Rattle.class_order.proofs.LeastLemmas.{least_unless}
use Rattle.super_checks.specs.SuperCases.{IsCoreLibrary, core_misplaced}
use Rattle.super_checks.proofs.core_library.core_refusal.Goals as goal

pub returns : goal.returns
returns c =
    let H = IsCoreLibrary (map declaration_of c.args.order.now) (rows_in c.args.direct.now) c.args.core in
    let L : Option Refusal → Type 0 = IsLeast (λ x. (H → ⊥) × (x ≡ core_misplaced)) in
    subst L (sym c.where_true.ensures) (least_unless H c.in_ok-is_right.is_right refused.BadSuper (record { file = 0; line = 0; col = 0 }) c.in_ok-is_right.ensures)

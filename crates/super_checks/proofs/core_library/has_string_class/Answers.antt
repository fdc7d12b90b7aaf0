-- The two tests.
use Rattle.std.proofs.Common.{◌↔◌, sym, subst, map, Bool, IsTrue}
use Rattle.class_names.specs.ClassNames.{rows_in}
use Rattle.class_order.specs.Declarations.{declaration_of}
use Rattle.super_checks.specs.SuperCases.{HasStringClass}
use Rattle.super_checks.proofs.CoreLemmas.{string_told}
use Rattle.super_checks.proofs.core_library.has_string_class.Goals as goal

pub returns : goal.returns
returns c =
    let order = map declaration_of c.args.order.now in
    let direct = rows_in c.args.direct.now in
    let core = c.args.core in
    let B : Bool → Type 0 = λ b. IsTrue b ↔ HasStringClass order direct core in
    subst B (sym c.both.ensures) (string_told order direct core c.is_final_at-is_final.result c.in_ok-is_exception.is_exception c.is_final_at-is_final.ensures c.in_ok-is_exception.ensures)

-- The refusal of one class.
use Rattle.std.proofs.Common.{◌∙◌, sym, ap, subst, map, Some, Option}
use Rattle.std.specs.Prelude.{slice_get}
use Rattle.std.specs.Option.{option_map}
use Rattle.std.proofs.lemmas.Option.{slice_get-get_or, slice_get-map}
use Rattle.rlc_base.specs.declared.faults.Refusal.{Refusal}
use Rattle.program_model.specs.declared.kinds.ClassId.{ClassId}
use Rattle.class_names.specs.ClassNames.{class_number, rows_in}
use Rattle.class_headers.specs.Cases.{IsCycleAt}
use Rattle.class_order.specs.Cases.{IsLeast}
use Rattle.class_order.specs.Declarations.{declaration_of}
use Rattle.class_headers.proofs.CycleLemmas.{case_least}
use Rattle.class_headers.proofs.cyclic.cycle_case.Goals as goal

pub returns-clause-least : goal.returns-clause-least
returns-clause-least c =
    let order = map declaration_of c.args.order.now in
    let direct = rows_in c.args.direct.now in
    let class' : ClassId = class_number c.args.number in
    let at = slice_get-map declaration_of c.args.order.now c.args.number ∙ ap (option_map declaration_of) (slice_get-get_or c.args.order.now c.args.number c.in-Some.declared.now c.in-Some.ensures.lookup.3.0 ∙ ap Some (sym c.in-Some.ensures.lookup.1)) in
    let P : Option Refusal → Type 0 = IsLeast (IsCycleAt direct class' (slice_get order c.args.number)) in
    subst P (sym c.where_true.ensures)
    (case_least direct class' (slice_get order c.args.number) (declaration_of c.in-Some.declared.now) c.is_above_itself-is_cyclic.result at c.is_above_itself-is_cyclic.ensures)

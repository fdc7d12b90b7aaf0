-- A class that has the name of an earlier one is refused.
use Rattle.std.proofs.Common.{◌∙◌, sym, ap, subst, map}
use Rattle.std.specs.Prelude.{flat_map}
use Rattle.refusal_order.specs.Refusals.{least}
use Rattle.class_names.specs.ClassNames.{doubles}
use Rattle.class_names.specs.Indexes.{IsIndexed}
use Rattle.class_order.specs.Cases.{double_case}
use Rattle.class_order.specs.Declarations.{declaration_of}
use Rattle.class_order.proofs.CaseLemmas.{doubles_are_refused}
use Rattle.class_order.proofs.names.index_names.Goals as goal

pub unreachable-requires : goal.unreachable-requires
unreachable-requires c =
    let order = map declaration_of c.args.order.now in
    let told = subst (IsIndexed c.in_ok-names.names.items) c.in-Doubles.is c.in_ok-names-2.ensures in
    doubles_are_refused order c.in-Doubles.doubles.items (told.0 ∙ ap doubles c.in_ok-names.ensures) told.1
    (sym c.in-None.is ∙ c.least_double.ensures ∙ ap (λ xs. least (flat_map (double_case order) xs)) c.deref.ensures.value)

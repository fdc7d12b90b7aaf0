-- The super types are those of the classes, and the first pass that has a case refuses.
use Rattle.std.proofs.Common.{◌≡◌, ◌∙◌, sym, subst, map, List, []}
use Rattle.class_names.specs.declared.class_name.ClassName.{ClassName}
use Rattle.class_order.specs.Cases.{too_many_cases}
use Rattle.class_order.specs.Declarations.{declaration_of}
use Rattle.class_order.proofs.LeastLemmas.{least_of_list}
use Rattle.class_checks.specs.TypeCases.{all_type_cases}
use Rattle.class_table.proofs.BuiltLemmas.{supers_here}
use Rattle.class_table.proofs.NoCases.{least_none, no_type_cases}
use Rattle.class_table.proofs.build.build_behind_types.Goals as goal

pub check_members-requires-clause-supers : goal.check_members-requires-clause-supers
check_members-requires-clause-supers c =
    let of = c.in_ok-supers.ensures in
    supers_here c.args.order.now c.args.names.now c.args.core c.in_ok-supers.supers c.requires.names of.supers of.direct of.known of.long of.few

pub returns-in-Some-clause-cause : goal.returns-in-Some-clause-cause
returns-in-Some-clause-cause c =
    (c.in_ok-check_members.ensures.fit, least_of_list (too_many_cases (map declaration_of c.args.order.now)) (sym c.in-Some.is ∙ c.too_many_classes.ensures))

pub make_table-requires-clause-types : goal.make_table-requires-clause-types
make_table-requires-clause-types c =
    let order = map declaration_of c.args.order.now in
    let P : List ClassName → Type 0 = λ names. all_type_cases names order ≡ [] in
    subst P (sym c.requires.names) (no_type_cases order c.requires.types)

pub make_table-requires-clause-supers : goal.make_table-requires-clause-supers
make_table-requires-clause-supers c =
    let of = c.in_ok-supers.ensures in
    supers_here c.args.order.now c.args.names.now c.args.core c.in_ok-supers.supers c.requires.names of.supers of.direct of.known of.long of.few

pub returns-clause-few : goal.returns-clause-few
returns-clause-few c = least_none (too_many_cases (map declaration_of c.args.order.now)) (sym c.in-None.is ∙ c.too_many_classes.ensures)

-- Super types of a wrong kind, and classes above interfaces.
use Rattle.std.proofs.Common.{map}
use Rattle.class_headers.specs.Cases.{bad_super_cases}
use Rattle.class_headers.specs.SuperTypes.{supers_of}
use Rattle.class_order.specs.Declarations.{declaration_of}
use Rattle.class_order.proofs.LeastLemmas.{least_parts}
use Rattle.super_checks.specs.SuperCases.{classes_above_interfaces}
use Rattle.super_checks.proofs.kinds.kind_refusal.Goals as goal

pub returns : goal.returns
returns c =
    let order = map declaration_of c.args.order.now in
    least_parts (bad_super_cases order (map supers_of c.args.supers.now)) (classes_above_interfaces order) c.lesser_of.ensures c.bad_supers-bad.ensures c.classes_above_interfaces-interfaces.ensures

-- The fields, and the methods and constructors.
use Rattle.class_order.specs.Declarations.{declaration_of}
use Rattle.class_order.proofs.LeastLemmas.{least_parts}
use Rattle.class_checks.specs.DoubleMembers.{double_fields, double_methods}
use Rattle.class_checks.proofs.members.double_members.Goals as goal

pub returns : goal.returns
returns c =
    let names = c.args.names.now in
    let d = declaration_of c.args.class.now in
    least_parts (double_fields names d) (double_methods names d) c.lesser_of.ensures c.in_ok-fields.ensures c.in_ok-methods.ensures

-- The super types and the members of a class.
use Rattle.std.proofs.Common.{◌∙◌, ap}
use Rattle.refusal_order.specs.Refusals.{least}
use Rattle.class_order.specs.Declarations.{declaration_of}
use Rattle.class_order.specs.UnknownNames.{unknown_supers}
use Rattle.class_order.proofs.LeastLemmas.{least_parts}
use Rattle.class_checks.specs.TypeCases.{unknown_in_members}
use Rattle.class_checks.proofs.types.type_case.Goals as goal

pub returns : goal.returns
returns c =
    let names = c.args.names.now in
    let d = declaration_of c.args.class.now in
    least_parts (unknown_supers names d) (unknown_in_members names d.unit d.class_tree.members.items) c.lesser_of.ensures
    c.unknown_supers-supers.ensures
    (c.unknown_in_members-members.ensures ∙ ap (λ xs. least (unknown_in_members names d.unit xs)) c.deref.ensures.value)

-- The super class stands before the interfaces.
use Rattle.std.proofs.Common.{◌∙◌, sym, ap, ◌++◌}
use Rattle.refusal_order.specs.Refusals.{least, lesser_of}
use Rattle.program_model.specs.Lookups.{optional}
use Rattle.refusal_order.proofs.LeastLaws.{least-append}
use Rattle.class_order.specs.Declarations.{declaration_of}
use Rattle.class_order.specs.UnknownNames.{unknown_name, unknown_names}
use Rattle.class_order.proofs.unknown.unknown_supers.Goals as goal

pub returns-in-Some : goal.returns-in-Some
returns-in-Some c =
    let d = declaration_of c.args.class.now in
    let names = c.args.names.now in
    let faces = d.class_tree.interfaces.items in
    c.lesser_of.ensures
    ∙ (λ j. lesser_of (c.unknown_name.ensures j) ((c.unknown_names-interfaces.ensures ∙ ap (λ xs. least (unknown_names names d.unit xs)) c.deref.ensures.value) j))
    ∙ sym (least-append (unknown_name names d.unit c.in-Some.name) (unknown_names names d.unit faces))
    ∙ ap (λ o. least (unknown_names names d.unit (optional o ++ faces))) (sym c.in-Some.is)

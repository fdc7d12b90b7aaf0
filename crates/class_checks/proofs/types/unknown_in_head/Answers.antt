-- The types of a head stand one after the other.
use Rattle.std.proofs.Common.{◌∙◌, ap, ◌++◌}
use Rattle.refusal_order.specs.Refusals.{least}
use Rattle.class_names.specs.Meanings.{unit_of}
use Rattle.class_order.specs.UnknownNames.{unknown_names}
use Rattle.class_order.proofs.LeastLemmas.{least_parts}
use Rattle.class_declarations.specs.Members.{parameters_of, receiver_of, result_of, throws_of, written_of}
use Rattle.class_checks.specs.TypeCases.{unknown_if_some, unknown_parameters, unknown_receiver}
use Rattle.class_checks.proofs.types.unknown_in_head.Goals as goal

pub returns : goal.returns
returns c =
    let names = c.args.names.now in
    let u = unit_of c.args.scope.now in
    let w = written_of c.args.tree.now in
    let result_cases = unknown_if_some names u (result_of w) in
    let receiver_cases = unknown_receiver names u (receiver_of w) in
    let parameter_cases = unknown_parameters names u (parameters_of w) in
    let first = c.unknown_if_some-in_result.ensures ∙ ap (λ t. least (unknown_if_some names u t)) c.result.ensures in
    let second = c.unknown_receiver-in_receiver.ensures ∙ ap (λ x. least (unknown_receiver names u x)) c.receiver.ensures in
    let third = c.unknown_parameters-in_parameters.ensures ∙ ap (λ xs. least (unknown_parameters names u xs)) c.parameters.ensures in
    let fourth = c.unknown_names-in_throws.ensures ∙ ap (λ ns. least (unknown_names names u ns)) c.throws.ensures in
    least_parts (result_cases ++ receiver_cases ++ parameter_cases) (unknown_names names u (throws_of w)) c.lesser_of.ensures
    (least_parts (result_cases ++ receiver_cases) parameter_cases c.lesser_of-before_throws.ensures (least_parts result_cases receiver_cases c.lesser_of-before_parameters.ensures first second) third)
    fourth

use Rattle.std.proofs.Common.{length, rules}
use Rattle.std.proofs.lemmas.Slice.Zip.{zip_end}
use Rattle.body_variables.proofs.Parameters.{parameters_end}
use Rattle.body_variables.proofs.declarations.push_parameters.Goals as goal

pub returns : goal.returns
returns c =
    parameters_end c.args.parameters.now c.args.signature.now (length c.loop-written.yielded) _ _ c.loop-written.invariant
    (zip_end c.args.parameters.now c.args.signature.now c.loop-written.yielded c.into_iter-written-iterator.result c.loop-written.written-iterator c.next.new.self c.next.result (search rules) (search rules) c.loop-written.yielded_by c.in-None.is c.next.ensures.steps)

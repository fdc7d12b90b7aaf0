use Rattle.program_model.specs.declared.program.Promise.{Promise}
use Rattle.program_model.specs.NameSets.{Names, when}
use Rattle.program_model.proofs.NameLaws.{names_more}
use Rattle.must_call_sets.specs.Signatures.{is_of_field}
use Rattle.must_call_sets.proofs.signatures.names_promised_on_field.Goals as goal

pub loop-promise-preserved : goal.loop-promise-preserved
loop-promise-preserved c =
    let f : Promise → Names = λ x. when (is_of_field x.target c.args.field) x.names in
    let more = names_more f c.args.promises.now c.loop-promise.promise-index c.promise-item.result c.loop-promise-test.true c.promise-item.is in
    cc

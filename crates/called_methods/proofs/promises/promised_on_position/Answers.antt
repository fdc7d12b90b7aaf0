use Rattle.program_model.specs.declared.program.Promise.{Promise}
use Rattle.program_model.specs.NameSets.{Names, when}
use Rattle.program_model.proofs.NameLaws.{names_more}
use Rattle.called_methods.specs.Promises.{is_of_origin}
use Rattle.called_methods.proofs.promises.promised_on_position.Goals as goal

pub loop-promise-preserved : goal.loop-promise-preserved
loop-promise-preserved c =
    let f : Promise → Names = λ x. when (is_of_origin c.args.kind x.target) x.names in
    let more = names_more f c.args.promises.now c.loop-promise.promise-index c.promise-item.result c.loop-promise-test.true c.promise-item.is in
    cc

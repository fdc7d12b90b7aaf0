use Rattle.called_methods.proofs.CallNames.{asked_more}
use Rattle.called_methods.proofs.preconditions.asked_by.Goals as goal

pub loop-number-preserved : goal.loop-number-preserved
loop-number-preserved c =
    let more = asked_more c.args.action c.args.held c.args.parameters.now c.loop-number.number c.index-parameters-number.result c.loop-number-test.true c.index-parameters-number.is in
    cc

use Rattle.effective_signatures.specs.Effective.{signed_parameter}
use Rattle.effective_signatures.proofs.Maps.{left_more, map_more}
use Rattle.effective_signatures.proofs.effective.sign_parameters.Goals as goal

pub loop-parameter-preserved : goal.loop-parameter-preserved
loop-parameter-preserved c = record {
  done =
      map_more (signed_parameter c.args.names.now) c.args.parameters.now c.loop-parameter.parameters c.loop-parameter.parameter-index c.parameter-item.result _
      c.loop-parameter-test.true c.loop-parameter.auto.parameters c.loop-parameter.invariant.done c.loop-parameter.invariant.left
      c.sign_parameter.ensures;
  left = left_more c.args.parameters.now c.loop-parameter.parameters c.loop-parameter.parameter-index _ c.loop-parameter.invariant.left;
}

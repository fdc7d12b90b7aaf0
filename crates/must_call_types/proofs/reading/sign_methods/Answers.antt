use Rattle.std.proofs.Common.{◌<◌, length}
use Rattle.program_model.specs.declared.program.Method.{Method}
use Rattle.effective_signatures.specs.SignedMethods.{IsSignedMethod}
use Rattle.effective_signatures.proofs.Maps.{all_left, left_more, zip_more}
use Rattle.must_call_types.proofs.reading.sign_methods.Goals as goal

pub sign-requires : goal.sign-requires
sign-requires c =
    all_left (λ (m : Method). length m.sig.params.items < 4294967295) c.args.methods.now c.loop-method.methods c.loop-method.method-index c.method-item.result
    c.loop-method-test.true c.loop-method.invariant.left c.requires

pub loop-method-preserved : goal.loop-method-preserved
loop-method-preserved c = record {
  done =
      zip_more (IsSignedMethod c.args.names.now c.args.fields.now c.args.classes.now) c.args.methods.now c.loop-method.methods c.loop-method.method-index
      c.method-item.result c.sign.new.method c.loop-method-test.true c.loop-method.auto.methods c.loop-method.invariant.done c.loop-method.invariant.left
      c.in_ok-sign.ensures;
  left = left_more c.args.methods.now c.loop-method.methods c.loop-method.method-index _ c.loop-method.invariant.left;
}

use Rattle.std.proofs.Common.{List, ℕ}
use Rattle.effective_signatures.specs.Effective.{promise}
use Rattle.effective_signatures.specs.Targets.{target_of}
use Rattle.effective_signatures.proofs.Maps.{kept_more}
use Rattle.effective_signatures.proofs.effective.promises_of.Goals as goal

pub loop-text-preserved : goal.loop-text-preserved
loop-text-preserved c =
    let f = λ (text : List ℕ). promise c.args.names (target_of c.args.with_object c.args.count c.args.fields.now c.args.own.now text) in
    kept_more f c.args.texts.now c.loop-text.text-index c.text-item.result _ _ _ c.loop-text-test.true c.text-item.is c.loop-text.invariant c.promise_of-promise.ensures c.in_ok-put.ensures

use Rattle.must_call_sets.specs.OverrideCases.{keeps}
use Rattle.override_rules.proofs.PromiseLaws.{all_more}
use Rattle.override_rules.proofs.bad_overrides.keeps_all.Goals as goal

pub loop-other-preserved : goal.loop-other-preserved
loop-other-preserved c =
    let more = all_more (keeps c.args.promises.now) c.args.others.now c.loop-other.other-index c.other-item.result c.loop-other-test.true c.other-item.is in
    cc

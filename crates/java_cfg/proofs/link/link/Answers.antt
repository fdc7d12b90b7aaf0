-- One step more has its arc.
use Rattle.std.proofs.Common.{List, [], subst, sym}
use Rattle.java_cfg.specs.declared.arc.Arc.{Arc}
use Rattle.java_cfg.proofs.LinkLemmas.{AreLinked, grown, linked_next, linked_none, numbers_once}
use Rattle.java_cfg.proofs.link.link.Goals as goal

pub loop-step-init : goal.loop-step-init
loop-step-init c =
    let numbers = c.args.numbers.now.keys in
    record {
      linked = subst (λ (row : List Arc). AreLinked numbers numbers row []) (sym c.new-row.ensures.items) (linked_none numbers (numbers_once numbers c.len-count.ensures.unique));
      few = c.requires;
    }

pub returns-in_err-link_one-clause-grows : goal.returns-in_err-link_one-clause-grows
returns-in_err-link_one-clause-grows c = grown _ _ _ c.args.steps.now c.loop-step.step-index _ c.loop-step-test.true c.loop-step.invariant.linked.grows c.link_one.ensures.grows

pub returns-in_err-push-clause-grows : goal.returns-in_err-push-clause-grows
returns-in_err-push-clause-grows c = grown _ _ _ c.args.steps.now c.loop-step.step-index _ c.loop-step-test.true c.loop-step.invariant.linked.grows c.link_one.ensures.grows

pub loop-step-preserved : goal.loop-step-preserved
loop-step-preserved c = record {
  linked = linked_next _ _ _ _ _ c.args.steps.now c.loop-step.step-index _ c.in_ok-link_one.field-0 c.loop-step-test.true c.in_ok-push.ensures.items c.loop-step.invariant.linked c.link_one.ensures.grows c.link_one.ensures.once c.in_ok-link_one.ensures.arc c.in_ok-link_one.ensures.next c.in_ok-link_one.ensures.count;
  few = c.in_ok-link_one.ensures.few;
}

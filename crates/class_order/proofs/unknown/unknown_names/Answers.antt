-- One name more.
use Rattle.std.proofs.Common.{◌∙◌, sym}
use Rattle.refusal_order.specs.Refusals.{lesser_of}
use Rattle.class_names.specs.Meanings.{unit_of}
use Rattle.class_order.specs.UnknownNames.{unknown_name}
use Rattle.class_order.proofs.CaseLemmas.{least_more}
use Rattle.class_order.proofs.unknown.unknown_names.Goals as goal

pub loop-name-preserved : goal.loop-name-preserved
loop-name-preserved c =
    c.lesser_of-found.ensures ∙ (λ j. lesser_of (c.loop-name.invariant j) (c.unknown_name.ensures j))
    ∙ sym (least_more (unknown_name c.args.names.now (unit_of c.args.scope.now)) c.args.written.now c.loop-name.name-index c.name-item.result c.loop-name-test.true c.name-item.is)

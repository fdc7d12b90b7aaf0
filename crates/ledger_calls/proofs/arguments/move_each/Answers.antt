use Rattle.std.proofs.Common.{◌∙◌, ap, sym, ◌+◌}
use Rattle.ledger_calls.specs.Calls.{move_param, move_params, operand_of}
use Rattle.ledger_calls.proofs.ArgumentLaws.{moved_all, moved_further}
use Rattle.ledger_calls.proofs.arguments.move_each.Goals as goal

pub each-preserved : goal.each-preserved
each-preserved c =
    moved_further c.args.p.now c.args.owner (operand_of c.args.locals.now c.args.action) c.each.place c.args.parameters.now c.index-parameters-place.result c.each.heap c.move_param.new.heap
    (move_params c.args.p.now c.args.owner (operand_of c.args.locals.now c.args.action) 1 c.args.parameters.now c.args.heap.now)
    c.each-test.true c.index-parameters-place.is
    (c.move_param.ensures ∙ ap (λ v. move_param c.args.p.now c.args.owner v c.index-parameters-place.result c.each.heap) c.operand_of-value.ensures)
    c.each.invariant

pub returns : goal.returns
returns c =
    sym (moved_all c.args.p.now c.args.owner (operand_of c.args.locals.now c.args.action) (c.each.place + 1) c.each.place c.args.parameters.now c.each.heap c.each-test.false)
    ∙ c.each.invariant

use Rattle.std.proofs.Common.{◌∙◌, ap}
use Rattle.ledger_calls.specs.Calls.{operand_of}
use Rattle.ledger_calls.specs.Conducts.{share_value}
use Rattle.ledger_calls.proofs.ArgumentLaws.{shared_further}
use Rattle.ledger_calls.proofs.arguments.share_arguments.Goals as goal

pub each-preserved : goal.each-preserved
each-preserved c =
    shared_further c.args.arrays.now c.each.arrays c.share_value.new.arrays (operand_of c.args.locals.now c.args.action) c.each.place c.each.invariant
    (c.share_value.ensures ∙ ap (share_value c.each.arrays) c.operand_of.ensures)

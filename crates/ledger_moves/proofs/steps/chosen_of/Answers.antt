use Rattle.ledger_frames.specs.Choosing.{agrees}
use Rattle.ledger_moves.proofs.ChainLaws.{found_within}
use Rattle.ledger_moves.proofs.steps.chosen_of.Goals as goal

pub returns-clause-within : goal.returns-clause-within
returns-clause-within c =
    found_within (agrees c.args.p.now c.args.heap.now c.args.arrays.now c.args.method c.args.locals.now) c.args.steps.now c.chosen.result c.chosen.ensures

use Rattle.ledger_frames.specs.Choosing.{goes_by}
use Rattle.ledger_moves.proofs.ChainLaws.{found_within}
use Rattle.ledger_moves.proofs.calls.by_edge.Goals as goal

pub returns-clause-within : goal.returns-clause-within
returns-clause-within c = found_within (goes_by c.args.edge) c.args.steps.now c.step_by.result c.step_by.ensures

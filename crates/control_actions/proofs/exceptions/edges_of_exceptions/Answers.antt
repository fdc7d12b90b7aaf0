use Rattle.control_actions.proofs.LeavingLaws.{has_edges}
use Rattle.control_actions.proofs.exceptions.edges_of_exceptions.Goals as goal

pub returns : goal.returns
returns c = has_edges c.args.p.now c.requires c.args.action

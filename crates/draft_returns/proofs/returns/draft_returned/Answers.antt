use Rattle.std.proofs.Common.{◌+◌}
use Rattle.object_index.specs.FrameOwners.{lists_in}
use Rattle.draft_returns.proofs.RestLaws.{listed_first}
use Rattle.draft_returns.proofs.returns.draft_returned.Goals as goal

pub return_step-requires-clause-listed : goal.return_step-requires-clause-listed
return_step-requires-clause-listed c =
    listed_first (c.args.position + 1) (lists_in c.args.lists.now) c.list_above-listed.result.now c.args.heap.now c.requires.listed c.list_above-listed.ensures

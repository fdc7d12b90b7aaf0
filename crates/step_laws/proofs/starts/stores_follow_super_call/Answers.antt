use Rattle.step_laws.proofs.StartReached.{follows}
use Rattle.step_laws.proofs.starts.stores_follow_super_call.Goals as goal

pub returns : goal.returns
returns c = follows

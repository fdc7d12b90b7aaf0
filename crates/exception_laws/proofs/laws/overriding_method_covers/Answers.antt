use Rattle.exception_laws.proofs.LeavingCalls.{overridden_covers}
use Rattle.exception_laws.proofs.laws.overriding_method_covers.Goals as goal

pub returns : goal.returns
returns c = overridden_covers

use Rattle.exception_laws.proofs.LeavingCalls.{leaves}
use Rattle.exception_laws.proofs.laws.covered_exception_leaves_call.Goals as goal

pub returns : goal.returns
returns c = leaves

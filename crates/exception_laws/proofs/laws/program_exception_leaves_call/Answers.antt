use Rattle.exception_laws.proofs.LeavingCalls.{leaves_call}
use Rattle.exception_laws.proofs.laws.program_exception_leaves_call.Goals as goal

pub returns : goal.returns
returns c = leaves_call

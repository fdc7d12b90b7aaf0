use Rattle.exception_laws.proofs.AcceptedCalls.{accepted_leaves_call}
use Rattle.exception_laws.proofs.laws.accepted_program_exception_leaves_call.Goals as goal

pub returns : goal.returns
returns c = accepted_leaves_call

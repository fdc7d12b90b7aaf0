-- The law is a lemma over the definitions alone.
use Rattle.acceptance_laws.proofs.StopOnce.{one_first_stop}
use Rattle.acceptance_laws.proofs.program_fault.first_stop_is_one.Goals as goal

pub returns : goal.returns
returns c = one_first_stop

-- The law is a lemma over the definitions alone.
use Rattle.acceptance_laws.proofs.StopOnce.{counted_goes_on}
use Rattle.acceptance_laws.proofs.program_fault.counted_program_does_not_stop.Goals as goal

pub returns : goal.returns
returns c = counted_goes_on

-- The law is a lemma over the definitions alone.
use Rattle.acceptance_laws.proofs.CountOnce.{counts_same}
use Rattle.acceptance_laws.proofs.program_fault.fault_count_is_one.Goals as goal

pub returns : goal.returns
returns c = counts_same

-- The law is a lemma over the definitions alone.
use Rattle.acceptance_laws.proofs.AcceptedFiles.{counted_accepted}
use Rattle.acceptance_laws.proofs.acceptance.counted_program_is_accepted.Goals as goal

pub returns : goal.returns
returns c = counted_accepted

-- The law is a lemma over the definitions alone.
use Rattle.acceptance_laws.proofs.ReadExceptions.{covers}
use Rattle.acceptance_laws.proofs.checked_exception.read_program_covers_its_exceptions.Goals as goal

pub returns : goal.returns
returns c = covers

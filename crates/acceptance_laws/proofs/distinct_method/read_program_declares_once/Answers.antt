-- The law is a lemma over the definitions alone.
use Rattle.acceptance_laws.proofs.Declared.{read_once}
use Rattle.acceptance_laws.proofs.distinct_method.read_program_declares_once.Goals as goal

pub returns : goal.returns
returns c = read_once

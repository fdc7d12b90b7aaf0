-- The law is a lemma over the definitions alone.
use Rattle.acceptance_laws.proofs.SameCases.{same_cases}
use Rattle.acceptance_laws.proofs.overriding.programs_of_same_tables_have_same_cases.Goals as goal

pub returns : goal.returns
returns c = same_cases

-- The law is a lemma over the definitions alone.
use Rattle.acceptance_laws.proofs.SignedTables.{no_cases}
use Rattle.acceptance_laws.proofs.overriding.accepted_table_has_no_override_cases.Goals as goal

pub returns : goal.returns
returns c = no_cases

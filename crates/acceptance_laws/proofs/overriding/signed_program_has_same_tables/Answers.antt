-- The law is a lemma over the definitions alone.
use Rattle.acceptance_laws.proofs.SignedTables.{signed_tables}
use Rattle.acceptance_laws.proofs.overriding.signed_program_has_same_tables.Goals as goal

pub returns : goal.returns
returns c = signed_tables

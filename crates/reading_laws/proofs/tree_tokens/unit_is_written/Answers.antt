-- The law is a lemma over the definitions alone.
use Rattle.reading_laws.proofs.Files.{unit_written}
use Rattle.reading_laws.proofs.tree_tokens.unit_is_written.Goals as goal

pub returns : goal.returns
returns c = unit_written

-- The law is a lemma over the definitions alone.
use Rattle.reading_laws.proofs.Files.{type_written}
use Rattle.reading_laws.proofs.tree_tokens.type_is_written.Goals as goal

pub returns : goal.returns
returns c = type_written

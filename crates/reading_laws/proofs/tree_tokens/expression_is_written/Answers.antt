-- The law is a lemma over the definitions alone.
use Rattle.reading_laws.proofs.Files.{expression_written}
use Rattle.reading_laws.proofs.tree_tokens.expression_is_written.Goals as goal

pub returns : goal.returns
returns c = expression_written

-- The law is a lemma over the definitions alone.
use Rattle.reading_laws.proofs.Files.{annotations_written}
use Rattle.reading_laws.proofs.tree_tokens.annotations_are_written.Goals as goal

pub returns : goal.returns
returns c = annotations_written

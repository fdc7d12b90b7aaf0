-- The law is a lemma over the definitions alone.
use Rattle.reading_laws.proofs.Files.{units_written}
use Rattle.reading_laws.proofs.tree_tokens.stub_is_written.Goals as goal

pub returns : goal.returns
returns c = units_written

-- The law is a lemma over the definitions alone.
use Rattle.reading_laws.proofs.Parsed.{parsed_type}
use Rattle.reading_laws.proofs.parsed_tokens.parsed_type_is_written.Goals as goal

pub returns : goal.returns
returns c = parsed_type

-- The law is a lemma over the definitions alone.
use Rattle.elaboration_laws.proofs.LibraryString.{sources_are_not_string}
use Rattle.elaboration_laws.proofs.laws.no_source_class_is_string.Goals as goal

pub returns : goal.returns
returns c = sources_are_not_string

-- The law is a lemma over the definitions alone.
use Rattle.elaboration_laws.proofs.LibraryString.{string_in_library}
use Rattle.elaboration_laws.proofs.laws.string_is_of_the_library.Goals as goal

pub returns : goal.returns
returns c = string_in_library

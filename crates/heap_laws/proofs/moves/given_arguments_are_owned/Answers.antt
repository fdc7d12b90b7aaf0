use Rattle.heap_laws.proofs.HeapLaws.{given_arguments_are_owned}
use Rattle.heap_laws.proofs.moves.given_arguments_are_owned.Goals as goal

pub returns : goal.returns
returns c = given_arguments_are_owned

use Rattle.heap_laws.proofs.HeapLaws.{moved_arguments_are_given}
use Rattle.heap_laws.proofs.moves.moved_arguments_are_given.Goals as goal

pub returns : goal.returns
returns c = moved_arguments_are_given

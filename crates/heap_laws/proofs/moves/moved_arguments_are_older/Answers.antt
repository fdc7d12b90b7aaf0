use Rattle.heap_laws.proofs.HeapLaws.{moved_arguments_are_older-older, moved_arguments_are_older-evolves}
use Rattle.heap_laws.proofs.moves.moved_arguments_are_older.Goals as goal

pub returns : goal.returns
returns c = record { older = moved_arguments_are_older-older; evolves = moved_arguments_are_older-evolves }

use Rattle.heap_laws.proofs.HeapLaws.{moved_value-before, moved_value-taken}
use Rattle.heap_laws.proofs.moves.moved_value.Goals as goal

pub returns : goal.returns
returns c = record { before = moved_value-before; taken = moved_value-taken }

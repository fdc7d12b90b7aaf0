use Rattle.heap_laws.proofs.HeapLaws.{moves_make_nothing}
use Rattle.heap_laws.proofs.moves.moves_make_nothing.Goals as goal

pub returns : goal.returns
returns c = moves_make_nothing

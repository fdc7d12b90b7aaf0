use Rattle.heap_laws.proofs.HeapLaws.{end_of_holder_leaks_nothing}
use Rattle.heap_laws.proofs.lines.end_of_holder_leaks_nothing.Goals as goal

pub returns : goal.returns
returns c = end_of_holder_leaks_nothing

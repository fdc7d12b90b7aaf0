use Rattle.heap_laws.proofs.HeapLaws.{root_of_changed}
use Rattle.heap_laws.proofs.roots.root_of_changed.Goals as goal

pub returns : goal.returns
returns c = root_of_changed

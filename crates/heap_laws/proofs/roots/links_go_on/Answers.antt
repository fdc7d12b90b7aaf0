use Rattle.heap_laws.proofs.HeapLaws.{links_go_on}
use Rattle.heap_laws.proofs.roots.links_go_on.Goals as goal

pub returns : goal.returns
returns c = links_go_on

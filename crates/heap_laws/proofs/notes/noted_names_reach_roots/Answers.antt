use Rattle.heap_laws.proofs.HeapLaws.{noted_names_reach_roots}
use Rattle.heap_laws.proofs.notes.noted_names_reach_roots.Goals as goal

pub returns : goal.returns
returns c = noted_names_reach_roots

use Rattle.heap_laws.proofs.HeapLaws.{noted_names_stand}
use Rattle.heap_laws.proofs.notes.noted_names_stand.Goals as goal

pub returns : goal.returns
returns c = noted_names_stand

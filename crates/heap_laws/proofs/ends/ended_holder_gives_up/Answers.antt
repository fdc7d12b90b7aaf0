use Rattle.heap_laws.proofs.HeapLaws.{ended_holder_gives_up}
use Rattle.heap_laws.proofs.ends.ended_holder_gives_up.Goals as goal

pub returns : goal.returns
returns c = ended_holder_gives_up

use Rattle.heap_laws.proofs.HeapLaws.{ended_frame_gives_up}
use Rattle.heap_laws.proofs.ends.ended_frame_gives_up.Goals as goal

pub returns : goal.returns
returns c = ended_frame_gives_up

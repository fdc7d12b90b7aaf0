use Rattle.heap_laws.proofs.FrameEnds.{contents_end_met}
use Rattle.heap_laws.proofs.gone.contents_end_met.Goals as goal

pub returns : goal.returns
returns c = contents_end_met

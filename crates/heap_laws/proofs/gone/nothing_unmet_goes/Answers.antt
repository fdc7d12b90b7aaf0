use Rattle.heap_laws.proofs.FrameEnds.{nothing_unmet_goes}
use Rattle.heap_laws.proofs.gone.nothing_unmet_goes.Goals as goal

pub returns : goal.returns
returns c = nothing_unmet_goes

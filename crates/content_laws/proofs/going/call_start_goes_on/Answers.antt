use Rattle.content_laws.proofs.Heaps.{start_goes}
use Rattle.content_laws.proofs.going.call_start_goes_on.Goals as goal

pub returns : goal.returns
returns c = start_goes

use Rattle.content_laws.proofs.Heaps.{end_goes}
use Rattle.content_laws.proofs.going.call_end_goes_on.Goals as goal

pub returns : goal.returns
returns c = end_goes

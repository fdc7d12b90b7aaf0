use Rattle.content_laws.proofs.Heaps.{library_goes}
use Rattle.content_laws.proofs.going.library_call_goes_on.Goals as goal

pub returns : goal.returns
returns c = library_goes

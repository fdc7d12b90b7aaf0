use Rattle.content_laws.proofs.Heaps.{inner_goes}
use Rattle.content_laws.proofs.going.inner_step_goes_on.Goals as goal

pub returns : goal.returns
returns c = inner_goes

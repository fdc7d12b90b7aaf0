use Rattle.step_laws.proofs.Origins.{temps_hold_none}
use Rattle.step_laws.proofs.sources.temps_hold_none.Goals as goal

pub returns : goal.returns
returns c = temps_hold_none

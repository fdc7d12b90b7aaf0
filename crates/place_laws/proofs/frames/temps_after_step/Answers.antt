use Rattle.place_laws.proofs.Temps.{temps_after_step}
use Rattle.place_laws.proofs.frames.temps_after_step.Goals as goal

pub returns : goal.returns
returns c = temps_after_step

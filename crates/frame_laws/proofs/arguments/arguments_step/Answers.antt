use Rattle.frame_laws.proofs.ArgumentLaws.{arguments_step}
use Rattle.frame_laws.proofs.arguments.arguments_step.Goals as goal

pub returns : goal.returns
returns c = arguments_step

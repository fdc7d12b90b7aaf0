use Rattle.frame_laws.proofs.ArgumentLaws.{arguments_at_start}
use Rattle.frame_laws.proofs.arguments.arguments_at_start.Goals as goal

pub returns : goal.returns
returns c = arguments_at_start

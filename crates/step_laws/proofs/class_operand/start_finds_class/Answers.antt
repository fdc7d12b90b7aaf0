use Rattle.step_laws.proofs.ClassWays.{start_finds_class}
use Rattle.step_laws.proofs.class_operand.start_finds_class.Goals as goal

pub returns : goal.returns
returns c = start_finds_class

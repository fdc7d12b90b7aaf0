use Rattle.step_laws.proofs.ClassWays.{steps_find_class}
use Rattle.step_laws.proofs.class_operand.steps_find_class.Goals as goal

pub returns : goal.returns
returns c = steps_find_class

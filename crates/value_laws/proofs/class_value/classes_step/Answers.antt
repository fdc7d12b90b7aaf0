use Rattle.value_laws.proofs.ClassLaws.{classes_step}
use Rattle.value_laws.proofs.class_value.classes_step.Goals as goal

pub returns : goal.returns
returns c = classes_step

use Rattle.value_laws.proofs.ClassLaws.{classes_at_start}
use Rattle.value_laws.proofs.class_value.classes_at_start.Goals as goal

pub returns : goal.returns
returns c = classes_at_start

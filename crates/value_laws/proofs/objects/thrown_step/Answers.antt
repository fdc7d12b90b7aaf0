use Rattle.value_laws.proofs.ThrownLaws.{thrown_step}
use Rattle.value_laws.proofs.objects.thrown_step.Goals as goal

pub returns : goal.returns
returns c = thrown_step

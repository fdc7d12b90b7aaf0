use Rattle.value_laws.proofs.ThrownLaws.{thrown_at_start}
use Rattle.value_laws.proofs.objects.thrown_at_start.Goals as goal

pub returns : goal.returns
returns c = thrown_at_start

use Rattle.value_laws.proofs.ThrownLaws.{ends_by_exception}
use Rattle.value_laws.proofs.objects.ends_by_exception.Goals as goal

pub returns : goal.returns
returns c = ends_by_exception

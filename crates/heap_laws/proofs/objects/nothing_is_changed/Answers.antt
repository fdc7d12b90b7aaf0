use Rattle.heap_laws.proofs.HeapLaws.{nothing_is_changed}
use Rattle.heap_laws.proofs.objects.nothing_is_changed.Goals as goal

pub returns : goal.returns
returns c = nothing_is_changed

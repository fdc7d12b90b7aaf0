use Rattle.heap_laws.proofs.HeapLaws.{numbers_are_in_range}
use Rattle.heap_laws.proofs.objects.numbers_are_in_range.Goals as goal

pub returns : goal.returns
returns c = numbers_are_in_range

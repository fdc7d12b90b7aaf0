use Rattle.heap_laws.proofs.HeapLaws.{evolving_heaps-same, evolving_heaps-further, evolving_heaps-links}
use Rattle.heap_laws.proofs.objects.evolving_heaps.Goals as goal

pub returns : goal.returns
returns c = record { same = evolving_heaps-same; further = evolving_heaps-further; links = evolving_heaps-links }

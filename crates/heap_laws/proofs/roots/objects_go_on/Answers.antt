use Rattle.heap_laws.proofs.HeapLaws.{objects_go_on-value, objects_go_on-made, objects_go_on-frame, objects_go_on-holder, objects_go_on-lost}
use Rattle.heap_laws.proofs.roots.objects_go_on.Goals as goal

pub returns : goal.returns
returns c = record { value = objects_go_on-value; made = objects_go_on-made; frame = objects_go_on-frame; holder = objects_go_on-holder; lost = objects_go_on-lost }

use Rattle.heap_laws.proofs.HeapLaws.{changed_object_at-object, changed_object_at-count}
use Rattle.heap_laws.proofs.objects.changed_object_at.Goals as goal

pub returns : goal.returns
returns c = record { object = changed_object_at-object; count = changed_object_at-count }

use Rattle.heap_laws.proofs.HeapLaws.{appended_object_at-object, appended_object_at-count}
use Rattle.heap_laws.proofs.objects.appended_object_at.Goals as goal

pub returns : goal.returns
returns c = record { object = appended_object_at-object; count = appended_object_at-count }

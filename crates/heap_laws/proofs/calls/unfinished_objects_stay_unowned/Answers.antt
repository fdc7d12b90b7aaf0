use Rattle.heap_laws.proofs.LibraryCallLaws.{unfinished_objects_stay_unowned-call, unfinished_objects_stay_unowned-exception}
use Rattle.heap_laws.proofs.calls.unfinished_objects_stay_unowned.Goals as goal

pub returns : goal.returns
returns c = record { call = unfinished_objects_stay_unowned-call; exception = unfinished_objects_stay_unowned-exception }

use Rattle.heap_laws.proofs.LibraryCallLaws.{any_unfinished_objects_stay_unowned}
use Rattle.heap_laws.proofs.resets.any_unfinished_objects_stay_unowned.Goals as goal

pub returns : goal.returns
returns c = any_unfinished_objects_stay_unowned

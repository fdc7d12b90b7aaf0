use Rattle.heap_laws.proofs.LibraryCallLaws.{any_library_objects_go_on}
use Rattle.heap_laws.proofs.resets.any_library_objects_go_on.Goals as goal

pub returns : goal.returns
returns c = any_library_objects_go_on

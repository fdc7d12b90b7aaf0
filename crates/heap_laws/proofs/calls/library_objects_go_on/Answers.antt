use Rattle.heap_laws.proofs.LibraryCallLaws.{library_objects_go_on}
use Rattle.heap_laws.proofs.calls.library_objects_go_on.Goals as goal

pub returns : goal.returns
returns c = library_objects_go_on

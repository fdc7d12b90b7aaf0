use Rattle.heap_laws.proofs.LibraryCallLaws.{library_objects_are_older_or_made}
use Rattle.heap_laws.proofs.calls.library_objects_are_older_or_made.Goals as goal

pub returns : goal.returns
returns c = library_objects_are_older_or_made

use Rattle.heap_laws.proofs.LibraryCallLaws.{any_library_objects_are_older_or_made}
use Rattle.heap_laws.proofs.resets.any_library_objects_are_older_or_made.Goals as goal

pub returns : goal.returns
returns c = any_library_objects_are_older_or_made

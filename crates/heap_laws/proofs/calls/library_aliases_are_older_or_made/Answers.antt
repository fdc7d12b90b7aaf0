use Rattle.heap_laws.proofs.LibraryCallLaws.{library_aliases_are_older_or_made}
use Rattle.heap_laws.proofs.calls.library_aliases_are_older_or_made.Goals as goal

pub returns : goal.returns
returns c = library_aliases_are_older_or_made

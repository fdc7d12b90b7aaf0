use Rattle.heap_laws.proofs.LibraryCallLaws.{library_links_stay}
use Rattle.heap_laws.proofs.calls.library_links_stay.Goals as goal

pub returns : goal.returns
returns c = library_links_stay

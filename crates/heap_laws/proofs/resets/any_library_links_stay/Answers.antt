use Rattle.heap_laws.proofs.LibraryCallLaws.{any_library_links_stay}
use Rattle.heap_laws.proofs.resets.any_library_links_stay.Goals as goal

pub returns : goal.returns
returns c = any_library_links_stay

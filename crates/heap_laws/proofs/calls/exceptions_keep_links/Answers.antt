use Rattle.heap_laws.proofs.LibraryCallLaws.{exceptions_keep_links-links, exceptions_keep_links-evolves}
use Rattle.heap_laws.proofs.calls.exceptions_keep_links.Goals as goal

pub returns : goal.returns
returns c = record { links = exceptions_keep_links-links; evolves = exceptions_keep_links-evolves }

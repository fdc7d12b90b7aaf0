use Rattle.heap_laws.proofs.LibraryCallLaws.{emptied_roots-none, emptied_roots-root}
use Rattle.heap_laws.proofs.resets.emptied_roots.Goals as goal

pub returns : goal.returns
returns c = record { none = emptied_roots-none; root = emptied_roots-root }

use Rattle.heap_laws.proofs.LibraryCallLaws.{emptied_objects}
use Rattle.heap_laws.proofs.resets.emptied_objects.Goals as goal

pub returns : goal.returns
returns c = emptied_objects

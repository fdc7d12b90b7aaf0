use Rattle.heap_laws.proofs.LibraryCallLaws.{exceptions_are_the_librarys}
use Rattle.heap_laws.proofs.calls.exceptions_are_the_librarys.Goals as goal

pub returns : goal.returns
returns c = exceptions_are_the_librarys

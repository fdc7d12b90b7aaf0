use Rattle.heap_laws.proofs.LibraryCallLaws.{library_calls_leak_nothing}
use Rattle.heap_laws.proofs.calls.library_calls_leak_nothing.Goals as goal

pub returns : goal.returns
returns c = library_calls_leak_nothing

use Rattle.heap_laws.proofs.LibraryCallLaws.{receiver_is_called}
use Rattle.heap_laws.proofs.calls.receiver_is_called.Goals as goal

pub returns : goal.returns
returns c = receiver_is_called

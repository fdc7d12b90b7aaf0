use Rattle.heap_laws.proofs.LibraryCallLaws.{any_receiver_is_called}
use Rattle.heap_laws.proofs.resets.any_receiver_is_called.Goals as goal

pub returns : goal.returns
returns c = any_receiver_is_called

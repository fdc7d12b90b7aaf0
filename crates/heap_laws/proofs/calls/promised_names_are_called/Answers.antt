use Rattle.heap_laws.proofs.LibraryCallLaws.{promised_names_are_called-position, promised_names_are_called-field}
use Rattle.heap_laws.proofs.calls.promised_names_are_called.Goals as goal

pub returns : goal.returns
returns c = record { position = promised_names_are_called-position; field = promised_names_are_called-field }

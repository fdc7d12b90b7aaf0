use Rattle.heap_laws.proofs.LibraryCallLaws.{any_promised_names_are_called-field, any_promised_names_are_called-position}
use Rattle.heap_laws.proofs.resets.any_promised_names_are_called.Goals as goal

pub returns : goal.returns
returns c = record { position = any_promised_names_are_called-position; field = any_promised_names_are_called-field }

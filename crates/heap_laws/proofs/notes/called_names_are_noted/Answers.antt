use Rattle.heap_laws.proofs.HeapLaws.{called_names_are_noted}
use Rattle.heap_laws.proofs.notes.called_names_are_noted.Goals as goal

pub returns : goal.returns
returns c = called_names_are_noted

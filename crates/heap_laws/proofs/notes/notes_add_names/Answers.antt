use Rattle.heap_laws.proofs.HeapLaws.{notes_add_names-object, notes_add_names-owner, notes_add_names-heap}
use Rattle.heap_laws.proofs.notes.notes_add_names.Goals as goal

pub returns : goal.returns
returns c = record { object = notes_add_names-object; owner = notes_add_names-owner; heap = notes_add_names-heap }

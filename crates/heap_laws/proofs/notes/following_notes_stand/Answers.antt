use Rattle.heap_laws.proofs.HeapLaws.{following_notes_stand}
use Rattle.heap_laws.proofs.notes.following_notes_stand.Goals as goal

pub returns : goal.returns
returns c = following_notes_stand

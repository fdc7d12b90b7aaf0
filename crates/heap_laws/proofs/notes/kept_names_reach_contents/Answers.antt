use Rattle.heap_laws.proofs.HeapLaws.{kept_names_reach_contents}
use Rattle.heap_laws.proofs.notes.kept_names_reach_contents.Goals as goal

pub returns : goal.returns
returns c = kept_names_reach_contents

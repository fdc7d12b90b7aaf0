use Rattle.heap_laws.proofs.HeapLaws.{unchanged_fields_keep_contents}
use Rattle.heap_laws.proofs.leading.unchanged_fields_keep_contents.Goals as goal

pub returns : goal.returns
returns c = unchanged_fields_keep_contents

use Rattle.heap_laws.proofs.HeapLaws.{owner_lines_leak_nothing}
use Rattle.heap_laws.proofs.lines.owner_lines_leak_nothing.Goals as goal

pub returns : goal.returns
returns c = owner_lines_leak_nothing

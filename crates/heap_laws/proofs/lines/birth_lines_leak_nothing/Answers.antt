use Rattle.heap_laws.proofs.HeapLaws.{birth_lines_leak_nothing}
use Rattle.heap_laws.proofs.lines.birth_lines_leak_nothing.Goals as goal

pub returns : goal.returns
returns c = birth_lines_leak_nothing

use Rattle.heap_laws.proofs.HeapLaws.{reset_lines_leak_nothing}
use Rattle.heap_laws.proofs.lines.reset_lines_leak_nothing.Goals as goal

pub returns : goal.returns
returns c = reset_lines_leak_nothing

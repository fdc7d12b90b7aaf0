use Rattle.heap_laws.proofs.HeapLaws.{called_lines_leak_nothing}
use Rattle.heap_laws.proofs.lines.called_lines_leak_nothing.Goals as goal

pub returns : goal.returns
returns c = called_lines_leak_nothing

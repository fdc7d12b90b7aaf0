use Rattle.heap_laws.proofs.HeapLaws.{step_leaks_nothing-lines, step_leaks_nothing-unchanged}
use Rattle.heap_laws.proofs.lines.step_leaks_nothing.Goals as goal

pub returns : goal.returns
returns c = record { lines = step_leaks_nothing-lines; unchanged = step_leaks_nothing-unchanged }

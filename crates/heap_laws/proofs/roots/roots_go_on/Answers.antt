use Rattle.heap_laws.proofs.HeapLaws.{roots_go_on-number, roots_go_on-value, roots_go_on-root}
use Rattle.heap_laws.proofs.roots.roots_go_on.Goals as goal

pub returns : goal.returns
returns c = record { number = roots_go_on-number; value = roots_go_on-value; root = roots_go_on-root }

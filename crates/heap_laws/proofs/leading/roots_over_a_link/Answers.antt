use Rattle.heap_laws.proofs.HeapLaws.{roots_over_a_link-linked, roots_over_a_link-number, roots_over_a_link-value, roots_over_a_link-before}
use Rattle.heap_laws.proofs.leading.roots_over_a_link.Goals as goal

pub returns : goal.returns
returns c = record { linked = roots_over_a_link-linked; number = roots_over_a_link-number; value = roots_over_a_link-value; before = roots_over_a_link-before }

use Rattle.heap_laws.proofs.HeapLaws.{leading_links-root, leading_links-end, leading_links-itself, leading_links-on}
use Rattle.heap_laws.proofs.leading.leading_links.Goals as goal

pub returns : goal.returns
returns c = record { root = leading_links-root; end = leading_links-end; itself = leading_links-itself; on = leading_links-on }

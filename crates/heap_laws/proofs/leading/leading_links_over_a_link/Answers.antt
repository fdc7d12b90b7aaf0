use Rattle.heap_laws.proofs.HeapLaws.{leading_links_over_a_link}
use Rattle.heap_laws.proofs.leading.leading_links_over_a_link.Goals as goal

pub returns : goal.returns
returns c = leading_links_over_a_link

use Rattle.heap_laws.proofs.HeapLaws.{roots_of_links-itself, roots_of_links-there, roots_of_links-linked, roots_of_links-absent}
use Rattle.heap_laws.proofs.roots.roots_of_links.Goals as goal

pub returns : goal.returns
returns c = record { itself = roots_of_links-itself; there = roots_of_links-there; linked = roots_of_links-linked; absent = roots_of_links-absent }

use Rattle.heap_laws.proofs.HeapLaws.{links_stay-moved, links_stay-value, links_stay-made, links_stay-noted, links_stay-frame, links_stay-holder, links_stay-lost}
use Rattle.heap_laws.proofs.roots.links_stay.Goals as goal

pub returns : goal.returns
returns c = record { moved = links_stay-moved; value = links_stay-value; made = links_stay-made; noted = links_stay-noted; frame = links_stay-frame; holder = links_stay-holder; lost = links_stay-lost }

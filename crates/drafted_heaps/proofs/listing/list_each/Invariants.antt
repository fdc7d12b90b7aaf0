use Rattle.std.proofs.Common.{take}
use Rattle.frame_owners.specs.FrameOwners.{HasAll, Listed, lists_in}
use Rattle.drafted_heaps.specs.DraftedHeaps.{AllListed}
use Rattle.drafted_heaps.proofs.listing.list_each.Given as goal

-- the lists have what they had, and the objects so far
abbrev pub invariant-each : goal.invariant-each
invariant-each l = record {
  all : HasAll (lists_in l.fn.lists.items) (lists_in l.lists.items);
  kept : Listed (lists_in l.lists.items) l.heap;
  listed : AllListed (lists_in l.lists.items) (take l.found-index l.objects);
}

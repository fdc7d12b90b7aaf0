use Rattle.std.proofs.Common.{◌≡◌, ◌+◌, vec_len}
use Rattle.frame_owners.specs.FrameOwners.{HasAll, lists_in}
use Rattle.object_index.proofs.lists.add_empty.Given as goal

-- so many lists are there more
abbrev pub invariant-loop-list : goal.invariant-loop-list
invariant-loop-list l = record {
  all : HasAll (lists_in l.fn.lists.items) (lists_in l.lists.items);
  more : vec_len l.lists ≡ vec_len l.fn.lists + l._list;
}

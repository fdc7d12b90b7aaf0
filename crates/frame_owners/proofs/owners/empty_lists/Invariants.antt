use Rattle.std.proofs.Common.{◌≡◌, vec_len}
use Rattle.frame_owners.proofs.owners.empty_lists.Given as goal

abbrev pub invariant-loop-list : goal.invariant-loop-list
invariant-loop-list l = vec_len l.lists ≡ l._list

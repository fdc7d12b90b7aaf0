use Rattle.std.proofs.Common.{◌≡◌}
use Rattle.std.specs.Ordering.{nat_cmp}
use Rattle.std.specs.Cmp.Lexicographic.{slice_cmp}
use Rattle.std.specs.FinMap.{find}
use Rattle.std.specs.VecDeque.Iter.{deque_iter_rest}
use Rattle.outside.specs.Files.{file}
use Rattle.outside.specs.MemFiles.{contents_of, pairs_of}
use Rattle.outside.proofs.memory_files.content_of.Given as goal

-- the name is found among the files that are left, or nowhere
abbrev pub invariant-loop-key : goal.invariant-loop-key
invariant-loop-key l = file (contents_of l.files.items) l.name ≡ find (slice_cmp nat_cmp) l.name (pairs_of (deque_iter_rest l.key-iterator))

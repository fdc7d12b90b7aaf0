use Rattle.std.proofs.Common.{◌≡◌, length, take}
use Rattle.class_headers.proofs.SearchLemmas.{AreCleared}
use Rattle.class_headers.proofs.search.clear.Given as goal

abbrev pub invariant-loop-class : goal.invariant-loop-class
invariant-loop-class l = record {
  cleared : AreCleared l.found (take l.class-index l.found) l.marks.items;
  long : length l.marks.items ≡ length l.fn.marks.items;
}

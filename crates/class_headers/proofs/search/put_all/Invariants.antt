use Rattle.std.proofs.Common.{◌≡◌, ◌+◌, length, take}
use Rattle.class_headers.specs.Search.{AreMarked, Grows, open_count}
use Rattle.class_headers.proofs.search.put_all.Given as goal

abbrev pub invariant-loop-class : goal.invariant-loop-class
invariant-loop-class l = record {
  grows : Grows l.fn.found.items l.found.items (take l.class-index l.classes);
  marked : AreMarked l.found.items l.marks.items;
  count : open_count l.marks.items + length l.found.items ≡ open_count l.fn.marks.items + length l.fn.found.items;
  long : length l.marks.items ≡ length l.fn.marks.items;
}

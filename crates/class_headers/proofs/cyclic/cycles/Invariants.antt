use Rattle.std.proofs.Common.{◌≡◌, [], length, map}
use Rattle.class_names.specs.ClassNames.{rows_in}
use Rattle.class_order.specs.Cases.{IsLeast}
use Rattle.class_order.specs.Declarations.{declaration_of}
use Rattle.class_headers.specs.Search.{AreMarked}
use Rattle.class_headers.proofs.CycleLemmas.{IsEarlyCycle}
use Rattle.class_headers.proofs.cyclic.cycles.Given as goal

abbrev pub invariant-loop-number : goal.invariant-loop-number
invariant-loop-number l = record {
  least : IsLeast (IsEarlyCycle (map declaration_of l.order) (rows_in l.direct) l.number) l.found;
  clear : AreMarked [] l.marks.items;
  long : length l.marks.items ≡ length l.direct;
}

use Rattle.std.proofs.Common.{◌≡◌, length, map, take}
use Rattle.class_names.specs.ClassNames.{rows_in}
use Rattle.class_order.specs.Declarations.{declaration_of}
use Rattle.class_headers.specs.Headers.{AllList, declared_headers, header_of}
use Rattle.class_headers.specs.SuperTypes.{supers_of}
use Rattle.class_headers.proofs.headers.classes_of.Given as goal

abbrev pub invariant-loop-number : goal.invariant-loop-number
invariant-loop-number l = record {
  count : length l.all.items ≡ l.number;
  headers : map header_of l.all.items ≡ declared_headers (map declaration_of (take l.number l.order)) (map supers_of (take l.number l.table.supers.items));
  above : AllList (rows_in l.table.direct.items) l.all.items;
}

use Rattle.std.proofs.Common.{◌≡◌, length, map}
use Rattle.rlc_base.specs.Names.{texts}
use Rattle.class_order.specs.Declarations.{declaration_of}
use Rattle.class_table.specs.Numbers.{row_at}
use Rattle.class_table.specs.Table.{bare_of}
use Rattle.class_table.proofs.MemberLemmas.{HaveTo}
use Rattle.class_table.proofs.class_members.put_all_members.Given as goal

abbrev pub invariant-loop-number : goal.invariant-loop-number
invariant-loop-number l = record {
  long : length l.classes ≡ length l.order;
  bare : map bare_of l.classes ≡ map bare_of l.initial.classes;
  members : HaveTo l.number (row_at (texts l.fields)) (row_at (texts l.methods)) (map declaration_of l.order) l.classes;
}

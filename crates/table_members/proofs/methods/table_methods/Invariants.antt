use Rattle.std.proofs.Common.{map, take, All}
use Rattle.std.specs.List.{AllZip}
use Rattle.class_declarations.specs.Members.{written_method_of}
use Rattle.table_members.specs.Methods.{HasFewParameters, IsMethod}
use Rattle.table_members.proofs.methods.table_methods.Given as goal

abbrev pub invariant-each : goal.invariant-each
invariant-each l = record {
  methods : AllZip (IsMethod l.names) (map written_method_of (take l.method-index l.written)) l.methods.items;
  parameters : All HasFewParameters l.methods.items;
}

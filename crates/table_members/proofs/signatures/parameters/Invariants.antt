use Rattle.std.proofs.Common.{take}
use Rattle.std.specs.List.{AllZip}
use Rattle.class_names.specs.Meanings.{unit_of}
use Rattle.table_members.specs.Methods.{IsParameter}
use Rattle.table_members.proofs.signatures.parameters.Given as goal

abbrev pub invariant-each : goal.invariant-each
invariant-each l = AllZip (IsParameter l.names (unit_of l.scope)) (take l.param-index l.written) l.made.items

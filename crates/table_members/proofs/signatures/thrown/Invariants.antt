use Rattle.std.proofs.Common.{take}
use Rattle.std.specs.List.{AllZip}
use Rattle.class_names.specs.Meanings.{unit_of}
use Rattle.table_members.specs.Methods.{IsNamedClass}
use Rattle.table_members.proofs.signatures.thrown.Given as goal

abbrev pub invariant-each : goal.invariant-each
invariant-each l = AllZip (IsNamedClass l.names (unit_of l.scope)) (take l.name-index l.written) l.classes.items

use Rattle.std.proofs.Common.{◌≡◌, false, take}
use Rattle.std.specs.List.{list_any}
use Rattle.fault_paths.specs.Tests.{can_break_by}
use Rattle.fault_paths.proofs.rows.can_break.Given as goal

abbrev pub invariant-each : goal.invariant-each
invariant-each l = list_any (can_break_by l.p l.b l.fault l.step) (take l.arc-index l.row) ≡ false

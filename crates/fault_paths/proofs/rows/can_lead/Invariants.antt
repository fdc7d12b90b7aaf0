use Rattle.std.proofs.Common.{◌≡◌, false, take}
use Rattle.std.specs.List.{list_any}
use Rattle.fault_paths.specs.Tests.{can_lead_by}
use Rattle.fault_paths.proofs.rows.can_lead.Given as goal

abbrev pub invariant-each : goal.invariant-each
invariant-each l = list_any (can_lead_by l.p l.b l.origin l.step l.next) (take l.arc-index l.row) ≡ false

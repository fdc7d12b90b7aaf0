use Rattle.std.proofs.Common.{◌≡◌, ◌≤◌, drop}
use Rattle.source_classes.specs.SourceClasses.{behind_last_dot}
use Rattle.source_classes.proofs.names.last_part_start.Given as goal

abbrev pub invariant-loop-i : goal.invariant-loop-i
invariant-loop-i l = (l.start ≤ l.i) × (behind_last_dot (drop l.start l.name) (drop l.i l.name) ≡ behind_last_dot l.name l.name)

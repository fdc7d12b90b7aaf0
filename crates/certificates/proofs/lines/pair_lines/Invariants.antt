use Rattle.std.proofs.Common.{◌+◌, ◌-◌, length}
use Rattle.certificates.proofs.lines.pair_lines.Given as goal

abbrev pub decreases-facts : goal.decreases-facts
decreases-facts l = l.place + 1 - length l.known.items

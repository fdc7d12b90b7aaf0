use Rattle.std.proofs.Common.{take}
use Rattle.reached_facts.specs.Points.{flat_from}
use Rattle.body_faults.specs.Breaches.{Gathers}
use Rattle.body_faults.specs.Broken.{broken_by}
use Rattle.body_faults.proofs.breaches.gather_row.Given as goal

abbrev pub invariant-arcs : goal.invariant-arcs
invariant-arcs l = Gathers l.fn.found l.found (flat_from (broken_by l.p l.b l.origin l.fact l.at) 0 (take l.i l.row))

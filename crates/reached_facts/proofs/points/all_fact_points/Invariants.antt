use Rattle.std.proofs.Common.{◌≡◌, take}
use Rattle.reached_facts.specs.Points.{fact_points, flat_from}
use Rattle.reached_facts.proofs.points.all_fact_points.Given as goal

abbrev pub invariant-arcs : goal.invariant-arcs
invariant-arcs l = l.points.items ≡ flat_from (fact_points l.p l.b l.origin l.fact l.at) 0 (take l.i l.row)

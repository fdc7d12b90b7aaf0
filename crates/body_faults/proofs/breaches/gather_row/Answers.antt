-- The step of one arc more is joined.
use Rattle.std.proofs.Common.{◌+◌, get_or, take}
use Rattle.std.proofs.lemmas.Option.{slice_get-get_or}
use Rattle.java_cfg.specs.declared.arc.Arc.{Arc}
use Rattle.control_actions.specs.declared.action.Action.TheVariants.{Skip}
use Rattle.control_actions.specs.declared.action.Edge.TheVariants.{Go}
use Rattle.reached_facts.specs.Points.{flat_from}
use Rattle.reached_facts.proofs.ListPoints.{from_more}
use Rattle.body_faults.specs.Broken.{broken_by}
use Rattle.body_faults.proofs.JoinLaws.{gathers_more}
use Rattle.body_faults.proofs.breaches.gather_row.Goals as goal

-- what a list of arcs gives past its end
abbrev no_arc : Arc
no_arc = record { action = Skip; edge = Go; to = 0; pos = record { file = 0; line = 0; col = 0 } }

pub gather_arc-requires-clause-small : goal.gather_arc-requires-clause-small
gather_arc-requires-clause-small c = c.requires.small c.arcs.i (get_or c.args.row.now c.arcs.i no_arc) (slice_get-get_or c.args.row.now c.arcs.i no_arc c.arcs-test.true)

pub arcs-preserved : goal.arcs-preserved
arcs-preserved c =
    let f = broken_by c.args.p.now c.args.b c.args.origin.now c.args.fact.now c.args.at in
    let x = get_or c.args.row.now c.arcs.i no_arc in
    gathers_more c.args.found.now c.arcs.found c.gather_arc.new.found (flat_from f 0 (take c.arcs.i c.args.row.now)) (f c.arcs.i x) (flat_from f 0 (take (c.arcs.i + 1) c.args.row.now))
    c.arcs.invariant c.in_ok-gather_arc.ensures (from_more f c.arcs.i c.args.row.now x (slice_get-get_or c.args.row.now c.arcs.i no_arc c.arcs-test.true))

-- What one arc more leads to is added.
use Rattle.std.proofs.Common.{◌∙◌, ap, get_or, sym, ◌++◌}
use Rattle.std.proofs.lemmas.Option.{slice_get-get_or}
use Rattle.java_cfg.specs.declared.arc.Arc.{Arc}
use Rattle.control_actions.specs.declared.action.Action.TheVariants.{Skip}
use Rattle.control_actions.specs.declared.action.Edge.TheVariants.{Go}
use Rattle.reached_facts.specs.Points.{bare_points}
use Rattle.reached_facts.proofs.ListPoints.{from_more}
use Rattle.reached_facts.proofs.points.all_bare_points.Goals as goal

-- what a list of arcs gives past its end
abbrev no_arc : Arc
no_arc = record { action = Skip; edge = Go; to = 0; pos = record { file = 0; line = 0; col = 0 } }

pub push_bare-requires-clause-small : goal.push_bare-requires-clause-small
push_bare-requires-clause-small c = c.requires.small c.arcs.i (get_or c.args.row.now c.arcs.i no_arc) (slice_get-get_or c.args.row.now c.arcs.i no_arc c.arcs-test.true)

pub push_bare-requires-clause-few : goal.push_bare-requires-clause-few
push_bare-requires-clause-few c = c.requires.few c.arcs.i (get_or c.args.row.now c.arcs.i no_arc) (slice_get-get_or c.args.row.now c.arcs.i no_arc c.arcs-test.true)

pub arcs-preserved : goal.arcs-preserved
arcs-preserved c =
    let x = get_or c.args.row.now c.arcs.i no_arc in
    c.in_ok-push_bare.ensures ∙ ap (λ ys. ys ++ bare_points c.args.p.now c.args.b c.args.origins.now.keys c.args.at c.arcs.i x) c.arcs.invariant
    ∙ sym (from_more (bare_points c.args.p.now c.args.b c.args.origins.now.keys c.args.at) c.arcs.i c.args.row.now x (slice_get-get_or c.args.row.now c.arcs.i no_arc c.arcs-test.true))

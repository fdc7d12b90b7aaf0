-- The points are what the arcs of the node lead to.
use Rattle.std.proofs.Common.{◌∙◌, ap, List, None, Option, Some, subst, sym}
use Rattle.std.proofs.lemmas.Option.{slice_get_within}
use Rattle.reached_pairs.specs.Searches.{IsAt}
use Rattle.fact_search.specs.Turns.{AreSteps}
use Rattle.fact_search.specs.Walks.{IsWalk}
use Rattle.java_cfg.specs.Contents.{arcs_of}
use Rattle.java_cfg.specs.declared.arc.Arc.{Arc}
use Rattle.control_actions.specs.declared.fact.Fact.{Fact}
use Rattle.reached_pairs.specs.Additions.{points_in}
use Rattle.reached_pairs.specs.declared.visit.Point.{Point}
use Rattle.body_origins.specs.Nodes.{row_in}
use Rattle.reached_facts.specs.Points.{bare_points, fact_points, flat_from}
use Rattle.reached_facts.specs.Steps.{Begins, Leads}
use Rattle.reached_facts.proofs.ListPoints.{if_ok}
use Rattle.reached_facts.proofs.PathLaws.{walk_known}
use Rattle.reached_facts.proofs.PointLaws.{bare_steps, fact_steps}
use Rattle.reached_facts.proofs.transfer.BodyFlowTransitionsFact.step_points.Goals as goal

pub all_bare_points-requires-clause-small : goal.all_bare_points-requires-clause-small
all_bare_points-requires-clause-small c = λ i a here. c.requires.fits.fits.small c.args.node i a (subst (λ (r : List Arc). IsAt r i a) (sym (ap row_in c.arcs-row.ensures)) here)

pub all_bare_points-requires-clause-few : goal.all_bare_points-requires-clause-few
all_bare_points-requires-clause-few c = λ i a here. c.requires.fits.fits.few c.args.node i a (subst (λ (r : List Arc). IsAt r i a) (sym (ap row_in c.arcs-row.ensures)) here)

pub all_fact_points-requires-clause-small : goal.all_fact_points-requires-clause-small
all_fact_points-requires-clause-small c = λ i a here. c.requires.fits.fits.small c.args.node i a (subst (λ (r : List Arc). IsAt r i a) (sym (ap row_in c.arcs-row.ensures)) here)

pub index-origin-requires : goal.index-origin-requires
index-origin-requires c =
    let p = c.args.self.now.program.now in
    let b = c.args.self.now.body in
    let rows = arcs_of c.args.self.now.graph.now in
    let origins = c.args.self.now.origins.now.keys in
    let walk = c.requires.reached in
    let known = walk_known p b rows origins walk.0 c.args.node c.in-Some.fact (subst (λ (o : Option Fact). IsWalk (Begins p b origins) (Leads p b rows origins) walk.0 (c.args.node, o)) c.in-Some.is walk.1) in
    slice_get_within origins c.in-Some.fact.origin known.origin known.at

pub returns-in-None : goal.returns-in-None
returns-in-None c =
    let p = c.args.self.now.program.now in
    let b = c.args.self.now.body in
    let rows = arcs_of c.args.self.now.graph.now in
    let origins = c.args.self.now.origins.now.keys in
    if_ok c.all_bare_points.result _ _
    (λ v is. subst (λ (o : Option Fact). AreSteps (Begins p b origins) (Leads p b rows origins) c.args.at (c.args.node, o) (points_in v.items)) (sym c.in-None.is)
    (subst (λ (xs : List (Point Fact)). AreSteps (Begins p b origins) (Leads p b rows origins) c.args.at (c.args.node, None) (points_in xs)) (ap (flat_from (bare_points p b origins c.args.at) 0) (ap row_in c.arcs-row.ensures) ∙ sym is)
    (bare_steps p b rows origins c.requires.fits.once c.args.at c.args.node))) c.all_bare_points.ensures

pub returns-in-Some : goal.returns-in-Some
returns-in-Some c =
    let p = c.args.self.now.program.now in
    let b = c.args.self.now.body in
    let rows = arcs_of c.args.self.now.graph.now in
    let origins = c.args.self.now.origins.now.keys in
    if_ok c.all_fact_points.result _ _
    (λ v is. subst (λ (o : Option Fact). AreSteps (Begins p b origins) (Leads p b rows origins) c.args.at (c.args.node, o) (points_in v.items)) (sym c.in-Some.is)
    (subst (λ (xs : List (Point Fact)). AreSteps (Begins p b origins) (Leads p b rows origins) c.args.at (c.args.node, Some c.in-Some.fact) (points_in xs))
    (ap (flat_from (fact_points p b c.index-origin.result.now c.in-Some.fact c.args.at) 0) (ap row_in c.arcs-row.ensures) ∙ sym is)
    (fact_steps p b rows origins c.args.at c.args.node c.in-Some.fact c.index-origin.result.now c.index-origin.ensures))) c.all_fact_points.ensures

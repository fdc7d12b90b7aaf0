-- The points are what is known at the entry.
use Rattle.std.proofs.Common.{List, subst, sym}
use Rattle.fact_search.specs.Turns.{AreStarts}
use Rattle.java_cfg.specs.Contents.{arcs_of}
use Rattle.control_actions.specs.declared.fact.Fact.{Fact}
use Rattle.reached_pairs.specs.Additions.{points_in}
use Rattle.reached_pairs.specs.declared.visit.Point.{Point}
use Rattle.reached_facts.specs.Steps.{Begins, Leads}
use Rattle.reached_facts.proofs.ListPoints.{if_ok}
use Rattle.reached_facts.proofs.PointLaws.{entry_starts}
use Rattle.reached_facts.proofs.transfer.BodyFlowTransitionsFact.start_points.Goals as goal

pub returns : goal.returns
returns c =
    let p = c.args.self.now.program.now in
    let b = c.args.self.now.body in
    let rows = arcs_of c.args.self.now.graph.now in
    let origins = c.args.self.now.origins.now.keys in
    if_ok c.all_entry_points.result _ _
    (λ v is. subst (λ (xs : List (Point Fact)). AreStarts (Begins p b origins) (Leads p b rows origins) (points_in xs)) (sym is) (entry_starts p b rows origins c.requires.once)) c.all_entry_points.ensures

-- The faults over the graph are those over controls, and the pairs are those that were walked.
use Rattle.fact_pool.specs.Regions.{list_of}
use Rattle.java_cfg.specs.Contents.{arcs_of, nodes_of}
use Rattle.obligation_flow.specs.Traces.{faults_of}
use Rattle.obligation_flow.proofs.ControlLaws.{faults_over}
use Rattle.obligation_flow.proofs.FewLaws.{no_more}
use Rattle.obligation_flow.proofs.trace.check_into.Goals as goal

pub returns-clause-faults : goal.returns-clause-faults
returns-clause-faults c =
    faults_over c.args.p.now c.args.b (nodes_of c.args.graph.now) (arcs_of c.args.graph.now) c.requires.graph (faults_of c.in_ok-trace_of.field-0) c.in_ok-trace_of.ensures.trace.traced.faults

pub returns-clause-few : goal.returns-clause-few
returns-clause-few c =
    no_more c.args.p.now c.args.b (arcs_of c.args.graph.now) c.in_ok-walk.walk.origins.keys (list_of c.walk_body.new.pool c.args.region.now) c.in_ok-walk.walk.visits.pairs.items
    c.in_ok-walk.ensures.reached c.in_ok-walk.ensures.origins c.in_ok-walk.ensures.searched.held.few

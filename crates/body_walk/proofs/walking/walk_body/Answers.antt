-- The graph is one of nodes, and each origin is listed once.
use Rattle.std.proofs.Common.{sym}
use Rattle.fact_pool.proofs.RegionLemmas.{with_list-own}
use Rattle.java_cfg.specs.Contents.{arcs_of, nodes_of}
use Rattle.graph_relation.proofs.NodeLaws.{graph_nodes}
use Rattle.body_walk.proofs.ReadyLaws.{graph_ready}
use Rattle.body_walk.proofs.walking.walk_body.Goals as goal

pub body_origins-requires-clause-nodes : goal.body_origins-requires-clause-nodes
body_origins-requires-clause-nodes c = graph_nodes c.args.p.now c.args.b (nodes_of c.args.graph.now) (arcs_of c.args.graph.now) c.requires.graph

pub reached_facts-requires-clause-ready : goal.reached_facts-requires-clause-ready
reached_facts-requires-clause-ready c =
    graph_ready c.args.p.now c.args.b (nodes_of c.args.graph.now) (arcs_of c.args.graph.now) c.in_ok-origins.origins.keys c.requires.fits c.requires.graph c.in_ok-origins.ensures.origins c.in_ok-origins.ensures.few

pub returns-clause-ready : goal.returns-clause-ready
returns-clause-ready c =
    graph_ready c.args.p.now c.args.b (nodes_of c.args.graph.now) (arcs_of c.args.graph.now) c.in_ok-origins.origins.keys c.requires.fits c.requires.graph c.in_ok-origins.ensures.origins c.in_ok-origins.ensures.few

pub returns-in_err-origins-clause-others : goal.returns-in_err-origins-clause-others
returns-in_err-origins-clause-others c = sym (with_list-own c.args.pool.now c.args.region.now c.requires.live)

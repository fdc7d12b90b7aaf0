-- The pairs are a certificate, or a line is open.
use Rattle.std.proofs.Common.{subst}
use Rattle.java_cfg.specs.Contents.{arcs_of, nodes_of}
use Rattle.graph_relation.proofs.NodeLaws.{graph_nodes}
use Rattle.flow_certs.specs.Causes.{IsFirstOpenLine}
use Rattle.flow_certs.specs.Forms.{lines_of, pairs_in}
use Rattle.flow_certs.proofs.BodyLaws.{certified, open_stop}
use Rattle.flow_certs.proofs.body.check_over.Goals as goal

pub all_origins-requires-clause-long : goal.all_origins-requires-clause-long
all_origins-requires-clause-long c = c.requires.graph.rows_long

pub open_line-requires-clause-nodes : goal.open_line-requires-clause-nodes
open_line-requires-clause-nodes c = graph_nodes c.args.p.now c.args.b (nodes_of c.args.graph.now) (arcs_of c.args.graph.now) c.requires.graph

pub open_line-requires-clause-long : goal.open_line-requires-clause-long
open_line-requires-clause-long c = c.requires.graph.rows_long

pub returns-in-None-clause-certified : goal.returns-in-None-clause-certified
returns-in-None-clause-certified c =
    let rows = arcs_of c.args.graph.now in
    let pairs = pairs_in c.args.p.now c.args.b c.args.count (lines_of c.args.text.now) in
    certified c.args.p.now c.args.b (nodes_of c.args.graph.now) rows c.requires.graph c.requires.small pairs
    (subst (IsFirstOpenLine c.args.p.now c.args.b rows c.args.line pairs) c.in-None.is c.in_ok-open.ensures)

pub returns-clause-cause : goal.returns-clause-cause
returns-clause-cause c =
    let rows = arcs_of c.args.graph.now in
    let pairs = pairs_in c.args.p.now c.args.b c.args.count (lines_of c.args.text.now) in
    open_stop c.args.p.now c.args.b (nodes_of c.args.graph.now) rows c.requires.graph c.requires.small pairs c.args.file c.args.line c.in-Some.at c.refused.result
    (subst (IsFirstOpenLine c.args.p.now c.args.b rows c.args.line pairs) c.in-Some.is c.in_ok-open.ensures) c.refused.ensures

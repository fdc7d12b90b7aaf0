-- The path to the first breach of the rule is one to the fault.
use Rattle.obligation_paths.proofs.OriginLaws.{item_at}
use Rattle.fact_pool.specs.Regions.{list_of}
use Rattle.java_cfg.specs.Contents.{arcs_of, nodes_of}
use Rattle.obligation_paths.proofs.TellingLaws.{if_ok}
use Rattle.obligation_flow.proofs.TraceLaws.{told_fault, within_faults}
use Rattle.obligation_flow.proofs.trace.Trace.path.Goals as goal

pub breaking_path-requires-clause-first : goal.breaking_path-requires-clause-first
breaking_path-requires-clause-first c =
    let here = item_at c.args.self.now.faults.items c.args.at c.index.result.now (within_faults c.args.self.now c.args.at c.requires.within) c.index.ensures in
    (c.index.result.now.breach, c.requires.trace.traced.first c.args.at c.index.result.now here)

pub returns : goal.returns
returns c =
    let here = item_at c.args.self.now.faults.items c.args.at c.index.result.now (within_faults c.args.self.now c.args.at c.requires.within) c.index.ensures in
    if_ok c.breaking_path.result _ _
    (λ v tells. told_fault c.args.p.now c.args.b (nodes_of c.args.graph.now) (arcs_of c.args.graph.now) (list_of c.args.pool.now c.args.region.now) c.args.self.now c.requires.trace c.requires.graph
    c.args.at c.index.result.now here v.items tells)
    c.breaking_path.ensures

-- The search of a body.
use Rattle.java_cfg.specs.Contents.{arcs_of}
use Rattle.reached_pairs.proofs.Outcomes.{if_err}
use Rattle.reached_facts.proofs.FactLaws.{exact_fact}
use Rattle.reached_facts.proofs.PathLaws.{pairs_cause}
use Rattle.fact_pool.specs.Regions.{list_of}
use Rattle.reached_facts.proofs.ListPoints.{if_ok}
use Rattle.reached_facts.proofs.ReachedLaws.{reached_pairs_of}
use Rattle.reached_facts.proofs.transfer.reached_facts.Goals as goal

pub search-requires-clause-exact : goal.search-requires-clause-exact
search-requires-clause-exact c = exact_fact

pub returns-clause-cause : goal.returns-clause-cause
returns-clause-cause c =
    if_err c.search.result _ _
    (λ stop cause. pairs_cause c.args.flow.now.program.now c.args.flow.now.body (arcs_of c.args.flow.now.graph.now) c.args.flow.now.origins.now.keys c.requires.ready.once c.args.pos stop cause)
    c.search.ensures.cause

pub returns-clause-reached : goal.returns-clause-reached
returns-clause-reached c =
    if_ok c.search.result _ _
    (λ v searched. reached_pairs_of c.args.flow.now.program.now c.args.flow.now.body (arcs_of c.args.flow.now.graph.now) c.args.flow.now.origins.now.keys
    (list_of c.search.new.pool c.args.region.now) v.visits.keys v.pairs.items v.sources.items searched)
    c.search.ensures.searched

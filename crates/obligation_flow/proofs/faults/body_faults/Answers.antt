-- The rules that paths break, in their order, are the faults of the body.
use Rattle.std.proofs.Common.{◌∙◌, List, subst}
use Rattle.std.proofs.lemmas.Option.{slice_get_within}
use Rattle.breadth_first.specs.Searches.{IsAt}
use Rattle.fact_pool.specs.Regions.{list_of}
use Rattle.java_cfg.specs.Contents.{arcs_of}
use Rattle.body_faults.specs.declared.breach.Breach.{Breach}
use Rattle.body_faults.specs.declared.breach.Breached.{Breached}
use Rattle.obligation_flow.proofs.FaultLaws.{ordered_traced}
use Rattle.obligation_flow.proofs.faults.body_faults.Goals as goal

pub all_faults-requires : goal.all_faults-requires
all_faults-requires c = λ i x here. (
    let are = c.in_ok-breaches.ensures in
    let one = are.derived i x (subst (λ (xs : List (Breach × Breached)). IsAt xs i x) c.deref.ensures.value here) in
    slice_get_within c.args.flow.now.origins.now.keys x.0.origin one.0 one.1.0)

pub returns : goal.returns
returns c =
    let rows = arcs_of c.args.flow.now.graph.now in
    let facts = list_of c.args.pool.now c.args.region.now in
    ordered_traced c.args.flow.now.program.now c.args.flow.now.body rows c.args.flow.now.origins.now.keys facts c.args.visits.now.visits.keys
    c.in_ok-breaches.breaches.items c.in_ok-breaches.ensures c.requires.ready.once c.in_ok-faults.faults.items c.sort_traced.new.faults.items
    (c.in_ok-faults.ensures.breaches ∙ c.deref.ensures.value) c.in_ok-faults.ensures.named c.in_ok-sort_traced.ensures.same c.in_ok-sort_traced.ensures.order

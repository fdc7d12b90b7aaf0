-- What one visit leads to is visited.
use Rattle.std.proofs.Common.{List, add-one, subst, sym, ℕ}
use Rattle.reached_pairs.specs.Turns.{AreSteps}
use Rattle.fact_pool.specs.Regions.{list_of}
use Rattle.fact_pool.proofs.RegionLemmas.{with_list-own}
use Rattle.reached_pairs.specs.Additions.{points_in}
use Rattle.reached_pairs.proofs.Outcomes.{if_err, on_ok_both}
use Rattle.fact_search.specs.Searched.{IsSearched}
use Rattle.fact_search.proofs.SearchedLaws.{next_cause, searched_next, visit_reached}
use Rattle.fact_search.proofs.visiting.go_on.Goals as goal

pub step_points-requires-clause-reached : goal.step_points-requires-clause-reached
step_points-requires-clause-reached g c =
    visit_reached (g.T.Transitions.starts c.args.transitions.now) (g.T.Transitions.leads c.args.transitions.now) (list_of c.args.pool.now c.args.region.now) c.args.visits.now.visits.keys c.args.visits.now.pairs.items c.args.visits.now.sources.items
    c.args.at c.requires.searched c.args.at c.visit-visit.result c.fact_of-fact.result c.visit-visit.ensures c.fact_of-fact.ensures

pub returns-in_err-points-clause-others : goal.returns-in_err-points-clause-others
returns-in_err-points-clause-others g c = sym (with_list-own c.args.pool.now c.args.region.now c.requires.live)

pub returns-clause-searched : goal.returns-clause-searched
returns-clause-searched g c =
    let starts = g.T.Transitions.starts c.args.transitions.now in
    let leads = g.T.Transitions.leads c.args.transitions.now in
    on_ok_both c.add_all.result _ _ _
    (λ held extends. subst (λ (n : ℕ). IsSearched starts leads (list_of c.add_all.new.pool c.args.region.now) c.add_all.new.self.visits.keys c.add_all.new.self.pairs.items c.add_all.new.self.sources.items n) (sym (add-one c.args.at))
    (searched_next starts leads (list_of c.args.pool.now c.args.region.now) c.args.visits.now.visits.keys c.args.visits.now.pairs.items c.args.visits.now.sources.items c.args.at c.requires.searched
    c.visit-visit.result c.fact_of-fact.result c.visit-visit.ensures c.fact_of-fact.ensures (points_in c.deref.result.now)
    (subst (λ (xs : List _). AreSteps starts leads c.args.at (c.visit-visit.result.node, c.fact_of-fact.result) (points_in xs)) (sym c.deref.ensures.value) c.in_ok-points.ensures)
    (list_of c.add_all.new.pool c.args.region.now) c.add_all.new.self.visits.keys c.add_all.new.self.pairs.items c.add_all.new.self.sources.items held extends))
    c.add_all.ensures.visits c.add_all.ensures.extends

pub returns-clause-cause : goal.returns-clause-cause
returns-clause-cause g c =
    let starts = g.T.Transitions.starts c.args.transitions.now in
    let leads = g.T.Transitions.leads c.args.transitions.now in
    if_err c.add_all.result _ _
    (λ stop cause. next_cause starts leads (list_of c.args.pool.now c.args.region.now) c.args.visits.now.visits.keys c.args.visits.now.pairs.items c.args.visits.now.sources.items c.args.at c.requires.searched
    c.visit-visit.result c.fact_of-fact.result c.visit-visit.ensures c.fact_of-fact.ensures (points_in c.deref.result.now)
    (subst (λ (xs : List _). AreSteps starts leads c.args.at (c.visit-visit.result.node, c.fact_of-fact.result) (points_in xs)) (sym c.deref.ensures.value) c.in_ok-points.ensures)
    c.args.pos stop cause)
    c.add_all.ensures.cause

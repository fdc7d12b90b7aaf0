-- The starts are visited.
use Rattle.std.proofs.Common.{List, subst, sym}
use Rattle.reached_pairs.specs.Turns.{AreStarts}
use Rattle.fact_pool.specs.Regions.{list_of}
use Rattle.fact_pool.proofs.RegionLemmas.{with_list-own}
use Rattle.reached_pairs.specs.Additions.{points_in}
use Rattle.reached_pairs.proofs.Outcomes.{passed_on}
use Rattle.fact_search.specs.Searched.{IsSearchCause}
use Rattle.fact_search.proofs.SearchedLaws.{first_cause, searched_first}
use Rattle.fact_search.proofs.visiting.begin.Goals as goal

pub returns-in_err-points-clause-others : goal.returns-in_err-points-clause-others
returns-in_err-points-clause-others g c = sym (with_list-own c.args.pool.now c.args.region.now c.requires.live)

pub returns-in_err-add_all-clause-cause : goal.returns-in_err-add_all-clause-cause
returns-in_err-add_all-clause-cause g c =
    let starts = g.T.Transitions.starts c.args.transitions.now in
    let leads = g.T.Transitions.leads c.args.transitions.now in
    passed_on c.from_residual-in_err-add_all.result c.in_err-add_all.field-0.0 (IsSearchCause starts leads c.args.pos) c.from_residual-in_err-add_all.ensures.1
    (first_cause starts leads (list_of c.args.pool.now c.args.region.now) c.new-visits.result.visits.keys (points_in c.deref.result.now) c.args.pos c.in_err-add_all.field-0.0 c.new-visits.ensures.visits
    (subst (λ (xs : List _). AreStarts starts leads (points_in xs)) (sym c.deref.ensures.value) c.in_ok-points.ensures) c.in_err-add_all.ensures.cause)

pub returns-clause-searched : goal.returns-clause-searched
returns-clause-searched g c =
    let starts = g.T.Transitions.starts c.args.transitions.now in
    let leads = g.T.Transitions.leads c.args.transitions.now in
    searched_first starts leads (list_of c.add_all.new.pool c.args.region.now) c.add_all.new.self.visits.keys c.add_all.new.self.pairs.items c.add_all.new.self.sources.items
    (list_of c.args.pool.now c.args.region.now) c.new-visits.result.visits.keys c.new-visits.result.sources.items (points_in c.deref.result.now) c.new-visits.ensures.visits c.new-visits.ensures.sources
    (subst (λ (xs : List _). AreStarts starts leads (points_in xs)) (sym c.deref.ensures.value) c.in_ok-points.ensures) c.in_ok-add_all.ensures.visits c.in_ok-add_all.ensures.extends

-- The search goes on from one visit after another.
use Rattle.std.proofs.Common.{◌∙◌, ap}
use Rattle.fact_pool.specs.Regions.{list_of, with_list}
use Rattle.fact_pool.proofs.RegionLemmas.{with_list-again}
use Rattle.fact_search.proofs.visiting.search.Goals as goal

pub returns-in_err-go_on-clause-others : goal.returns-in_err-go_on-clause-others
returns-in_err-go_on-clause-others g c =
    c.go_on.ensures.others
    ∙ ap (λ p. with_list p c.args.region.now (list_of c.go_on.new.pool c.args.region.now)) c.visits.invariant.others
    ∙ with_list-again c.args.pool.now c.args.region.now (list_of c.visits.pool c.args.region.now) (list_of c.go_on.new.pool c.args.region.now)

pub visits-preserved : goal.visits-preserved
visits-preserved g c = record {
  searched = c.in_ok-go_on.ensures.searched;
  within = c.in_ok-go_on.ensures.searched.within;
  others =
      c.go_on.ensures.others
      ∙ ap (λ p. with_list p c.args.region.now (list_of c.go_on.new.pool c.args.region.now)) c.visits.invariant.others
      ∙ with_list-again c.args.pool.now c.args.region.now (list_of c.visits.pool c.args.region.now) (list_of c.go_on.new.pool c.args.region.now);
  live = c.go_on.ensures.live;
}

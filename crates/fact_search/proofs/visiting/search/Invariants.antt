use Rattle.std.proofs.Common.{◌≡◌, ◌≤◌, ◌-◌, ◌^◌, length}
use Rattle.fact_pool.specs.Regions.{IsLive, list_of, with_list}
use Rattle.fact_search.specs.Searched.{IsSearched}
use Rattle.fact_search.proofs.visiting.search.Given as goal

abbrev pub invariant-visits : goal.invariant-visits
invariant-visits g l = record {
  searched : IsSearched (g.T.Transitions.starts l.fn.transitions) (g.T.Transitions.leads l.fn.transitions) (list_of l.pool l.region) l.visits.visits.keys l.visits.pairs.items l.visits.sources.items l.done;
  within : l.done ≤ length l.visits.visits.keys;
  others : l.pool ≡ with_list l.fn.pool l.region (list_of l.pool l.region);
  live : IsLive l.pool l.region;
}

abbrev pub decreases-visits : goal.decreases-visits
decreases-visits g l = 2 ^ 63 - l.done

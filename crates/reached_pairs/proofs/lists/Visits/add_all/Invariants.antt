use Rattle.std.proofs.Common.{◌≡◌, take}
use Rattle.breadth_first.specs.Searches.{Extends}
use Rattle.fact_pool.specs.Regions.{IsLive, list_of, with_list}
use Rattle.reached_pairs.specs.Additions.{points_in}
use Rattle.reached_pairs.specs.Visited.{AreVisits, found_in, sources_in}
use Rattle.reached_pairs.proofs.lists.Visits.add_all.Given as goal

abbrev pub invariant-loop-point : goal.invariant-loop-point
invariant-loop-point g l = record {
  visits : AreVisits (list_of l.pool l.region) l.self.visits.keys l.self.pairs.items;
  extends : Extends (found_in (list_of l.fn.pool l.region) l.fn.self.visits.keys) (sources_in l.fn.self.sources.items) (points_in (take l.point-index l.points)) (found_in (list_of l.pool l.region) l.self.visits.keys) (sources_in l.self.sources.items);
  others : l.pool ≡ with_list l.fn.pool l.region (list_of l.pool l.region);
  live : IsLive l.pool l.region;
}

use Rattle.std.proofs.Common.{◌<◌, length}
use Rattle.reached_pairs.specs.Trails.{IsBack}
use Rattle.reached_pairs.proofs.lists.Visits.steps_back.Given as goal

abbrev pub invariant-back : goal.invariant-back
invariant-back l = record {
  back : IsBack l.self.sources.items l.back.items l.at l.place;
  within : l.place < length l.self.sources.items;
}

abbrev pub decreases-back : goal.decreases-back
decreases-back l = l.place

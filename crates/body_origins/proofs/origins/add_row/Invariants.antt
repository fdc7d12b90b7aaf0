use Rattle.std.proofs.Common.{◌≡◌, take}
use Rattle.std.specs.List.{flat_map}
use Rattle.indexmap.specs.IndexSet.{insert_all}
use Rattle.body_origins.specs.Origins.{arc_births, origins_in, same_origin}
use Rattle.body_origins.proofs.origins.add_row.Given as goal

abbrev pub invariant-each : goal.invariant-each
invariant-each l = l.origins.keys ≡ insert_all same_origin l.fn.origins.keys (origins_in (flat_map (arc_births l.p l.b) (take l.arc-index l.row)))

use Rattle.std.proofs.Common.{◌≡◌, take}
use Rattle.indexmap.specs.IndexSet.{insert_all}
use Rattle.body_origins.specs.Origins.{origins_in, same_origin}
use Rattle.body_origins.proofs.origins.add_origins.Given as goal

abbrev pub invariant-each : goal.invariant-each
invariant-each l = l.origins.keys ≡ insert_all same_origin l.fn.origins.keys (origins_in (take l.birth-index l.births))

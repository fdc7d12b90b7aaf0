use Rattle.std.proofs.Common.{◌≡◌, [], ◌++◌, take}
use Rattle.std.specs.List.{flat_map}
use Rattle.indexmap.specs.IndexSet.{insert_all}
use Rattle.java_cfg.specs.Contents.{arcs_of}
use Rattle.flow_rules.specs.Births.{births_at_entry}
use Rattle.body_origins.specs.Origins.{origins_in, row_births, same_origin}
use Rattle.body_origins.proofs.origins.all_origins.Given as goal

abbrev pub invariant-each : goal.invariant-each
invariant-each l = l.origins.keys ≡ insert_all same_origin [] (origins_in (births_at_entry l.p l.b ++ flat_map (row_births l.p l.b) (take l.node (arcs_of l.graph))))

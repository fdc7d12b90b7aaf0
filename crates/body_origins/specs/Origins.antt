-- The origins of a body, in the order of their births.
use Rattle.std.specs.Prelude.{◌≡◌, ◌<◌, ◌++◌, ℕ, Bool, List, [], map, length}
use Rattle.std.specs.List.{flat_map}
use Rattle.indexmap.specs.IndexSet.{insert_all}
use Rattle.program_model.specs.declared.kinds.BodyId.{BodyId}
use Rattle.program_model.specs.declared.program.Program.{Program}
use Rattle.reached_pairs.specs.Searches.{IsAt}
use Rattle.control_actions.specs.declared.fact.Fact.{Fact}
use Rattle.control_actions.specs.declared.fact.Origin.{Origin}
use Rattle.control_actions.specs.contracts.fact.OriginPartialEq.TheImpl as origin_eq
use Rattle.java_cfg.specs.declared.arc.Arc.{Arc}
use Rattle.flow_rules.specs.Births.{Birth, births_at_entry, births_of_step}
use Rattle.flow_rules.specs.Paths.{Reach}
use Rattle.body_origins.specs.Nodes.{relation_in}
use Rattle.body_origins.specs.Pairs.{most_pairs}

abbrev pub same_origin : Origin → Origin → Bool
same_origin = (origin_eq.ghosts).eq

abbrev pub origins_in : List Birth → List Origin
origins_in births = map (λ (x : Birth). x.0) births

abbrev pub arc_births : Program → BodyId → Arc → List Birth
arc_births p b a = births_of_step p b a.action a.edge a.pos

abbrev pub row_births : Program → BodyId → List Arc → List Birth
row_births p b row = flat_map (arc_births p b) row

-- the births of a body: at its entry, and then by node and arc
abbrev pub births_in : Program → BodyId → List (List Arc) → List Birth
births_in p b rows = births_at_entry p b ++ flat_map (row_births p b) rows

-- the origins, each once, at the place of its first birth
abbrev pub origins_of : Program → BodyId → List (List Arc) → List Origin
origins_of p b rows = insert_all same_origin [] (origins_in (births_in p b rows))

-- a path reaches some node with a fact of the origin
abbrev pub IsBorn : Program → BodyId → List (List Arc) → Origin → Type 0
IsBorn p b rows o = (k : ℕ) × ((f : Fact) × Reach p b (relation_in rows) o k f)

-- a fact of each origin of the list is reached
abbrev pub AreBorn : Program → BodyId → List (List Arc) → List Origin → Type 0
AreBorn p b rows os = (n : ℕ) (o : Origin) → IsAt os n o → IsBorn p b rows o

-- among some first part of the values there are more than a million that differ from each other
abbrev pub HasManyOrigins : List Origin → Type 0
HasManyOrigins all = (first rest : List Origin) × ((all ≡ first ++ rest) × (most_pairs < length (insert_all same_origin [] first)))

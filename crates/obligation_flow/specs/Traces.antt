-- What is known of a body once its facts were followed: its origins, what paths reach, and its faults.
use Rattle.std.specs.Prelude.{ℕ, List, map, length}
use Rattle.program_model.specs.declared.kinds.BodyId.{BodyId}
use Rattle.program_model.specs.declared.program.Program.{Program}
use Rattle.breadth_first.specs.Searches.{IsAt}
use Rattle.fact_pool.specs.declared.handle.Handle.{Handle}
use Rattle.reached_facts.specs.Searched.{IsSearched}
use Rattle.java_cfg.specs.declared.arc.Arc.{Arc}
use Rattle.control_actions.specs.Remaining.{Todo}
use Rattle.control_actions.specs.declared.fact.Fact.{Fact}
use Rattle.control_actions.specs.declared.fact.Origin.{Origin}
use Rattle.reached_pairs.specs.declared.visit.Visit.{Visit}
use Rattle.obligation_paths.specs.Nodes.{relation_in}
use Rattle.reached_facts.specs.Steps.{Begins, IsReady, Leads}
use Rattle.body_faults.specs.Breaches.{IsFirstBreach}
use Rattle.fault_order.specs.declared.fault.FaultAt.{FaultAt}
use Rattle.obligation_flow.specs.Faults.{AreFaultsOf, AreNamed, breach_of, fault_of}
use Rattle.obligation_flow.specs.declared.faults.TracedFault.{TracedFault}
use Rattle.obligation_flow.specs.declared.trace.Trace.{Trace}

-- the faults of a trace, in their order
abbrev pub faults_of : Trace → List FaultAt
faults_of t = map fault_of t.faults.items

-- the pairs of a node and a handle of a fact, in the order in which the search came to them
abbrev pub pairs_of : Trace → List (ℕ × Handle)
pairs_of t = t.walk.visits.pairs.items

abbrev pub origins_in : Trace → List Origin
origins_in t = t.walk.origins.keys

-- the faults of a body over the rows of its graph, each with the first visit from which a step breaks its rule
pub record AreTracedFaults (p : Program) (b : BodyId) (rows : List (List Arc)) (origins : List Origin) (facts : List Fact) (visits : List Visit) (found : List TracedFault) : Type 0 where
  pub faults : AreFaultsOf p b (relation_in rows) (map fault_of found)
  pub named : AreNamed origins found
  pub first : (i : ℕ) (t : TracedFault) → IsAt found i t → IsFirstBreach p b rows origins facts visits (breach_of t)

-- the trace is that of the body with this graph, where the list of the region has these facts
pub record IsTraceOf (p : Program) (b : BodyId) (nodes : List (List Todo)) (rows : List (List Arc)) (facts : List Fact) (t : Trace) : Type 0 where
  pub ready : IsReady p b nodes rows t.walk.origins.keys
  pub searched : IsSearched (Begins p b t.walk.origins.keys) (Leads p b rows t.walk.origins.keys) facts t.walk.visits.visits.keys t.walk.visits.pairs.items t.walk.visits.sources.items
      (length t.walk.visits.visits.keys)
  pub traced : AreTracedFaults p b rows t.walk.origins.keys facts t.walk.visits.visits.keys t.faults.items

-- What paths over the nodes of a graph reach is what paths of controls reach.
use Rattle.std.proofs.Common.{◌∙◌, ap, ℕ, List}
use Rattle.std.specs.Prelude.{slice_get}
use Rattle.program_model.specs.declared.kinds.BodyId.{BodyId}
use Rattle.program_model.specs.declared.program.Program.{Program}
use Rattle.fact_pool.specs.declared.handle.Handle.{Handle}
use Rattle.java_cfg.specs.Graphs.{IsGraphOf}
use Rattle.java_cfg.specs.declared.arc.Arc.{Arc}
use Rattle.control_actions.specs.Remaining.{Todo}
use Rattle.control_actions.specs.declared.fact.Fact.{Fact}
use Rattle.control_actions.specs.declared.fact.Origin.{Origin}
use Rattle.graph_relation.specs.Nodes.{relation_in}
use Rattle.graph_relation.proofs.FaultLaws.{control_reach, node_reach}
use Rattle.reached_facts.specs.Reading.{AreReachedPairs}
use Rattle.reached_controls.specs.Reached.{AreReachedControls}

-- the pairs of nodes and facts are those of controls and facts
pub reached_controls : (p : Program) (b : BodyId) (nodes : List (List Todo)) (rows : List (List Arc)) → IsGraphOf p b nodes rows → (origins : List Origin) (facts : List Fact) (pairs : List (ℕ × Handle))
    → AreReachedPairs p b (relation_in rows) origins facts pairs → AreReachedControls p b nodes origins facts pairs
reached_controls p b nodes rows graph origins facts pairs h = record {
  once = h.once;
  only = λ i x here. (
      let one = h.only i x here in
      let known = one.1.1 in
      let there = node_reach p b nodes rows graph known.0 x.0 known.1.0 known.1.1.1.0 in
      (there.0, (one.0, (there.1.0, (one.1.0, (known.0, (known.1.0, (known.1.1.0, (there.1.1, known.1.1.1.1)))))))));
  all = λ control g known. (
      let node = control_reach p b nodes rows graph known.0 control known.1.0 known.1.1.1.0 in
      let one = h.all node.0 g (known.0, (known.1.0, (known.1.1.0, (node.1.1, known.1.1.1.1)))) in
      (one.0, (one.1.0, (ap (λ (k : ℕ). slice_get nodes k) one.1.1.0 ∙ node.1.0, one.1.1.1))));
  facts_once = h.facts_once;
  facts_used = h.facts_used;
}

-- The faults over the rows of the graph of a body are those over its controls.
use Rattle.std.proofs.Common.{List}
use Rattle.program_model.specs.declared.kinds.BodyId.{BodyId}
use Rattle.program_model.specs.declared.program.Program.{Program}
use Rattle.control_actions.specs.Remaining.{Todo}
use Rattle.java_cfg.specs.Graphs.{IsGraphOf}
use Rattle.java_cfg.specs.declared.arc.Arc.{Arc}
use Rattle.flow_rules.specs.Paths.{relation_of}
use Rattle.obligation_paths.specs.Nodes.{relation_in}
use Rattle.body_walk.proofs.FaultLaws.{control_faulty, node_faulty}
use Rattle.fault_order.specs.declared.fault.FaultAt.{FaultAt}
use Rattle.obligation_flow.specs.Faults.{AreFaultsOf}

pub faults_over : (p : Program) (b : BodyId) (nodes : List (List Todo)) (rows : List (List Arc)) → IsGraphOf p b nodes rows → (faults : List FaultAt)
    → AreFaultsOf p b (relation_in rows) faults → AreFaultsOf p b (relation_of p b) faults
faults_over p b nodes rows g faults h = record {
  derived = λ i x here. (let one = h.derived i x here in (one.0, node_faulty p b nodes rows g x.origin x.rule x.at one.0 one.1));
  missing = λ i n x here. (
    (λ there.
        let one = (h.missing i n x here).0 there in
        (one.0, (node_faulty p b nodes rows g x.origin x.rule x.at one.0 one.1.0, one.1.1))),
    (λ one. (h.missing i n x here).1 (one.0, (control_faulty p b nodes rows g x.origin x.rule x.at one.0 one.1.0, one.1.1))),
  );
  all = λ o rule at names faulty. h.all o rule at names (control_faulty p b nodes rows g o rule at names faulty);
  once = h.once;
  sorted = h.sorted;
}

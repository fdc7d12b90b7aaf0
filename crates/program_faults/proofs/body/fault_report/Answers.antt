-- The path that is told is shown.
use Rattle.java_cfg.specs.Contents.{nodes_of}
use Rattle.obligation_flow.specs.Traces.{faults_of}
use Rattle.program_faults.proofs.PrintLaws.{told_report}
use Rattle.program_faults.proofs.body.fault_report.Goals as goal

pub returns : goal.returns
returns c x here = told_report c.args.p.now c.args.b (nodes_of c.args.graph.now) (faults_of c.args.trace.now) c.args.at c.fault-fault.result x c.in_ok-path.path c.fault-fault.ensures here (c.in_ok-path.ensures x here)

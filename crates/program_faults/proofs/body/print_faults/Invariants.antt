use Rattle.std.proofs.Common.{take}
use Rattle.obligation_flow.specs.Traces.{faults_of}
use Rattle.program_faults.specs.BodyReports.{PrintReports}
use Rattle.program_faults.proofs.body.print_faults.Given as goal

abbrev pub invariant-faults : goal.invariant-faults
invariant-faults l = PrintReports l.p l.files l.b (take l.at (faults_of l.trace)) l.initial.into l.into

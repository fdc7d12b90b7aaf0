use Rattle.program_faults.specs.ProgramReports.{IsReportTextOf}
use Rattle.program_faults.proofs.program.check_bodies.Given as goal

abbrev pub invariant-bodies : goal.invariant-bodies
invariant-bodies l = IsReportTextOf l.p l.files l.number l.count l.text

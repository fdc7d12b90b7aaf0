-- What the reports of all bodies say of the program.
use Rattle.program_faults.specs.ProgramReports.{IsFaultCount, IsFaulty, IsReportText}
use Rattle.std.specs.Prelude.{◌≡◌, ◌<◌}
use Rattle.program_faults.proofs.CountLaws.{accepted, if_ok, leaks, report_count}
use Rattle.program_faults.proofs.program.check_program.Goals as goal

pub returns-clause-count : goal.returns-clause-count
returns-clause-count c =
    if_ok c.check_bodies.result (λ x. IsReportText c.args.program c.args.files.now x.count x.text) (λ x. IsFaultCount c.args.program x.count)
    (λ x h. report_count c.args.program c.args.files.now x.count x.text h) c.check_bodies.ensures.reports

pub returns-clause-accepted : goal.returns-clause-accepted
returns-clause-accepted c =
    if_ok c.check_bodies.result (λ x. IsReportText c.args.program c.args.files.now x.count x.text) (λ x. x.count ≡ 0 → IsFaulty c.args.program → ⊥)
    (λ x h. accepted c.args.program x.count (report_count c.args.program c.args.files.now x.count x.text h)) c.check_bodies.ensures.reports

pub returns-clause-leaks : goal.returns-clause-leaks
returns-clause-leaks c =
    if_ok c.check_bodies.result (λ x. IsReportText c.args.program c.args.files.now x.count x.text) (λ x. 0 < x.count → IsFaulty c.args.program)
    (λ x h. leaks c.args.program x.count (report_count c.args.program c.args.files.now x.count x.text h)) c.check_bodies.ensures.reports

use Rattle.std.proofs.Common.{◌≡◌, arith, refl, subst}
use Rattle.acceptance_laws.proofs.AcceptedFiles.{counted_accepted}
use Rattle.command_programs.specs.Programs.{input_of}
use Rattle.program_faults.specs.ProgramReports.{IsFaultCount}
use Rattle.check_command.specs.Checks.{accepted, leaking}
use Rattle.check_command.proofs.checks.answer_to.Goals as goal

pub returns : goal.returns
returns c = λ files p faults. leaking p c.args.faults.count faults.program (faults.some (omega (arith, c.if-faults-eq0.false))) refl faults.counted faults.reported

pub returns-then-faults-eq0 : goal.returns-then-faults-eq0
returns-then-faults-eq0 c = λ files p faults.
    let none : c.args.faults.count ≡ 0 = omega (arith, c.if-faults-eq0.true) in
    let counted : IsFaultCount p 0 = subst (IsFaultCount p) none faults.counted in
    accepted p faults.program (counted_accepted (input_of faults.program.settings files) p faults.program.program counted (faults.none none)) counted refl c.new.ensures

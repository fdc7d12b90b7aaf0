-- The answers where a body passes a limit, and where a text is no certificate.
use Rattle.std.proofs.Common.{◌≡◌, subst, ℕ, List}
use Rattle.rlc_base.specs.declared.faults.Stop.{Stop}
use Rattle.command_inputs.proofs.HaltLaws.{halts_too}
use Rattle.command_inputs.specs.Halts.{HaltsBy}
use Rattle.command_inputs.specs.Inputs.{FileText, FileTexts}
use Rattle.command_inputs.specs.declared.halts.Halt.{Halt}
use Rattle.command_programs.specs.Inputs.{file_names}
use Rattle.command_programs.specs.Programs.{IsProgramOf}
use Rattle.command_programs.specs.Refusals.{IsStopAnswer}
use Rattle.program_faults.specs.ProgramReports.{IsFaultStop}
use Rattle.program_model.specs.declared.program.Program.{Program}
use Rattle.certificates.specs.Causes.{IsCertificateStop}
use Rattle.check_command.specs.Certificates.{IsVerifying, by_certificate, certificate_number, names_beside}
use Rattle.check_command.specs.Checks.{IsLimitAnswer}

pub stopped_by_limit : (files : FileTexts) (p : Program) (names : List (List ℕ)) (stop : Stop) (halt : Halt) → names ≡ file_names files.names → IsProgramOf files p → IsFaultStop p stop
    → HaltsBy halt (IsStopAnswer names stop) → HaltsBy halt (IsLimitAnswer files p)
stopped_by_limit files p names stop halt same program cause line =
    halts_too halt _ _ (λ answer is. record { program = program; stop = stop; cause = cause; line = subst (λ (n : List (List ℕ)). IsStopAnswer n stop answer) same is }) line

pub stopped_by_certificate : (files : FileTexts) (certificate : FileText) (p : Program) (number : ℕ) (names : List (List ℕ)) (stop : Stop) (halt : Halt) → number ≡ certificate_number files
    → names ≡ names_beside files certificate.name → IsProgramOf files p → IsCertificateStop p number certificate.text stop → HaltsBy halt (IsStopAnswer names stop)
    → HaltsBy halt (IsVerifying files certificate)
stopped_by_certificate files certificate p number names stop halt counted same program cause line =
    halts_too halt _ _
    (λ answer is. by_certificate p (record {
      program = program;
      stop = stop;
      cause = subst (λ (n : ℕ). IsCertificateStop p n certificate.text stop) counted cause;
      line = subst (λ (n : List (List ℕ)). IsStopAnswer n stop answer) same is;
    }))
    line

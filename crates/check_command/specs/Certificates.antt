-- The answers of `certify` and of `verify`.
use Rattle.std.specs.Prelude.{◌≡◌, ◌++◌, ℕ, Option, List, [], ◌∷◌, length, slice_get, unwrap_or}
use Rattle.outside.specs.Files.{Contents}
use Rattle.rlc_base.specs.declared.code.Code.TheVariants as refused
use Rattle.rlc_base.specs.declared.faults.Stop.{Stop}
use Rattle.source_files.specs.Reading.{Counts, CountsNoFault}
use Rattle.command_answers.specs.Texts.{placeless_text}
use Rattle.command_answers.specs.declared.answers.Answer.{Answer}
use Rattle.command_answers.specs.declared.answers.Outcome.TheVariants as outcomes
use Rattle.command_inputs.specs.Inputs.{AreFileTexts, FileNames, FileText, FileTexts, IsUnread}
use Rattle.command_inputs.specs.Limited.{IsLimitedText, IsUnreadBeside, LimitedName}
use Rattle.command_programs.specs.Programs.{IsProgramAnswer, IsProgramOf, IsSettings}
use Rattle.command_programs.specs.Refusals.{IsSettingsAnswer, IsStopAnswer}
use Rattle.command_programs.specs.Inputs.{file_names}
use Rattle.java_syntax.specs.declared.settings.Settings.{Settings}
use Rattle.program_model.specs.declared.program.Program.{Program}
use Rattle.acceptance_laws.specs.Accept.{Accept}
use Rattle.program_faults.specs.ProgramReports.{IsFaultCount, IsFaulty, IsReportText}
use Rattle.certificates.specs.Causes.{IsCertificateStop}
use Rattle.certificates.specs.Certificates.{IsCertificate}
use Rattle.certificates.specs.Certified.{IsShortCertificate, max_certificate}
use Rattle.check_command.specs.Checks.{IsUnchecked}

-- ---- certify

abbrev pub first_name : List (List ℕ) → List ℕ
first_name names = unwrap_or (slice_get names 0) []

-- Why this is the answer of `certify` for these texts. It is that of `check`, but where the program is accepted: then the text is a
-- certificate, or the first file is named, since a certificate would be too long.
pub data IsCertifying (files : FileTexts) (answer : Answer) : Type 0 where
  unchecked : IsUnchecked files answer → IsCertifying files answer
  written : (p : Program) → IsProgramOf files p → Accept p → IsFaultCount p 0 → answer.outcome ≡ outcomes.Accepted → IsShortCertificate p answer.text → IsCertifying files answer
  too_long : (p : Program) → IsProgramOf files p → Accept p → IsFaultCount p 0 → answer.outcome ≡ outcomes.Limit → answer.text ≡ placeless_text (first_name files.names) refused.CertTooBig
      → IsCertifying files answer
  leaking : (p : Program) (count : ℕ) → IsProgramOf files p → IsFaulty p → answer.outcome ≡ outcomes.Leaks → IsFaultCount p count
      → IsReportText p (file_names files.names) count answer.text → IsCertifying files answer

-- why this is the answer of `certify` for the files of these names
pub data IsCertifyAnswer (told : Option Contents) (names : FileNames) (c : Counts) (answer : Answer) : Type 0 where
  unread : IsUnread told names c answer → IsCertifyAnswer told names c answer
  read : (files : FileTexts) → AreFileTexts told names files → CountsNoFault c → IsCertifying files answer → IsCertifyAnswer told names c answer

-- ---- verify

-- the file of a certificate
abbrev pub certificate_file : List ℕ → LimitedName
certificate_file name = record { name = name; most = max_certificate; code = refused.CertTooBig }

-- the number by which a refusal of the certificate names it, and the names of all files by their numbers
abbrev pub certificate_number : FileTexts → ℕ
certificate_number files = length (file_names files.names)

abbrev pub names_beside : FileTexts → List ℕ → List (List ℕ)
names_beside files certificate = file_names files.names ++ certificate ∷ []

-- the text is no certificate of the program, or a body passes a limit, and this is the answer
pub record IsCertificateAnswer (files : FileTexts) (certificate : FileText) (p : Program) (answer : Answer) : Type 0 where
  pub program : IsProgramOf files p
  pub stop : Stop
  pub cause : IsCertificateStop p (certificate_number files) certificate.text stop
  pub line : IsStopAnswer (names_beside files certificate.name) stop answer

-- Why this is the answer of `verify` for these texts: the settings are refused, or the program; or the certificate is none of the program,
-- or a body passes a limit; or it is one, and the program is accepted.
pub data IsVerifying (files : FileTexts) (certificate : FileText) (answer : Answer) : Type 0 where
  by_settings : IsSettingsAnswer files.settings answer → IsVerifying files certificate answer
  by_program : (s : Settings) → IsSettings files.settings s → IsProgramAnswer s files answer → IsVerifying files certificate answer
  by_certificate : (p : Program) → IsCertificateAnswer files certificate p answer → IsVerifying files certificate answer
  verified : (p : Program) → IsProgramOf files p → IsCertificate p certificate.text → Accept p → answer.outcome ≡ outcomes.Accepted → answer.text ≡ []
      → IsVerifying files certificate answer

-- why this is the answer of `verify` for the certificate and the files of these names
pub data IsVerifyAnswer (certificate : List ℕ) (told : Option Contents) (names : FileNames) (c : Counts) (answer : Answer) : Type 0 where
  unread : IsUnreadBeside told names (certificate_file certificate) c answer → IsVerifyAnswer certificate told names c answer
  read : (files : FileTexts) (text : List ℕ) → AreFileTexts told names files → IsLimitedText told (certificate_file certificate) text → CountsNoFault c
      → IsVerifying files (record { name = certificate; text = text }) answer → IsVerifyAnswer certificate told names c answer

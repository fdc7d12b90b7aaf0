-- What it says of a program that `check` accepts it, that `verify` accepts its certificate, that it has leaks, and that a run of it leaks.
use Rattle.std.specs.Prelude.{ℕ, Option, Some, None, List}
use Rattle.outside.specs.Files.{Contents}
use Rattle.command_words.specs.Requests.{Request, certify, check, generate, run, settings, verify}
use Rattle.command_answers.specs.declared.statuses.Status.{Status}
use Rattle.command_answers.specs.declared.statuses.Status.TheVariants as statuses
use Rattle.command_inputs.specs.Inputs.{AreFileTexts, FileNames, FileTexts}
use Rattle.command_inputs.specs.Limited.{IsLimitedText}
use Rattle.check_command.specs.Certificates.{certificate_file}
use Rattle.check_command.specs.ProgramCertificates.{IsCertificate}
use Rattle.check_command.specs.Programs.{IsProgramOf}
use Rattle.program_model.specs.declared.program.Program.{Program}
use Rattle.soundness_laws.specs.Accept.{Accept}
use Rattle.check_command.specs.ProgramReports.{IsFaultCount, IsFaulty}
use Rattle.soundness_laws.specs.Safety.{IsSafe}
use Rattle.rlc_cli.specs.Answers.{check_names, run_names}

-- the files of these names make a program that is accepted: it is well formed, no body of it passes a limit, and no path in a body
-- breaks a rule. So it is safe in every run
pub record IsAcceptedCheck (told : Option Contents) (names : FileNames) : Type 0 where
  pub files : FileTexts
  pub texts : AreFileTexts told names files
  pub program : Program
  pub is_program : IsProgramOf files program
  pub accepted : Accept program
  pub counted : IsFaultCount program 0
  pub safe : IsSafe program

-- The file of this name has a certificate of the program that the files of these names make, whoever made it: so the program is accepted,
-- and safe in every run.
pub record IsVerifiedCheck (told : Option Contents) (names : FileNames) (certificate : List ℕ) : Type 0 where
  pub files : FileTexts
  pub texts : AreFileTexts told names files
  pub program : Program
  pub is_program : IsProgramOf files program
  pub text : List ℕ
  pub limited : IsLimitedText told (certificate_file certificate) text
  pub is_certificate : IsCertificate program text
  pub accepted : Accept program
  pub safe : IsSafe program

-- the files of these names make a program, which is well formed, and in which the flow rules derive a fault
pub record IsLeakingCheck (told : Option Contents) (names : FileNames) : Type 0 where
  pub files : FileTexts
  pub texts : AreFileTexts told names files
  pub program : Program
  pub is_program : IsProgramOf files program
  pub fault : IsFaulty program

-- The files of these names make a program with a run that leaks: it is not safe, and so it is not accepted.
pub record IsLeakingRun (told : Option Contents) (names : FileNames) : Type 0 where
  pub files : FileTexts
  pub texts : AreFileTexts told names files
  pub program : Program
  pub is_program : IsProgramOf files program
  pub unsafe : IsSafe program → ⊥
  pub unaccepted : Accept program → ⊥

abbrev pub IsAcceptedRequest : Option Contents → Option Request → Type 0
IsAcceptedRequest told None = Unit {0}
IsAcceptedRequest told (Some (check input)) = IsAcceptedCheck told (check_names input)
IsAcceptedRequest told (Some (run main choices steps input)) = Unit {0}
IsAcceptedRequest told (Some (generate seed methods)) = Unit {0}
IsAcceptedRequest told (Some (settings file)) = Unit {0}
IsAcceptedRequest told (Some (certify input)) = IsAcceptedCheck told (check_names input)
IsAcceptedRequest told (Some (verify certificate input)) = IsVerifiedCheck told (check_names input) certificate

abbrev pub IsLeakingRequest : Option Contents → Option Request → Type 0
IsLeakingRequest told None = Unit {0}
IsLeakingRequest told (Some (check input)) = IsLeakingCheck told (check_names input)
IsLeakingRequest told (Some (run main choices steps input)) = IsLeakingRun told (run_names choices input)
IsLeakingRequest told (Some (generate seed methods)) = Unit {0}
IsLeakingRequest told (Some (settings file)) = Unit {0}
IsLeakingRequest told (Some (certify input)) = IsLeakingCheck told (check_names input)
IsLeakingRequest told (Some (verify certificate input)) = ⊥

-- What the statuses 0 and 1 of `check` and `certify` say, the status 0 of `verify`, which never has the status 1, and the status 1 of `run`. No
-- other status comes with either.
abbrev pub IsHeadline : Option Contents → Option Request → Status → Type 0
IsHeadline told request statuses.Accepted = IsAcceptedRequest told request
IsHeadline told request statuses.Leaks = IsLeakingRequest told request
IsHeadline told request status = Unit {0}

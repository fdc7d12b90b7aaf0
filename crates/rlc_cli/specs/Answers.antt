-- Why the command answers as it does, and what it writes.
use Rattle.std.specs.Prelude.{◌≡◌, ℕ, Option, Some, None, List}
use Rattle.outside.specs.Files.{Contents}
use Rattle.source_files.specs.Reading.{Counts, CountsNoFault, HasAll, HasNamed}
use Rattle.command_words.specs.Requests.{InputNames, Request, certify, check, generate, run, settings, verify}
use Rattle.command_words.specs.Usage.{usage_text}
use Rattle.command_answers.specs.Sending.{IsSent}
use Rattle.command_answers.specs.declared.answers.Answer.{Answer}
use Rattle.command_answers.specs.declared.answers.Outcome.TheVariants as outcomes
use Rattle.command_answers.specs.declared.statuses.Status.{Status}
use Rattle.command_answers.specs.declared.statuses.Status.TheVariants as statuses
use Rattle.command_inputs.specs.Inputs.{FileNames, list_of}
use Rattle.command_inputs.specs.Limited.{HasAllBeside}
use Rattle.check_command.specs.Certificates.{IsCertifyAnswer, IsVerifyAnswer}
use Rattle.check_command.specs.Checks.{IsCheckAnswer}
use Rattle.check_command.specs.Generated.{IsGeneratedAnswer}
use Rattle.run_inputs.specs.Runs.{IsRunAnswer}
use Rattle.side_commands.specs.Migration.{IsSettingsAnswer}

-- ---- the answer

-- the words are none that the command takes
pub record IsUsage (answer : Answer) : Type 0 where
  pub outcome_is : answer.outcome ≡ outcomes.Usage
  pub text_is : answer.text ≡ usage_text

-- the files of a check or a certificate, and of a run
abbrev pub check_names : InputNames → FileNames
check_names input = record { settings = input.settings; choices = None; files = input.files }

abbrev pub run_names : Option (List ℕ) → InputNames → FileNames
run_names choices input = record { settings = input.settings; choices = choices; files = input.files }

-- Why this is the answer to a request, over files that tell this and counted so many faults.
abbrev pub IsRequestAnswer : Option Contents → Counts → Request → Answer → Type 0
IsRequestAnswer told c (check input) answer = IsCheckAnswer told (check_names input) c answer
IsRequestAnswer told c (run main choices steps input) answer = IsRunAnswer (record { class = main; steps = steps }) told (run_names choices input) c answer
IsRequestAnswer told c (generate seed methods) answer = IsGeneratedAnswer seed methods answer × CountsNoFault c
IsRequestAnswer told c (settings file) answer = IsSettingsAnswer told file c answer
IsRequestAnswer told c (certify input) answer = IsCertifyAnswer told (check_names input) c answer
IsRequestAnswer told c (verify certificate input) answer = IsVerifyAnswer certificate told (check_names input) c answer

-- why this is the answer to words that ask for this, or for nothing that the command does
abbrev pub IsAnswer : Option Contents → Counts → Option Request → Answer → Type 0
IsAnswer told c None answer = IsUsage answer × CountsNoFault c
IsAnswer told c (Some request) answer = IsRequestAnswer told c request answer

-- ---- what is written

-- Some answer was due to the words, and this status says what was written of it, to a sink that was sure of so much room. Where memory
-- ran out, nothing was written.
abbrev pub IsAnswered : Option Contents → Counts → Option Request → ℕ → Option (List ℕ) → Option (List ℕ) → Status → Type 0
IsAnswered told c request room old new statuses.NoMemory = new ≡ old
IsAnswered told c request room old new status = (answer : Answer) × IsAnswer told c request answer × IsSent answer room old new status

-- what may be answered after a fault of reading
abbrev pub IsAfterReadFault : Status → Type 0
IsAfterReadFault statuses.ReadFault = Unit {0}
IsAfterReadFault statuses.WriteFault = Unit {0}
IsAfterReadFault statuses.NoMemory = Unit {0}
IsAfterReadFault status = ⊥

-- ---- the files that are read

-- all files that the request names are there
abbrev pub HasRequested : Option Contents → Request → Type 0
HasRequested told (check input) = HasAll told (list_of (check_names input))
HasRequested told (run main choices steps input) = HasAll told (list_of (run_names choices input))
HasRequested told (generate seed methods) = Unit {0}
HasRequested told (settings file) = HasNamed told file
HasRequested told (certify input) = HasAll told (list_of (check_names input))
HasRequested told (verify certificate input) = HasAllBeside told (check_names input) certificate

abbrev pub HasAllNamed : Option Contents → Option Request → Type 0
HasAllNamed told None = Unit {0}
HasAllNamed told (Some request) = HasRequested told request

-- A fault of reading that was counted is answered.
use Rattle.std.proofs.Common.{◌≡◌, ◌<◌, ◌∙◌, ap, refl, arith, ℕ, List, Option, Some, None, Err, Global}
use Rattle.outside.specs.Files.{Contents}
use Rattle.source_files.specs.Reading.{Counts, CountsNoFault, IsReading}
use Rattle.source_files.specs.declared.stops.ReadingStop.{ReadingStop}
use Rattle.source_files.specs.declared.stops.ReadingStop.TheVariants as stops
use Rattle.input_files.specs.Inputs.{IsStopLine}
use Rattle.command_words.specs.Requests.{Request, certify, check, generate, run, settings, verify}
use Rattle.command_answers.specs.Sending.{IsSent}
use Rattle.command_answers.specs.Statuses.{status_of}
use Rattle.command_answers.specs.declared.answers.Answer.{Answer}
use Rattle.command_answers.specs.declared.answers.Outcome.TheVariants as outcomes
use Rattle.command_answers.specs.declared.statuses.Status.{Status}
use Rattle.command_answers.specs.declared.statuses.Status.TheVariants as statuses
use Rattle.command_inputs.specs.Inputs.{FileNames, IsUnread, stopped, too_many}
use Rattle.command_inputs.specs.Limited.{IsLimitedStop, IsUnreadBeside, LimitedName}
use Rattle.command_inputs.specs.Limited as limited
use Rattle.check_command.specs.Certificates as certificates
use Rattle.check_command.specs.Checks as checks
use Rattle.run_inputs.specs.Runs as runs
use Rattle.side_commands.specs.Migration.{IsDueFor, IsSettingsAnswer, due_outcome}
use Rattle.side_commands.specs.declared.migration.Due.{Due}
use Rattle.side_commands.specs.declared.migration.Due.TheVariants as dues
use Rattle.rlc_cli.specs.Answers.{IsAfterReadFault, IsAnswer, IsRequestAnswer}

-- the answer says that a file could not be read
IsFault : Answer → Type 0
IsFault answer = answer.outcome ≡ outcomes.ReadFault

none_rose : {A : Type 0} (c : Counts) → CountsNoFault c → c.faults < c.faults_now → A
none_rose c none rose = absurd (omega (arith, none, rose))

stop_is_fault : (told : Option Contents) (held : ℕ) (names : List (List ℕ)) (c : Counts) (answer : Answer) (stop : ReadingStop) → IsReading {A = Global} told held names c (Err stop)
    → IsStopLine names stop answer → c.faults < c.faults_now → IsFault answer
unfolding IsFault
stop_is_fault told held names c answer (stops.Failed at) cause (name, here, outcome, text) rose = outcome
stop_is_fault told held names c answer (stops.TooBig at) (name, texts, reached, past, none) line rose = none_rose c none rose
stop_is_fault told held names c answer (stops.TooMuch at) (name, texts, reached, past, none) line rose = none_rose c none rose
stop_is_fault told held names c answer stops.NoMemory cause line rose = absurd line

unread_is_fault : (told : Option Contents) (names : FileNames) (c : Counts) (answer : Answer) → IsUnread told names c answer → c.faults < c.faults_now → IsFault answer
unread_is_fault told names c answer (too_many line none) rose = none_rose c none rose
unread_is_fault told names c answer (stopped few stop) rose = stop_is_fault told _ _ c answer stop.stop stop.cause stop.line rose

check_is_fault : (told : Option Contents) (names : FileNames) (c : Counts) (answer : Answer) → checks.IsCheckAnswer told names c answer → c.faults < c.faults_now → IsFault answer
check_is_fault told names c answer (checks.unread why) rose = unread_is_fault told names c answer why rose
check_is_fault told names c answer (checks.read files texts none checked) rose = none_rose c none rose

limited_is_fault : (told : Option Contents) (x : LimitedName) (c : Counts) (answer : Answer) → IsLimitedStop told x c answer → c.faults < c.faults_now → IsFault answer
unfolding IsFault
limited_is_fault told x c answer (limited.failed cause outcome text) rose = outcome
limited_is_fault told x c answer (limited.too_long long none outcome text) rose = none_rose c none rose

beside_is_fault : (told : Option Contents) (names : FileNames) (x : LimitedName) (c : Counts) (answer : Answer) → IsUnreadBeside told names x c answer → c.faults < c.faults_now → IsFault answer
beside_is_fault told names x c answer (limited.too_many line none) rose = none_rose c none rose
beside_is_fault told names x c answer (limited.before few stop) rose = stop_is_fault told _ _ c answer stop.stop stop.cause stop.line rose
beside_is_fault told names x c answer (limited.at few texts are stop) rose = limited_is_fault told x c answer stop rose
beside_is_fault told names x c answer (limited.behind few texts text are is stop) rose = stop_is_fault told _ _ c answer stop.stop stop.cause stop.line rose

certify_is_fault : (told : Option Contents) (names : FileNames) (c : Counts) (answer : Answer) → certificates.IsCertifyAnswer told names c answer → c.faults < c.faults_now → IsFault answer
certify_is_fault told names c answer (certificates.unread why) rose = unread_is_fault told names c answer why rose
certify_is_fault told names c answer (certificates.read files texts none said) rose = none_rose c none rose

verify_is_fault : (name : List ℕ) (told : Option Contents) (names : FileNames) (c : Counts) (answer : Answer) → certificates.IsVerifyAnswer name told names c answer → c.faults < c.faults_now → IsFault answer
verify_is_fault name told names c answer (certificates.unread why) rose = beside_is_fault told names _ c answer why rose
verify_is_fault name told names c answer (certificates.read files text texts is none said) rose = none_rose c none rose

run_is_fault : (main : runs.Run) (told : Option Contents) (names : FileNames) (c : Counts) (answer : Answer) → runs.IsRunAnswer main told names c answer → c.faults < c.faults_now → IsFault answer
run_is_fault main told names c answer (runs.unread why) rose = unread_is_fault told names c answer why rose
run_is_fault main told names c answer (runs.read files texts none said) rose = none_rose c none rose

due_is_fault : (told : Option Contents) (name : List ℕ) (c : Counts) (due : Due) → IsDueFor told name c due → c.faults < c.faults_now → due_outcome due ≡ outcomes.ReadFault
due_is_fault told name c (dues.Printed text) (file, none) rose = none_rose c none rose
due_is_fault told name c (dues.Refused code) (file, none) rose = none_rose c none rose
due_is_fault told name c dues.TooBig (past, none) rose = none_rose c none rose
due_is_fault told name c dues.ReadFault cause rose = refl

settings_is_fault : (told : Option Contents) (name : List ℕ) (c : Counts) (answer : Answer) → IsSettingsAnswer told name c answer → c.faults < c.faults_now → IsFault answer
unfolding IsFault
settings_is_fault told name c answer said rose = said.outcome ∙ due_is_fault told name c said.due said.cause rose

request_is_fault : (told : Option Contents) (c : Counts) (request : Request) (answer : Answer) → IsRequestAnswer told c request answer → c.faults < c.faults_now → IsFault answer
request_is_fault told c (check input) answer said rose = check_is_fault told _ c answer said rose
request_is_fault told c (run main choices steps input) answer said rose = run_is_fault _ told _ c answer said rose
request_is_fault told c (generate seed methods) answer (said, none) rose = none_rose c none rose
request_is_fault told c (settings file) answer said rose = settings_is_fault told file c answer said rose
request_is_fault told c (certify input) answer said rose = certify_is_fault told _ c answer said rose
request_is_fault told c (verify certificate input) answer said rose = verify_is_fault certificate told _ c answer said rose

is_fault : (told : Option Contents) (c : Counts) (request : Option Request) (answer : Answer) → IsAnswer told c request answer → c.faults < c.faults_now → IsFault answer
is_fault told c None answer (said, none) rose = none_rose c none rose
is_fault told c (Some request) answer said rose = request_is_fault told c request answer said rose

-- the status is that of the answer
fault_status : (told : Option Contents) (c : Counts) (request : Option Request) (answer : Answer) (status : Status) → IsAnswer told c request answer → status ≡ status_of answer.outcome
    → c.faults < c.faults_now → status ≡ statuses.ReadFault
unfolding IsFault
fault_status told c request answer status said is rose = is ∙ ap status_of (is_fault told c request answer said rose)

pub after_rise : (told : Option Contents) (c : Counts) (request : Option Request) (room : ℕ) (old new : Option (List ℕ)) (answer : Answer) (status : Status) → IsAnswer told c request answer
    → IsSent answer room old new status → c.faults < c.faults_now → IsAfterReadFault status
after_rise told c request room old new answer statuses.ReadFault said sent rose = tt
after_rise told c request room old new answer statuses.WriteFault said sent rose = tt
after_rise told c request room old new answer statuses.NoMemory said sent rose = tt
after_rise told c request room old new answer statuses.Accepted said (is, sent) rose = absurd (let same : statuses.Accepted ≡ statuses.ReadFault = fault_status told c request answer _ said is rose in cc)
after_rise told c request room old new answer statuses.Leaks said (is, sent) rose = absurd (let same : statuses.Leaks ≡ statuses.ReadFault = fault_status told c request answer _ said is rose in cc)
after_rise told c request room old new answer statuses.Refused said (is, sent) rose = absurd (let same : statuses.Refused ≡ statuses.ReadFault = fault_status told c request answer _ said is rose in cc)
after_rise told c request room old new answer statuses.Usage said (is, sent) rose = absurd (let same : statuses.Usage ≡ statuses.ReadFault = fault_status told c request answer _ said is rose in cc)
after_rise told c request room old new answer statuses.Limit said (is, sent) rose = absurd (let same : statuses.Limit ≡ statuses.ReadFault = fault_status told c request answer _ said is rose in cc)
after_rise told c request room old new answer statuses.RunCut said (is, sent) rose = absurd (let same : statuses.RunCut ≡ statuses.ReadFault = fault_status told c request answer _ said is rose in cc)
after_rise told c request room old new answer statuses.Stray said (is, sent) rose = absurd (let same : statuses.Stray ≡ statuses.ReadFault = fault_status told c request answer _ said is rose in cc)

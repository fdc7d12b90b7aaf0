-- The statuses 0 and 1 of `check`, and the status 1 of `run`, come with a program.
use Rattle.std.proofs.Common.{◌≡◌, ◌∙◌, ap, refl, sym, subst, ℕ, List, Option, Some, None}
use Rattle.outside.specs.Files.{Contents}
use Rattle.rlc_base.specs.declared.faults.Stop.{Stop}
use Rattle.rlc_base.specs.declared.faults.Stop.TheVariants as stops
use Rattle.source_files.specs.Reading.{Counts}
use Rattle.source_files.specs.declared.stops.ReadingStop.{ReadingStop}
use Rattle.source_files.specs.declared.stops.ReadingStop.TheVariants as readings
use Rattle.input_files.specs.Inputs.{IsStopLine}
use Rattle.command_words.specs.Requests.{Request, certify, check, generate, run, settings, verify}
use Rattle.command_answers.specs.Sending.{IsSent}
use Rattle.command_answers.specs.Statuses.{status_of}
use Rattle.command_answers.specs.declared.answers.Answer.{Answer}
use Rattle.command_answers.specs.declared.answers.Outcome.{Outcome}
use Rattle.command_answers.specs.declared.answers.Outcome.TheVariants as outcomes
use Rattle.command_answers.specs.declared.statuses.Status.{Status}
use Rattle.command_answers.specs.declared.statuses.Status.TheVariants as statuses
use Rattle.command_inputs.specs.Inputs.{AreFileTexts, FileNames, FileText, FileTexts, IsUnread, stopped, too_many}
use Rattle.command_inputs.specs.Limited.{IsLimitedStop, IsUnreadBeside, LimitedName}
use Rattle.command_inputs.specs.Limited as limited
use Rattle.check_command.specs.Certificates.{IsCertifyAnswer, IsCertifying, IsVerifyAnswer, IsVerifying, certificate_file}
use Rattle.check_command.specs.Certificates as certificates
use Rattle.check_command.specs.Programs.{IsProgramOf}
use Rattle.check_command.specs.Refusals.{IsSettingsAnswer, IsStopAnswer}
use Rattle.check_command.specs.Checks.{IsCheckAnswer, IsChecked, IsUnchecked, accepted, by_limit, by_program, by_settings, leaking, read, unchecked, unread}
use Rattle.program_model.specs.declared.program.Program.{Program}
use Rattle.soundness_laws.specs.Accept.{Accept}
use Rattle.check_command.specs.ProgramReports.{IsFaultCount, IsFaulty}
use Rattle.soundness_laws.specs.RunAnswers.{answer_outcome}
use Rattle.run_inputs.specs.Runs.{IsChoicesAnswer, IsRun, IsRunAnswer, IsRunOf, Run}
use Rattle.run_inputs.specs.Runs as runs
use Rattle.stub_conduct.specs.declared.choice.Choices.{Choices}
use Rattle.soundness_laws.proofs.Answers.{safe_answer}
use Rattle.soundness_laws.proofs.SafeRuns.{accepted_is_safe}
use Rattle.file_condition_laws.proofs.Conditions.{read_conditions}
use Rattle.rlc_cli.specs.Answers.{IsAnswer}
use Rattle.rlc_cli.specs.Headline.{IsAcceptedCheck, IsHeadline, IsLeakingCheck, IsLeakingRun, IsVerifiedCheck}

-- no program was checked
abbrev IsHalting : Outcome → Type 0
IsHalting outcomes.Accepted = ⊥
IsHalting outcomes.Leaks = ⊥
IsHalting outcomes.Refused = Unit {0}
IsHalting outcomes.Usage = ⊥
IsHalting outcomes.ReadFault = Unit {0}
IsHalting outcomes.Limit = Unit {0}
IsHalting outcomes.RunCut = ⊥
IsHalting outcomes.Stray = ⊥

halting_not_accepted : {A : Type 0} (o : Outcome) → IsHalting o → statuses.Accepted ≡ status_of o → A
halting_not_accepted outcomes.Accepted halts is = absurd halts
halting_not_accepted outcomes.Leaks halts is = absurd halts
halting_not_accepted outcomes.Refused halts is = absurd (let no : statuses.Accepted ≡ statuses.Refused = is in cc)
halting_not_accepted outcomes.Usage halts is = absurd halts
halting_not_accepted outcomes.ReadFault halts is = absurd (let no : statuses.Accepted ≡ statuses.ReadFault = is in cc)
halting_not_accepted outcomes.Limit halts is = absurd (let no : statuses.Accepted ≡ statuses.Limit = is in cc)
halting_not_accepted outcomes.RunCut halts is = absurd halts
halting_not_accepted outcomes.Stray halts is = absurd halts

halting_not_leaking : {A : Type 0} (o : Outcome) → IsHalting o → statuses.Leaks ≡ status_of o → A
halting_not_leaking outcomes.Accepted halts is = absurd halts
halting_not_leaking outcomes.Leaks halts is = absurd halts
halting_not_leaking outcomes.Refused halts is = absurd (let no : statuses.Leaks ≡ statuses.Refused = is in cc)
halting_not_leaking outcomes.Usage halts is = absurd halts
halting_not_leaking outcomes.ReadFault halts is = absurd (let no : statuses.Leaks ≡ statuses.ReadFault = is in cc)
halting_not_leaking outcomes.Limit halts is = absurd (let no : statuses.Leaks ≡ statuses.Limit = is in cc)
halting_not_leaking outcomes.RunCut halts is = absurd halts
halting_not_leaking outcomes.Stray halts is = absurd halts

halts_by : (answer : Answer) (o : Outcome) → IsHalting o → answer.outcome ≡ o → IsHalting answer.outcome
halts_by answer o halts is = subst IsHalting (sym is) halts

reading_halts : (names : List (List ℕ)) (stop : ReadingStop) (answer : Answer) → IsStopLine names stop answer → IsHalting answer.outcome
reading_halts names (readings.Failed at) answer (name, here, outcome, text) = halts_by answer outcomes.ReadFault tt outcome
reading_halts names (readings.TooBig at) answer (name, here, outcome, text) = halts_by answer outcomes.Limit tt outcome
reading_halts names (readings.TooMuch at) answer (name, here, outcome, text) = halts_by answer outcomes.Limit tt outcome
reading_halts names readings.NoMemory answer line = absurd line

unread_halts : (told : Option Contents) (names : FileNames) (c : Counts) (answer : Answer) → IsUnread told names c answer → IsHalting answer.outcome
unread_halts told names c answer (too_many (name, here, outcome, text) none) = halts_by answer outcomes.Limit tt outcome
unread_halts told names c answer (stopped few stop) = reading_halts _ stop.stop answer stop.line

stop_halts : (names : List (List ℕ)) (stop : Stop) (answer : Answer) → IsStopAnswer names stop answer → IsHalting answer.outcome
stop_halts names (stops.Refused r) answer line = halts_by answer outcomes.Refused tt line.outcome_is
stop_halts names (stops.TooMuch r) answer line = halts_by answer outcomes.Limit tt line.outcome_is
stop_halts names stops.NoMemory answer line = absurd line

settings_halt : (file : Option FileText) (answer : Answer) → IsSettingsAnswer file answer → IsHalting answer.outcome
settings_halt None answer is = absurd is
settings_halt (Some file) answer is = halts_by answer outcomes.Refused tt is.outcome_is

unchecked_halts : (files : FileTexts) (answer : Answer) → IsUnchecked files answer → IsHalting answer.outcome
unchecked_halts files answer (by_settings why) = settings_halt files.settings answer why
unchecked_halts files answer (by_program s is why) = stop_halts _ why.stop answer why.line
unchecked_halts files answer (by_limit p why) = stop_halts _ why.stop answer why.line

checked_accepted : (files : FileTexts) (answer : Answer) → IsChecked files answer → statuses.Accepted ≡ status_of answer.outcome → (p : Program) × (IsProgramOf files p × (Accept p × IsFaultCount p 0))
checked_accepted files answer (unchecked why) is = halting_not_accepted answer.outcome (unchecked_halts files answer why) is
checked_accepted files answer (accepted p program accept counted outcome text) is = (p, (program, (accept, counted)))
checked_accepted files answer (leaking p count program fault outcome counted text) is = absurd (let no : statuses.Accepted ≡ statuses.Leaks = is ∙ ap status_of outcome in cc)

checked_leaking : (files : FileTexts) (answer : Answer) → IsChecked files answer → statuses.Leaks ≡ status_of answer.outcome → (p : Program) × (IsProgramOf files p × IsFaulty p)
checked_leaking files answer (unchecked why) is = halting_not_leaking answer.outcome (unchecked_halts files answer why) is
checked_leaking files answer (accepted p program accept counted outcome text) is = absurd (let no : statuses.Leaks ≡ statuses.Accepted = is ∙ ap status_of outcome in cc)
checked_leaking files answer (leaking p count program fault outcome counted text) is = (p, (program, fault))

check_accepted : (told : Option Contents) (names : FileNames) (c : Counts) (answer : Answer) → IsCheckAnswer told names c answer → statuses.Accepted ≡ status_of answer.outcome → IsAcceptedCheck told names
check_accepted told names c answer (unread why) is = halting_not_accepted answer.outcome (unread_halts told names c answer why) is
check_accepted told names c answer (read files texts none checked) is =
    let found = checked_accepted files answer checked is in
    record { files = files; texts = texts; program = found.0; is_program = found.1.0; accepted = found.1.1.0; counted = found.1.1.1; safe = accepted_is_safe found.0 found.1.1.0 (read_conditions _ found.0 found.1.0.program) }

check_leaking : (told : Option Contents) (names : FileNames) (c : Counts) (answer : Answer) → IsCheckAnswer told names c answer → statuses.Leaks ≡ status_of answer.outcome → IsLeakingCheck told names
check_leaking told names c answer (unread why) is = halting_not_leaking answer.outcome (unread_halts told names c answer why) is
check_leaking told names c answer (read files texts none checked) is =
    let found = checked_leaking files answer checked is in
    record { files = files; texts = texts; program = found.0; is_program = found.1.0; fault = found.1.1 }

-- ---- certificates

certifying_accepted : (files : FileTexts) (answer : Answer) → IsCertifying files answer → statuses.Accepted ≡ status_of answer.outcome → (p : Program) × (IsProgramOf files p × (Accept p × IsFaultCount p 0))
certifying_accepted files answer (certificates.unchecked why) is = halting_not_accepted answer.outcome (unchecked_halts files answer why) is
certifying_accepted files answer (certificates.written p program accept counted outcome text) is = (p, (program, (accept, counted)))
certifying_accepted files answer (certificates.too_long p program accept counted outcome text) is = absurd (let no : statuses.Accepted ≡ statuses.Limit = is ∙ ap status_of outcome in cc)
certifying_accepted files answer (certificates.leaking p count program fault outcome counted text) is = absurd (let no : statuses.Accepted ≡ statuses.Leaks = is ∙ ap status_of outcome in cc)

certifying_leaking : (files : FileTexts) (answer : Answer) → IsCertifying files answer → statuses.Leaks ≡ status_of answer.outcome → (p : Program) × (IsProgramOf files p × IsFaulty p)
certifying_leaking files answer (certificates.unchecked why) is = halting_not_leaking answer.outcome (unchecked_halts files answer why) is
certifying_leaking files answer (certificates.written p program accept counted outcome text) is = absurd (let no : statuses.Leaks ≡ statuses.Accepted = is ∙ ap status_of outcome in cc)
certifying_leaking files answer (certificates.too_long p program accept counted outcome text) is = absurd (let no : statuses.Leaks ≡ statuses.Limit = is ∙ ap status_of outcome in cc)
certifying_leaking files answer (certificates.leaking p count program fault outcome counted text) is = (p, (program, fault))

certify_accepted : (told : Option Contents) (names : FileNames) (c : Counts) (answer : Answer) → IsCertifyAnswer told names c answer → statuses.Accepted ≡ status_of answer.outcome → IsAcceptedCheck told names
certify_accepted told names c answer (certificates.unread why) is = halting_not_accepted answer.outcome (unread_halts told names c answer why) is
certify_accepted told names c answer (certificates.read files texts none said) is =
    let found = certifying_accepted files answer said is in
    record { files = files; texts = texts; program = found.0; is_program = found.1.0; accepted = found.1.1.0; counted = found.1.1.1; safe = accepted_is_safe found.0 found.1.1.0 (read_conditions _ found.0 found.1.0.program) }

certify_leaking : (told : Option Contents) (names : FileNames) (c : Counts) (answer : Answer) → IsCertifyAnswer told names c answer → statuses.Leaks ≡ status_of answer.outcome → IsLeakingCheck told names
certify_leaking told names c answer (certificates.unread why) is = halting_not_leaking answer.outcome (unread_halts told names c answer why) is
certify_leaking told names c answer (certificates.read files texts none said) is =
    let found = certifying_leaking files answer said is in
    record { files = files; texts = texts; program = found.0; is_program = found.1.0; fault = found.1.1 }

limited_halts : (told : Option Contents) (x : LimitedName) (c : Counts) (answer : Answer) → IsLimitedStop told x c answer → IsHalting answer.outcome
limited_halts told x c answer (limited.failed rose outcome text) = halts_by answer outcomes.ReadFault tt outcome
limited_halts told x c answer (limited.too_long long none outcome text) = halts_by answer outcomes.Limit tt outcome

beside_halts : (told : Option Contents) (names : FileNames) (x : LimitedName) (c : Counts) (answer : Answer) → IsUnreadBeside told names x c answer → IsHalting answer.outcome
beside_halts told names x c answer (limited.too_many (name, here, outcome, text) none) = halts_by answer outcomes.Limit tt outcome
beside_halts told names x c answer (limited.before few stop) = reading_halts _ stop.stop answer stop.line
beside_halts told names x c answer (limited.at few texts are stop) = limited_halts told x c answer stop
beside_halts told names x c answer (limited.behind few texts text are is stop) = reading_halts _ stop.stop answer stop.line

verifying_accepted : (told : Option Contents) (names : FileNames) (name text : List ℕ) (files : FileTexts) (answer : Answer) → AreFileTexts told names files → limited.IsLimitedText told (certificate_file name) text
    → IsVerifying files (record { name = name; text = text }) answer → statuses.Accepted ≡ status_of answer.outcome → IsVerifiedCheck told names name
verifying_accepted told names name text files answer texts is (certificates.by_settings why) status = halting_not_accepted answer.outcome (settings_halt files.settings answer why) status
verifying_accepted told names name text files answer texts is (certificates.by_program s are why) status = halting_not_accepted answer.outcome (stop_halts _ why.stop answer why.line) status
verifying_accepted told names name text files answer texts is (certificates.by_certificate p why) status = halting_not_accepted answer.outcome (stop_halts _ why.stop answer why.line) status
verifying_accepted told names name text files answer texts is (certificates.verified p program certificate accept outcome empty) status = record {
  files = files;
  texts = texts;
  program = p;
  is_program = program;
  text = text;
  limited = is;
  is_certificate = certificate;
  accepted = accept;
  safe = accepted_is_safe p accept (read_conditions _ p program.program);
}

verify_accepted : (name : List ℕ) (told : Option Contents) (names : FileNames) (c : Counts) (answer : Answer) → IsVerifyAnswer name told names c answer → statuses.Accepted ≡ status_of answer.outcome
    → IsVerifiedCheck told names name
verify_accepted name told names c answer (certificates.unread why) is = halting_not_accepted answer.outcome (beside_halts told names _ c answer why) is
verify_accepted name told names c answer (certificates.read files text texts limited none said) is = verifying_accepted told names name text files answer texts limited said is

verifying_leaks_never : (files : FileTexts) (certificate : FileText) (answer : Answer) → IsVerifying files certificate answer → statuses.Leaks ≡ status_of answer.outcome → ⊥
verifying_leaks_never files certificate answer (certificates.by_settings why) status = halting_not_leaking answer.outcome (settings_halt files.settings answer why) status
verifying_leaks_never files certificate answer (certificates.by_program s are why) status = halting_not_leaking answer.outcome (stop_halts _ why.stop answer why.line) status
verifying_leaks_never files certificate answer (certificates.by_certificate p why) status = halting_not_leaking answer.outcome (stop_halts _ why.stop answer why.line) status
verifying_leaks_never files certificate answer (certificates.verified p program is accept outcome empty) status = (let no : statuses.Leaks ≡ statuses.Accepted = status ∙ ap status_of outcome in cc)

verify_leaks_never : (name : List ℕ) (told : Option Contents) (names : FileNames) (c : Counts) (answer : Answer) → IsVerifyAnswer name told names c answer → statuses.Leaks ≡ status_of answer.outcome → ⊥
verify_leaks_never name told names c answer (certificates.unread why) is = halting_not_leaking answer.outcome (beside_halts told names _ c answer why) is
verify_leaks_never name told names c answer (certificates.read files text texts limited none said) is = verifying_leaks_never files _ answer said is

-- ---- runs

-- the status 1 comes with the outcome that leaks
leaks_alone : (o : Outcome) → statuses.Leaks ≡ status_of o → o ≡ outcomes.Leaks
leaks_alone outcomes.Accepted is = absurd (let no : statuses.Leaks ≡ statuses.Accepted = is in cc)
leaks_alone outcomes.Leaks is = refl
leaks_alone outcomes.Refused is = absurd (let no : statuses.Leaks ≡ statuses.Refused = is in cc)
leaks_alone outcomes.Usage is = absurd (let no : statuses.Leaks ≡ statuses.Usage = is in cc)
leaks_alone outcomes.ReadFault is = absurd (let no : statuses.Leaks ≡ statuses.ReadFault = is in cc)
leaks_alone outcomes.Limit is = absurd (let no : statuses.Leaks ≡ statuses.Limit = is in cc)
leaks_alone outcomes.RunCut is = absurd (let no : statuses.Leaks ≡ statuses.RunCut = is in cc)
leaks_alone outcomes.Stray is = absurd (let no : statuses.Leaks ≡ statuses.Stray = is in cc)

choices_halt : (file : Option FileText) (answer : Answer) → IsChoicesAnswer file answer → IsHalting answer.outcome
choices_halt None answer is = absurd is
choices_halt (Some file) answer is = halts_by answer outcomes.Refused tt is.outcome_is

ran_leaking : (told : Option Contents) (names : FileNames) (r : Run) (files : FileTexts) (choices : Choices) (answer : Answer) → AreFileTexts told names files → IsRun r files choices answer
    → statuses.Leaks ≡ status_of answer.outcome → IsLeakingRun told names
ran_leaking told names r files choices answer texts ran is =
    let p = ran.program in
    let leaks : answer_outcome p r.class choices r.steps ≡ outcomes.Leaks = sym ran.outcome_is ∙ leaks_alone answer.outcome is in
    record {
      files = files;
      texts = texts;
      program = p;
      is_program = ran.is_program;
      unsafe = λ safe. safe_answer p safe r.class choices r.steps leaks;
      unaccepted = λ accept. safe_answer p (accepted_is_safe p accept (read_conditions _ p ran.is_program.program)) r.class choices r.steps leaks;
    }

run_of_leaking : (told : Option Contents) (names : FileNames) (r : Run) (files : FileTexts) (answer : Answer) → AreFileTexts told names files → IsRunOf r files answer
    → statuses.Leaks ≡ status_of answer.outcome → IsLeakingRun told names
run_of_leaking told names r files answer texts (runs.by_settings why) is = halting_not_leaking answer.outcome (settings_halt files.settings answer why) is
run_of_leaking told names r files answer texts (runs.by_choices s are why) is = halting_not_leaking answer.outcome (choices_halt files.choices answer why) is
run_of_leaking told names r files answer texts (runs.by_program s choices are chosen why) is = halting_not_leaking answer.outcome (stop_halts _ why.stop answer why.line) is
run_of_leaking told names r files answer texts (runs.ran choices chosen ran) is = ran_leaking told names r files choices answer texts ran is

run_leaking : (told : Option Contents) (names : FileNames) (r : Run) (c : Counts) (answer : Answer) → IsRunAnswer r told names c answer → statuses.Leaks ≡ status_of answer.outcome → IsLeakingRun told names
run_leaking told names r c answer (runs.unread why) is = halting_not_leaking answer.outcome (unread_halts told names c answer why) is
run_leaking told names r c answer (runs.read files texts none ran) is = run_of_leaking told names r files answer texts ran is

pub headline : (told : Option Contents) (c : Counts) (request : Option Request) (room : ℕ) (old new : Option (List ℕ)) (answer : Answer) (status : Status) → IsAnswer told c request answer
    → IsSent answer room old new status → IsHeadline told request status
headline told c None room old new answer statuses.Accepted said sent = tt
headline told c (Some (check input)) room old new answer statuses.Accepted said (is, sent) = check_accepted told _ c answer said is
headline told c (Some (run main choices steps input)) room old new answer statuses.Accepted said sent = tt
headline told c (Some (generate seed methods)) room old new answer statuses.Accepted said sent = tt
headline told c (Some (settings file)) room old new answer statuses.Accepted said sent = tt
headline told c (Some (certify input)) room old new answer statuses.Accepted said (is, sent) = certify_accepted told _ c answer said is
headline told c (Some (verify certificate input)) room old new answer statuses.Accepted said (is, sent) = verify_accepted certificate told _ c answer said is
headline told c None room old new answer statuses.Leaks said sent = tt
headline told c (Some (check input)) room old new answer statuses.Leaks said (is, sent) = check_leaking told _ c answer said is
headline told c (Some (run main choices steps input)) room old new answer statuses.Leaks said (is, sent) = run_leaking told _ _ c answer said is
headline told c (Some (generate seed methods)) room old new answer statuses.Leaks said sent = tt
headline told c (Some (settings file)) room old new answer statuses.Leaks said sent = tt
headline told c (Some (certify input)) room old new answer statuses.Leaks said (is, sent) = certify_leaking told _ c answer said is
headline told c (Some (verify certificate input)) room old new answer statuses.Leaks said (is, sent) = verify_leaks_never certificate told _ c answer said is
headline told c request room old new answer statuses.Refused said sent = tt
headline told c request room old new answer statuses.Usage said sent = tt
headline told c request room old new answer statuses.ReadFault said sent = tt
headline told c request room old new answer statuses.WriteFault said sent = tt
headline told c request room old new answer statuses.NoMemory said sent = tt
headline told c request room old new answer statuses.Limit said sent = tt
headline told c request room old new answer statuses.RunCut said sent = tt
headline told c request room old new answer statuses.Stray said sent = tt

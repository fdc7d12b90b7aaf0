-- The exit statuses, and the status of an outcome.
use Rattle.std.specs.Prelude.{ℕ}
use Rattle.command_answers.specs.declared.answers.Outcome.{Outcome}
use Rattle.command_answers.specs.declared.answers.Outcome.TheVariants as outcomes
use Rattle.command_answers.specs.declared.statuses.Status.{Status}
use Rattle.command_answers.specs.declared.statuses.Status.TheVariants as statuses

abbrev pub status_code : Status → ℕ
status_code statuses.Accepted = 0
status_code statuses.Leaks = 1
status_code statuses.Refused = 2
status_code statuses.Usage = 3
status_code statuses.ReadFault = 4
status_code statuses.WriteFault = 5
status_code statuses.NoMemory = 6
status_code statuses.Limit = 7
status_code statuses.RunCut = 8
status_code statuses.Stray = 9

abbrev pub status_of : Outcome → Status
status_of outcomes.Accepted = statuses.Accepted
status_of outcomes.Leaks = statuses.Leaks
status_of outcomes.Refused = statuses.Refused
status_of outcomes.Usage = statuses.Usage
status_of outcomes.ReadFault = statuses.ReadFault
status_of outcomes.Limit = statuses.Limit
status_of outcomes.RunCut = statuses.RunCut
status_of outcomes.Stray = statuses.Stray

-- What was written of an answer.
use Rattle.std.specs.Prelude.{◌≡◌, ◌<◌, ℕ, Option, List, length}
use Rattle.std.specs.Io.KnownBytes.{append_known}
use Rattle.outside.specs.Counts.{Rose}
use Rattle.outside.specs.Sink.{AppendsFront}
use Rattle.command_answers.specs.Statuses.{status_of}
use Rattle.command_answers.specs.declared.answers.Answer.{Answer}
use Rattle.command_answers.specs.declared.statuses.Status.{Status}
use Rattle.command_answers.specs.declared.statuses.Status.TheVariants as statuses

-- What was written where the sink was sure of so much room: the whole text, with the answer's status; for a fault of
-- writing, a front of a text that has no room.
abbrev pub IsSent : Answer → ℕ → Option (List ℕ) → Option (List ℕ) → Status → Type 0
IsSent answer room old new statuses.WriteFault = AppendsFront old new answer.text × (room < length answer.text)
IsSent answer room old new statuses.NoMemory = ⊥
IsSent answer room old new status = (status ≡ status_of answer.outcome) × (new ≡ append_known old answer.text)

-- a count of faults of writing that is greater than before comes with WriteFault, and with it alone
abbrev pub IsWriteStatus : ℕ → ℕ → Status → Type 0
IsWriteStatus faults faults_now statuses.WriteFault = Rose faults faults_now
IsWriteStatus faults faults_now status = faults_now ≡ faults

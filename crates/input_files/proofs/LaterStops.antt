-- Reading that stopped behind other files stopped with the counts from before these.
use Rattle.std.proofs.Common.{ℕ, List, Option, Global}
use Rattle.outside.specs.Files.{Contents}
use Rattle.source_files.specs.Reading.{Counts}
use Rattle.source_files.proofs.LaterCounts.{AreLater, reading_from}
use Rattle.input_files.specs.Inputs.{IsStopped}
use Rattle.command_answers.specs.declared.answers.Answer.{Answer}

pub stopped_from : (told : Option Contents) (held : ℕ) (names : List (List ℕ)) (c later : Counts) (answer : Answer) → AreLater c later → IsStopped told held names later answer
    → IsStopped told held names c answer
stopped_from told held names c later answer are stopped = record { stop = stopped.stop; cause = reading_from Global told held names c later stopped.stop are stopped.cause; line = stopped.line }

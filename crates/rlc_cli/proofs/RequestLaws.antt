-- The answer of `gen` is one to its request.
use Rattle.std.proofs.Common.{ℕ, Option, Result, Ok, Err}
use Rattle.std.specs.Prelude.{IfOk}
use Rattle.outside.specs.Files.{Contents}
use Rattle.rlc_base.specs.declared.faults.NoMemory.{NoMemory}
use Rattle.source_files.specs.Reading.{Counts, CountsNoFault}
use Rattle.command_words.specs.Requests.{generate}
use Rattle.command_answers.specs.declared.answers.Answer.{Answer}
use Rattle.check_command.specs.Generated.{IsGeneratedAnswer}
use Rattle.rlc_cli.specs.Answers.{IsRequestAnswer}

pub generated_too : (told : Option Contents) (c : Counts) (seed methods : ℕ) (result : Result Answer NoMemory) → CountsNoFault c → IfOk result (IsGeneratedAnswer seed methods)
    → IfOk result (IsRequestAnswer told c (generate seed methods))
generated_too told c seed methods (Ok answer) none is = (is, none)
generated_too told c seed methods (Err error) none is = tt

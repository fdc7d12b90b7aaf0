-- The answer where the files make no program.
use Rattle.std.proofs.Common.{◌≡◌, subst, ℕ, List}
use Rattle.rlc_base.specs.declared.faults.Stop.{Stop}
use Rattle.java_syntax.specs.declared.settings.Settings.{Settings}
use Rattle.program_reading.specs.Inputs.{file_names}
use Rattle.program_reading.specs.Programs.{IsProgramStop}
use Rattle.command_inputs.specs.Halts.{HaltsBy}
use Rattle.command_inputs.specs.Inputs.{FileTexts}
use Rattle.command_inputs.specs.declared.halts.Halt.{Halt}
use Rattle.command_inputs.specs.declared.halts.Halt.TheVariants as halts
use Rattle.command_programs.specs.Programs.{IsProgramAnswer, input_of}
use Rattle.command_programs.specs.Refusals.{IsStopAnswer}

pub halted : (s : Settings) (files : FileTexts) (stop : Stop) (names : List (List ℕ)) (h : Halt) → names ≡ file_names files.names → IsProgramStop (input_of s files) stop → HaltsBy h (IsStopAnswer names stop) → HaltsBy h (IsProgramAnswer s files)
halted s files stop names (halts.Answered answer) same cause line = record { stop = stop; cause = cause; line = subst (λ n. IsStopAnswer n stop answer) same line }
halted s files stop names halts.NoMemory same cause line = tt

-- The choices file that a command reads is short.
use Rattle.std.proofs.Common.{◌<◌, ◌≤◌, arith, ℕ, List, length, Option, Some, None}
use Rattle.outside.specs.Files.{Contents}
use Rattle.command_inputs.specs.Inputs.{AreFileTexts, FileNames, FileText, FileTexts, IsFileText}
use Rattle.run_inputs.specs.Runs.{IsShortFile}

short_file : (told : Option Contents) (name : Option (List ℕ)) (file : Option FileText) → IsFileText told name file → IsShortFile file
short_file told None None is = tt
short_file told (Some name) None is = absurd is
short_file told None (Some file) is = absurd is
short_file told (Some name) (Some file) (same, content, fits) = omega (arith, fits)

pub short_choices : (told : Option Contents) (names : FileNames) (files : FileTexts) → AreFileTexts told names files → IsShortFile files.choices
short_choices told names files are = short_file told names.choices files.choices are.choices

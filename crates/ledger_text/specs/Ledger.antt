-- The text of a run: the lines of its ledger, and how it ended.
use Rattle.std.specs.Prelude.{ℕ, Option, Some, None, List, ◌++◌, codes, decimal}
use Rattle.std.specs.List.{flat_map}
use Rattle.program_model.specs.declared.kinds.ClassId.{ClassId}
use Rattle.program_model.specs.declared.program.Program.{Program}
use Rattle.ledger_state.specs.declared.entry.Entry.{Entry}
use Rattle.ledger_text.specs.declared.how.How.{How}
use Rattle.ledger_text.specs.declared.how.How.TheVariants as hows
use Rattle.program_texts.specs.Texts.{class_text}
use Rattle.ledger_text.specs.Lines.{entry_line, line_end}

abbrev pub ended_line : Program → Option ClassId → List ℕ
ended_line p None = codes "ended\n"
ended_line p (Some c) = codes "ended by " ++ (class_text p c ++ codes "\n")

-- the last line, where `n` steps were asked for
abbrev pub last_line : Program → List (List ℕ) → How → ℕ → List ℕ
last_line p files (hows.Ended e) n = ended_line p e
last_line p files (hows.Stray c pos) n = codes "stray " ++ (class_text p c ++ line_end files pos)
last_line p files hows.Cut n = codes "cut after " ++ (decimal n ++ codes " steps\n")

abbrev pub entry_lines : Program → List (List ℕ) → List Entry → List ℕ
entry_lines p files es = flat_map (entry_line p files) es

-- the whole text
abbrev pub ledger_text : Program → List (List ℕ) → List Entry → How → ℕ → List ℕ
ledger_text p files es how n = entry_lines p files es ++ last_line p files how n

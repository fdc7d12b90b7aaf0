-- The text of a report.
use Rattle.std.specs.Prelude.{ℕ, List, ◌++◌, codes}
use Rattle.program_model.specs.declared.program.Program.{Program}
use Rattle.program_texts.specs.Texts.{class_text, line_text, place_text}
use Rattle.control_actions.specs.declared.fact.Origin.{Origin}
use Rattle.leak_report.specs.declared.report.Report.{Report}
use Rattle.leak_report.specs.Words.{origin_word, rule_word}
use Rattle.leak_report.specs.MissingNames.{missing_text}
use Rattle.leak_report.specs.Steps.{path_text}

-- FILE:LINE:COL: RULE missing NAMES
abbrev pub head_line : Program → List (List ℕ) → Report → List ℕ
head_line p files r = place_text files r.at ++ (codes ": " ++ (rule_word r.rule ++ (codes " missing" ++ (missing_text p r.missing ++ codes "\n"))))

-- where and how the obligation began, and on an object of which class
abbrev pub origin_line : Program → Origin → List ℕ
origin_line p o = codes "  origin " ++ (origin_word o.kind ++ (codes " " ++ (class_text p o.class ++ (codes " " ++ (line_text o.pos ++ codes "\n")))))

abbrev pub report_text : Program → List (List ℕ) → Report → List ℕ
report_text p files r = head_line p files r ++ (origin_line p r.origin ++ path_text p r.path.items)

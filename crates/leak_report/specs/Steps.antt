-- The lines of a path.
use Rattle.std.specs.Prelude.{ℕ, Bool, ◌-◌, Option, Some, None, List, [], ◌++◌, cond, nat_lt, length, filter, take, drop, codes, decimal}
use Rattle.std.specs.List.{flat_map}
use Rattle.std.specs.Option.{is_some}
use Rattle.program_model.specs.declared.program.Program.{Program}
use Rattle.program_texts.specs.Texts.{line_text}
use Rattle.flow_rules.specs.declared.path_step.PathStep.{PathStep}
use Rattle.leak_report.specs.Words.{action_word, edge_text}

abbrev pub word_line : Program → PathStep → Option (List ℕ) → List ℕ
word_line p s None = []
word_line p s (Some word) = codes "  " ++ (line_text s.pos ++ (codes " " ++ (word ++ (codes " " ++ (edge_text p s.edge ++ codes "\n")))))

-- the line of a step: its place, its word, and the way by which it goes on
abbrev pub step_line : Program → PathStep → List ℕ
step_line p s = word_line p s (action_word s.action)

-- a step that does something has a line
abbrev pub is_shown : PathStep → Bool
is_shown s = is_some (action_word s.action)

abbrev pub step_lines : Program → List PathStep → List ℕ
step_lines p steps = flat_map (step_line p) steps

-- how many lines of a long path stand at each end
abbrev pub end_lines : ℕ
end_lines = 100

-- a long path without its middle
abbrev pub ends_of : Program → List PathStep → List ℕ
ends_of p shown = step_lines p (take end_lines shown) ++ (codes "  .. " ++ (decimal (length shown - 200) ++ (codes " steps\n" ++ step_lines p (drop (length shown - end_lines) shown))))

abbrev pub shown_lines : Program → List PathStep → List ℕ
shown_lines p shown = cond (nat_lt 200 (length shown)) (ends_of p shown) (step_lines p shown)

abbrev pub path_text : Program → List PathStep → List ℕ
path_text p path = shown_lines p (filter is_shown path)

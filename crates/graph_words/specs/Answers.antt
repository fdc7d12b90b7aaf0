-- What is answered on the body of a method.
use Rattle.std.specs.Prelude.{◌≡◌, ℕ, Bool, None, Some, List, [], ◌++◌, codes, decimal, length}
use Rattle.program_model.specs.declared.kinds.BodyId.{BodyId}
use Rattle.program_model.specs.declared.program.Program.{Program}
use Rattle.program_model.specs.declared.tree.Body.{Body}
use Rattle.program_model.specs.Lookups.{body_at}
use Rattle.program_texts.specs.Texts.{line_text}
use Rattle.rlc_base.specs.Codes.{number_of}
use Rattle.rlc_base.specs.declared.faults.Refusal.{Refusal}
use Rattle.rlc_base.specs.declared.faults.Stop.TheVariants as stops
use Rattle.control_actions.specs.Remaining.{Todo}
use Rattle.java_cfg.specs.Graphs.{IsGraphOf}
use Rattle.java_cfg.specs.Limits.{IsCause}
use Rattle.java_cfg.specs.declared.arc.Arc.{Arc}
use Rattle.graph_words.specs.Arcs.{graph_lines}

-- a refusal: its code, and the line and the column of its place
abbrev pub refusal_line : Refusal → List ℕ
refusal_line r = decimal (number_of r.code) ++ (codes " " ++ (line_text r.pos ++ codes "\n"))

-- the text is the graph of the body, with or without its arcs, or the refusal that says why it has none
pub data IsAnswer (p : Program) (number : BodyId) (with_arcs : Bool) (text : List ℕ) : Type 0 where
  Drawn : (b : Body) (nodes : List (List Todo)) (rows : List (List Arc)) → body_at p number ≡ Some b → IsGraphOf p number nodes rows
      → text ≡ graph_lines p b with_arcs rows (length nodes) → IsAnswer p number with_arcs text
  Refused : (r : Refusal) → IsCause p number (stops.TooMuch r) → text ≡ refusal_line r → IsAnswer p number with_arcs text
  -- a number of no body
  Absent : body_at p number ≡ None → text ≡ [] → IsAnswer p number with_arcs text

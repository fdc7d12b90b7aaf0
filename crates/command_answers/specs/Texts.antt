-- The texts of refusals and of failed reads. Each is one line, which ends with a line feed.
use Rattle.std.specs.Prelude.{ℕ, List, [], ◌∷◌, ◌++◌, codes}
use Rattle.std.specs.Fmt.{decimal}
use Rattle.rlc_base.specs.Codes.{number_of, name_of}
use Rattle.rlc_base.specs.declared.code.Code.{Code}
use Rattle.rlc_base.specs.declared.faults.Refusal.{Refusal}

-- FILE:LINE:COL: NUMBER NAME
abbrev pub refusal_text : List ℕ → Refusal → List ℕ
refusal_text name r =
    name ++ codes ":" ++ decimal r.pos.line ++ codes ":" ++ decimal r.pos.col ++ codes ": " ++ decimal (number_of r.code) ++ codes " "
    ++ name_of r.code ++ 10 ∷ []

-- FILE: NUMBER NAME, of a refusal that has no place
abbrev pub placeless_text : List ℕ → Code → List ℕ
placeless_text name code = name ++ codes ": " ++ decimal (number_of code) ++ codes " " ++ name_of code ++ 10 ∷ []

-- read fault NAME
abbrev pub read_fault_text : List ℕ → List ℕ
read_fault_text name = codes "read fault " ++ (name ++ 10 ∷ [])

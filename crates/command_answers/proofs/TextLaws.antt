-- The text of a refusal, as it is written piece by piece.
use Rattle.std.proofs.Common.{◌≡◌, ◌∙◌, ◌∷◌, ◌++◌, [], List, ℕ, ap, append_assoc, codes}
use Rattle.std.specs.Fmt.{decimal}
use Rattle.rlc_base.specs.Codes.{number_of, name_of}
use Rattle.rlc_base.specs.declared.code.Code.{Code}
use Rattle.rlc_base.specs.declared.faults.Refusal.{Refusal}
use Rattle.command_answers.specs.Texts.{placeless_text, refusal_text}

regrouped : (a b c d e f g h i j : List ℕ) → a ++ (b ++ (c ++ (d ++ (e ++ (f ++ (g ++ (h ++ (i ++ j)))))))) ≡ a ++ b ++ c ++ d ++ e ++ f ++ g ++ h ++ i ++ j
regrouped a b c d e f g h i j = simp append_assoc

pub grouped : (name : List ℕ) (r : Refusal) (number : ℕ) (cause : List ℕ) → number ≡ number_of r.code → cause ≡ name_of r.code
    → name ++ (codes ":" ++ (decimal r.pos.line ++ (codes ":" ++ (decimal r.pos.col ++ (codes ": " ++ (decimal number ++ (codes " " ++ (cause ++ 10 ∷ [])))))))) ≡ refusal_text name r
grouped name r number cause same_number same_cause =
    regrouped name (codes ":") (decimal r.pos.line) (codes ":") (decimal r.pos.col) (codes ": ") (decimal number) (codes " ") cause (10 ∷ [])
    ∙ ap (λ (n : ℕ). name ++ codes ":" ++ decimal r.pos.line ++ codes ":" ++ decimal r.pos.col ++ codes ": " ++ decimal n ++ codes " " ++ cause ++ 10 ∷ []) same_number
    ∙ ap (λ (n : List ℕ). name ++ codes ":" ++ decimal r.pos.line ++ codes ":" ++ decimal r.pos.col ++ codes ": " ++ decimal (number_of r.code) ++ codes " " ++ n ++ 10 ∷ []) same_cause

regrouped_placeless : (a b c d e f : List ℕ) → a ++ (b ++ (c ++ (d ++ (e ++ f)))) ≡ a ++ b ++ c ++ d ++ e ++ f
regrouped_placeless a b c d e f = simp append_assoc

pub grouped_placeless : (name : List ℕ) (code : Code) (number : ℕ) (cause : List ℕ) → number ≡ number_of code → cause ≡ name_of code
    → name ++ (codes ": " ++ (decimal number ++ (codes " " ++ (cause ++ 10 ∷ [])))) ≡ placeless_text name code
grouped_placeless name code number cause same_number same_cause =
    regrouped_placeless name (codes ": ") (decimal number) (codes " ") cause (10 ∷ [])
    ∙ ap (λ (n : ℕ). name ++ codes ": " ++ decimal n ++ codes " " ++ cause ++ 10 ∷ []) same_number
    ∙ ap (λ (n : List ℕ). name ++ codes ": " ++ decimal (number_of code) ++ codes " " ++ n ++ 10 ∷ []) same_cause

use Rattle.std.proofs.Common.{◌≤◌, ◌∷◌, ◌∙◌, [], subst, ℕ, List, length}
use Rattle.outside.specs.Files.{max_file}
use Rattle.program_generator.specs.Generation.{program_text}
use Rattle.check_command.specs.Generated.{IsCountedAnswer, short}
use Rattle.check_command.proofs.generated.generated_answer.Goals as goal

pub returns-in-Ok : goal.returns-in-Ok
returns-in-Ok c =
    let fits : length (program_text c.args.seed c.args.methods) ≤ max_file =
    subst (λ (text : List ℕ). length text ≤ max_file) (c.bytes.ensures ∙ c.in_ok-text.ensures) c.if-bytes-gt-MAX_FILE.false in
    short fits (subst (λ (text : List ℕ). IsCountedAnswer c.args.methods (text ∷ []) c.in-Ok.answer) c.in_ok-text.ensures c.in-Ok.ensures)

pub returns-in-Err-Answered : goal.returns-in-Err-Answered
returns-in-Err-Answered c =
    let fits : length (program_text c.args.seed c.args.methods) ≤ max_file =
    subst (λ (text : List ℕ). length text ≤ max_file) (c.bytes.ensures ∙ c.in_ok-text.ensures) c.if-bytes-gt-MAX_FILE.false in
    short fits
    (subst (λ (text : List ℕ). IsCountedAnswer c.args.methods (text ∷ []) c.in-Err-Answered.answer) c.in_ok-text.ensures (rw c.in-Err-Answered.field-0-is at c.in-Err-Answered.ensures))

-- A safe run does not leak.
use Rattle.std.proofs.Common.{◌≢◌, ℕ, false, ap, ◌∙◌, sym}
use Rattle.program_model.specs.declared.kinds.MethodId.{MethodId}
use Rattle.program_model.specs.declared.program.Program.{Program}
use Rattle.command_answers.specs.declared.answers.Outcome.TheVariants as outcomes
use Rattle.ledger_text.specs.declared.how.How.{How}
use Rattle.ledger_text.specs.declared.how.How.TheVariants as hows
use Rattle.run_command.specs.Runs.{run}
use Rattle.run_command.specs.RunAnswers.{outcome_of, run_outcome}
use Rattle.stub_conduct.specs.declared.choice.Choices.{Choices}
use Rattle.content_laws.specs.Safety.{IsMain, IsSafe}
use Rattle.content_laws.specs.Accept.{Accept}
use Rattle.content_laws.specs.AgreementConditions.{MeetsFileConditions}
pub use Rattle.soundness_laws.proofs.SoundnessRuns.{accepted_is_safe}

without_leak : (how : How) → outcome_of false how ≢ outcomes.Leaks
without_leak (hows.Ended e) same = cc
without_leak (hows.Stray c pos) same = cc
without_leak hows.Cut same = cc

pub leaks_nothing : (p : Program) → IsSafe p → (main : MethodId) (choices : Choices) (n : ℕ) → IsMain p main → run_outcome (run p main choices n) ≢ outcomes.Leaks
leaks_nothing p safe main choices n is same =
    without_leak (run p main choices n).how (sym (ap (λ b. outcome_of b (run p main choices n).how) (safe main choices n is).no_leak) ∙ same)

pub accepted_leaks_nothing : (p : Program) → Accept p → MeetsFileConditions p → (main : MethodId) (choices : Choices) (n : ℕ) → IsMain p main
    → run_outcome (run p main choices n) ≢ outcomes.Leaks
accepted_leaks_nothing p ac files main choices n is = leaks_nothing p (accepted_is_safe p ac files) main choices n is
